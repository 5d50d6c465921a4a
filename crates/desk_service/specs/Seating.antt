-- The threads of a service (ours): how many there are, and of which numbers, for whom and where they work.
use Rattle.std.specs.{Prelude.{◌≡◌, ℕ, ◌+◌, Bool, List, Option, None, Some}, List.range_with_len}
use Rattle.session_line.specs.declared.rights.Rights.{Rights}
use Rattle.desk_service.specs.{Company.rights_at, declared.settings.Settings.Settings}

-- how many threads serve sessions: those that may edit, and the readers
abbrev pub session_count : Settings → ℕ
session_count settings = settings.sessions + settings.readers

-- sessions have the numbers from 0 on: among the shelves of the folder, where they are served, and in the journal
abbrev pub AreForSessions : ℕ → List ℕ → List ℕ → List ℕ → Type 0
AreForSessions count numbers sessions ends = (numbers ≡ range_with_len 0 count) × (sessions ≡ range_with_len 0 count) × (ends ≡ range_with_len 0 count)

-- a session with the rights of its number, that ends after one connection where the settings say so, over the folder of the settings
abbrev pub IsServedFor : Settings → ℕ → Rights → Bool → List ℕ → Type 0
IsServedFor settings session rights once folder = (rights ≡ rights_at settings.sessions session) × (once ≡ settings.once) × (folder ≡ settings.root.now)

-- how many threads the page has: four where browsers come in, and else none
abbrev pub page_threads : {X : Type 0} → Option X → ℕ
page_threads None = 0
page_threads (Some door) = 4

-- they have the numbers behind the sessions': among the shelves of the folder, and in the journal
abbrev pub AreForPage : {X : Type 0} → Settings → Option X → List ℕ → List ℕ → Type 0
AreForPage settings door numbers ends =
    (numbers ≡ range_with_len (session_count settings) (page_threads door)) × (ends ≡ range_with_len (session_count settings) (page_threads door))

-- one works over the folder of the settings, at a seat of the office
abbrev pub IsPlaceOf : {X : Type 0} → Settings → X → List ℕ → X → Type 0
IsPlaceOf settings office folder seated = (folder ≡ settings.root.now) × (seated ≡ office)
