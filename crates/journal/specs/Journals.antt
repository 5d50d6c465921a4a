-- A journal (ours): the records of its bytes, and how it ends.
use Rattle.std.specs.{Prelude.{ℕ, ◌+◌, ◌==◌, List, [], ◌∷◌, Option, Some, None, true, false, nat_lt, length, if◌then◌else◌}, List.slice_split}
use Rattle.definitions.specs.Characters.{line_feed}
use Rattle.journal.specs.{declared.records.Record.Record, declared.places.Place.Place, declared.places.Ending.Ending, declared.places.Ending.TheVariants.{Whole, Cut, Faulty}, declared.beginning.Open.Open, declared.steps.Step.TheVariants.{Goes, Ends, Wrong, Bad}, Places.{capped, at_start, advanced, behind_record}, Steps.line_step}

-- the records of a journal, and how it ends
pub record Journal : Type 0 where
  pub records : List Record
  pub ending : Ending

-- no record, and this end
abbrev pub ends : Ending → Journal
ends ending = record { records = []; ending = ending }

-- a record in front of a journal
abbrev pub in_front : Record → Journal → Journal
in_front first journal = record journal { records = first ∷ journal.records }

-- the record that begins here is the last, and cut or damaged
abbrev pub cut_at : Place → Ending
cut_at place = Cut place.begin

-- what begins here is no record
abbrev pub faulty_at : Place → Ending
faulty_at place = Faulty (capped (place.records + 1)) place.begin

-- how many bytes a line may have
abbrev pub most_bytes : ℕ
most_bytes = 256

-- what stands behind the last line feed: nothing behind a whole record, or else a record that is cut
abbrev pub last_ending : Option Open → Place → List ℕ → Ending
last_ending None place [] = Whole
last_ending _ place tail = if nat_lt most_bytes (length tail) then faulty_at place else cut_at place

-- a record whose check sum is wrong, in front of the rest: nothing may follow
abbrev pub wrong_ending : Place → List (List ℕ) → Ending
wrong_ending place ([] ∷ []) = cut_at place
wrong_ending place _ = faulty_at place

-- the journal of what stands between line feeds, where a record is open or not
abbrev pub read_on : Option Open → Place → List (List ℕ) → Journal
read_on current place [] = ends Whole
read_on current place (tail ∷ []) = ends (last_ending current place tail)
read_on current place (line ∷ next ∷ pieces) = elim (nat_lt most_bytes (length line)) [
  | true ↦ ends (faulty_at place)
  | false ↦ elim (line_step current line) [
    | Goes more ↦ read_on (Some more) (advanced (length line + 1) place) (next ∷ pieces)
    | Ends whole ↦ in_front whole (read_on None (behind_record (advanced (length line + 1) place)) (next ∷ pieces))
    | Wrong ↦ ends (wrong_ending place (next ∷ pieces))
    | Bad ↦ ends (faulty_at place)
  ]
]

-- the journal of bytes that stand at a place
abbrev pub journal_from : Option Open → Place → List ℕ → Journal
journal_from current place bytes = read_on current place (slice_split (λ b. b == line_feed) bytes)

-- the journal of some bytes
abbrev pub journal_of : List ℕ → Journal
journal_of bytes = journal_from None at_start bytes
