-- What one call reads of a journal (ours).
use Rattle.std.specs.{Prelude.{ℕ, ◌≡◌, ◌-◌, ◌^◌, ◌<◌, ◌≤◌, ◌⊎◌, List, [], ◌++◌, Option, None, length}, Io.KnownBytes.{Consumes, IsAtEnd}}
use Rattle.text_ports.specs.Faults.{count_up}
use Rattle.journal.specs.{declared.beginning.Open.Open, declared.places.Place.Place, declared.places.Ending.Ending, declared.places.Ending.TheVariants.{Whole, Cut, Faulty}, declared.reading.Next.Next, declared.reading.Next.TheVariants.{Found, Ended}, declared.reading.JournalFault.JournalFault, declared.reading.JournalFault.TheVariants.{ReadFault, OutOfMemory}, Journals.{ends, in_front, journal_from, cut_at, faulty_at}}

-- what the bytes that were taken are where a journal ends: all that it has left; or no record, whatever follows
abbrev pub TellsEnd : Option Open → Place → Ending → List ℕ → Option (List ℕ) → Type 0
TellsEnd current place Whole taken left = (journal_from current place taken ≡ ends Whole) × IsAtEnd left
TellsEnd current place (Cut begin) taken left = (journal_from current place taken ≡ ends (Cut begin)) × IsAtEnd left
TellsEnd current place (Faulty number begin) taken left = (rest : List ℕ) → journal_from current place (taken ++ rest) ≡ ends (Faulty number begin)

-- what the bytes that were taken are: the next record, whatever follows; or the end
abbrev pub Tells : Place → Place → Next → List ℕ → Option (List ℕ) → Type 0
Tells place next (Found found) taken left = (rest : List ℕ) → journal_from None place (taken ++ rest) ≡ in_front found (journal_from None next rest)
Tells place next (Ended ending) taken left = TellsEnd None place ending taken left

-- the reader lost the bytes of this answer and no others
pub record ReadsNext (old new : Option (List ℕ)) (place next : Place) (found : Next) : Type 0 where
  pub taken : List ℕ
  pub consumed : Consumes old new taken
  pub told : Tells place next found taken new

-- the reader lost the bytes with which a journal ends, where a record is open or not
pub record EndsIn (old new : Option (List ℕ)) (current : Option Open) (place : Place) (ending : Ending) : Type 0 where
  pub taken : List ℕ
  pub consumed : Consumes old new taken
  pub told : TellsEnd current place ending taken new

-- what stands behind a damaged record: nothing; or something, and so it is not the last
pub data EndsWrong (old new : Option (List ℕ)) (place : Place) (ending : Ending) : Type 0 where
  nothing : Consumes old new [] → IsAtEnd new → ending ≡ cut_at place → EndsWrong old new place ending
  something : (taken : List ℕ) → Consumes old new taken → 0 < length taken → ending ≡ faulty_at place → EndsWrong old new place ending

-- the reader gave as many bytes as can be counted
pub record GivesTooMuch (old new : Option (List ℕ)) : Type 0 where
  pub taken : List ℕ
  pub consumed : Consumes old new taken
  pub many : 2 ^ 64 - 1 ≤ length taken

-- why a reader is not read on, whose faults are counted: it failed, or gave as many bytes as can be counted; or there is no memory
abbrev pub StopsReading : Option (List ℕ) → Option (List ℕ) → ℕ → ℕ → JournalFault → Type 0
StopsReading old new before after ReadFault = (after ≡ count_up before) ⊎ ((after ≡ before) × GivesTooMuch old new)
StopsReading old new before after OutOfMemory = after ≡ before
