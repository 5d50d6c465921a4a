-- What is known of the record of a change before the desk has made it (ours).
use Rattle.std.specs.Prelude.{ℕ, Bool, true, false, List, Option, Some, None}
use Rattle.desk_core.specs.declared.calls.Change.{Change}
use Rattle.journal.specs.{declared.drafts.Stamp.Stamp, declared.drafted.Drafted.Drafted, declared.drafted.Drafted.TheVariants.{Whole, Open}, Drafts.{carried_deck, stamped_text}}

-- what is known before: where a deck is carried when and by whom it is asked for, and else the record
abbrev pub drafted_by : Option (List ℕ) → Stamp → Change → Drafted
drafted_by (Some name) stamp change = Open stamp name
drafted_by None stamp change = Whole (stamped_text stamp change)

abbrev pub drafted : Stamp → Change → Drafted
drafted stamp change = drafted_by (carried_deck change) stamp change

-- whether the record is known before
abbrev pub is_whole : Drafted → Bool
is_whole (Whole draft) = true
is_whole (Open stamp name) = false
