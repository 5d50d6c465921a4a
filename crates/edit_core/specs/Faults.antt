-- What keeps a record from being edited (ours).
use Rattle.std.specs.Prelude.{ℕ, Bool, true, false, List, Option, Some, option_map}
use Rattle.definitions.specs.Cards.{Card}
use Rattle.cards.specs.{declared.edits.Edit.Edit, declared.edits.EditFault.EditFault, Edits.{fault_of, first_fault}}
use Rattle.cards.specs.declared.edits.EditFault.TheVariants as edit_fault
use Rattle.edit_core.specs.declared.faults.RecordFault.{RecordFault, TheVariants.{Spent, NoSuchCard, DeckFull}}

-- the fault of an edit, as one of a record
abbrev pub record_fault : EditFault → RecordFault
record_fault edit_fault.NoSuchCard = NoSuchCard
record_fault edit_fault.DeckFull = DeckFull

-- what keeps a record of these cards from this edit: it is spent; else what keeps the cards from it
abbrev pub against : Edit → Bool → List Card → Option RecordFault
against edit true cards = Some Spent
against edit false cards = option_map record_fault (fault_of edit cards)

-- the fault of the first of edits that does not apply to what the ones before it leave
abbrev pub edits_fault : List Edit → List Card → Option RecordFault
edits_fault edits cards = option_map (λ (found : ℕ × EditFault). record_fault found.1) (first_fault edits cards)

-- what keeps a record of these cards from these edits: it is spent; else the first of them that does not apply
abbrev pub against_all : List Edit → Bool → List Card → Option RecordFault
against_all edits true cards = Some Spent
against_all edits false cards = edits_fault edits cards
