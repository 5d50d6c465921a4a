use Rattle.std.proofs.Common.{◌∙◌, ℕ, Some, option_map, sym, ap}
use Rattle.cards.specs.declared.edits.EditFault.{EditFault}
use Rattle.edit_core.specs.Faults.{record_fault}
use Rattle.deck_workers.specs.{Joins.Language.RecordFault, Jobs.start_cards}
use Rattle.deck_workers.proofs.assembling.edits_fault.Goals as goal

-- the fault that was found, as one of a record
abbrev found_fault : ℕ × EditFault → RecordFault
found_fault found = record_fault found.1

pub returns-in-Some : goal.returns-in-Some
returns-in-Some c = ap Some c.from.ensures ∙ ap (option_map found_fault) (sym c.in-Some.is ∙ c.first_fault.ensures (start_cards c.args.start.now) c.start_len.ensures)

pub returns-in-None : goal.returns-in-None
returns-in-None c = ap (option_map found_fault) (sym c.in-None.is ∙ c.first_fault.ensures (start_cards c.args.start.now) c.start_len.ensures)
