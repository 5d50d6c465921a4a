use Rattle.std.proofs.Common.{◌≡◌, None, drop}
use Rattle.cards.specs.Edits.{first_fault, edited_by}
use Rattle.cards.proofs.copies.edited_copy.Given as goal

abbrev pub invariant-loop-edit : goal.invariant-loop-edit
invariant-loop-edit l = record {
  applies : first_fault (drop l.edit-index l.edits) l.copies.items ≡ None;
  made : edited_by (drop l.edit-index l.edits) l.copies.items ≡ edited_by l.edits l.cards;
}
