use Rattle.std.proofs.Common.{◌≡◌, ◌++◌, None, drop}
use Rattle.desk_core.specs.Joins.{Edits.{first_fault, edited_by}, Stored.backs_made}
use Rattle.desk_core.proofs.past.edited_cards.Given as goal

abbrev pub invariant-loop-edit : goal.invariant-loop-edit
invariant-loop-edit l = record {
  applies : first_fault (drop l.edit-index l.edits) l.edited ≡ None;
  made : edited_by (drop l.edit-index l.edits) l.edited ≡ edited_by l.edits l.cards;
  kept : l.backs.items ++ backs_made l.by (drop l.edit-index l.edits) l.edited ≡ backs_made l.by l.edits l.cards;
}
