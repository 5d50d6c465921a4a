use Rattle.std.proofs.Common.{ℕ, ◌≤◌, All, take}
use Rattle.edit_core.specs.Edited.{front_of}
use Rattle.edit_core.proofs.fronts.cards_before_all.Given as goal

-- the least of the edits so far
abbrev pub invariant-loop-edit : goal.invariant-loop-edit
invariant-loop-edit l = record {
  all : All (λ edit. l.before ≤ front_of edit) (take l.edit-index l.edits);
  most : (count : ℕ) → count ≤ 20000 → All (λ edit. count ≤ front_of edit) l.edits → count ≤ l.before;
}
