use Rattle.std.proofs.Common.{◌≡◌, length}
use Rattle.deck_assembler.proofs.same_bindings.are_rows_same.Given as goal

-- all rows are the same where those that are left are
abbrev pub invariant-rows : goal.invariant-rows
invariant-rows l = l.left ≡ l.other → l.rows ≡ l.others

abbrev pub decreases-rows : goal.decreases-rows
decreases-rows l = length l.left
