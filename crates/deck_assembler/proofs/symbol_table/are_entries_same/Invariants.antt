use Rattle.std.proofs.Common.{◌≡◌, length}
use Rattle.deck_assembler.proofs.symbol_table.are_entries_same.Given as goal

-- all entries are the same where those that are left are
abbrev pub invariant-entries : goal.invariant-entries
invariant-entries l = l.left ≡ l.other → l.forms.entries ≡ l.others.entries

abbrev pub decreases-entries : goal.decreases-entries
decreases-entries l = length l.left
