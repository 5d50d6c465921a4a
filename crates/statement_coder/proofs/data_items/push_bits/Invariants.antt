use Rattle.std.proofs.Common.{ℕ, ◌≡◌, ◌≤◌, List, ◌++◌, length, map}
use Rattle.definitions.specs.{Operands.BitsOperand, Settled.Settled, StatementItems.operand_items}
use Rattle.statement_coder.{specs.Joins.Items.{AreSeen, deck_with, item_as}, specs.Joins.CodedItems.IsKept, proofs.BitLaws.bits_behind}
use Rattle.statement_coder.proofs.data_items.push_bits.Given as goal

-- the fields so far, and those that are left
abbrev pub invariant-fields : goal.invariant-fields
invariant-fields g l = record {
  kept : IsKept l.initial.list.items l.list.items;
  few : l.filled ≤ 60;
  told : (settled : List Settled) (literals : List ℕ) (statement : Settled) →
      let context = deck_with l.kind (g.B.BlockBases.rows l.bases) settled literals in
      AreSeen (g.N.Names.names l.names) context statement →
      map item_as l.list.items ++ bits_behind context statement l.filled l.rest
      ≡ map item_as l.initial.list.items ++ operand_items context statement (BitsOperand l.fn.fields);
}

abbrev pub decreases-fields : goal.decreases-fields
decreases-fields g l = length l.rest
