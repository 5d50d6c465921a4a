use Rattle.std.proofs.Common.{ℕ, ◌≡◌, List, ◌++◌, flat_map, length, map}
use Rattle.definitions.specs.{Kinds.word_bits, Operands.WordsOperand, Settled.Settled, StatementItems.operand_items}
use Rattle.statement_coder.specs.Joins.{Items.{AreSeen, deck_with, item_as}, CodedItems.IsKept, WordItems.in_words}
use Rattle.statement_coder.proofs.data_items.push_con.Given as goal

-- the fields so far, and those that are left
abbrev pub invariant-words : goal.invariant-words
invariant-words g l = record {
  kept : IsKept l.initial.list.items l.list.items;
  told : (settled : List Settled) (literals : List ℕ) (statement : Settled) →
      let context = deck_with l.kind (g.B.BlockBases.rows l.bases) settled literals in
      AreSeen (g.N.Names.names l.names) context statement →
      map item_as l.list.items ++ flat_map (in_words (word_bits l.kind)) (operand_items context statement (WordsOperand l.rest))
      ≡ map item_as l.initial.list.items ++ flat_map (in_words (word_bits l.kind)) (operand_items context statement (WordsOperand l.fn.words));
}

abbrev pub decreases-words : goal.decreases-words
decreases-words g l = length l.rest
