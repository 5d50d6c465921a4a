use Rattle.std.{proofs.Common.{◌≡◌, ◌+◌, ◌*◌, ◌∷◌, ◌++◌, length, drop}, specs.List.flat_map}
use Rattle.definitions.specs.Statements.{text_of}
use Rattle.cards.proofs.ColumnLaws.{comma_columns}
use Rattle.cards.proofs.statement_room.StatementRoom.join.Given as goal

-- the text so far, and the comma cards that are left, are the text
abbrev pub invariant-loop-card : goal.invariant-loop-card
invariant-loop-card l = record {
  split : l.self-inside.text ++ flat_map comma_columns (drop l.card-index l.others) ≡ text_of (l.first ∷ l.others);
  long : length l.self-inside.text ≡ 72 + 71 * l.card-index;
}
