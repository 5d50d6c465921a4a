-- The words of rows.
use Rattle.std.proofs.Common.{◌≡◌, ◌+◌, List, [], ◌∷◌, ◌++◌, arith}
use Rattle.definitions.specs.Lengths.{BlockRow, local_words, total_length}

-- a row behind others adds its words
pub total-push : (rows : List BlockRow) (row : BlockRow) → total_length (rows ++ row ∷ []) ≡ total_length rows + local_words row
total-push [] row = omega arith
total-push (first ∷ rows) row = omega (arith, total-push rows row)
