use Rattle.std.{proofs.Common.{◌≡◌, ◌+◌, ◌++◌, ◌∷◌, ◌∙◌, ℕ, List, Some, length, ap, ap₂, sym, arith}, specs.Option.option_eq}
use Rattle.indexmap.specs.IndexMap.{insert_entry}
use Rattle.definitions.specs.{Characters.same_text, Lengths.{BlockLength, BlockRow, local_words, placed_row, rows_from, total_length}}
use Rattle.use_blocks.{specs.Joins.BlockLengths.lengths_shown, specs.Joins.KeyedRows.keyed_rows, proofs.RowLaws.placed-more}
use Rattle.use_blocks.proofs.bases.place_blocks.Goals as goal

pub loop-name-preserved : goal.loop-name-preserved
loop-name-preserved c =
    let entries = c.args.blocks.now.entries in
    let left = c.next.new.self in
    let before = c.loop-name.rows.entries in
    let end = c.loop-name.end in
    let block_of : List ℕ → BlockLength = λ name. record { name = name; words = c.in-Some.words.now } in
    let block : BlockLength = block_of c.in-Some.name.now in
    let row : c.placed-row.result ≡ placed_row end block = c.placed-row.ensures ∙ ap (λ (n : List ℕ). placed_row end (block_of n)) c.name.ensures in
    let takes : c.local_words.result ≡ local_words (placed_row end block) = c.local_words.ensures ∙ ap local_words row in
    let name : c.new.result ≡ block.name = c.new.ensures ∙ c.name-in-loop-name.ensures in
    let all : before ++ keyed_rows (rows_from end (block ∷ lengths_shown left)) ≡ keyed_rows (rows_from 0 (lengths_shown entries)) =
    ap (λ (rest : List (List ℕ × ℕ)). before ++ keyed_rows (rows_from end (lengths_shown rest))) (sym c.in-Some.ensures.steps) ∙ c.loop-name.invariant.rows in
    let sum : end + total_length (rows_from end (block ∷ lengths_shown left)) ≡ total_length (rows_from 0 (lengths_shown entries)) =
    ap (λ (rest : List (List ℕ × ℕ)). end + total_length (rows_from end (lengths_shown rest))) (sym c.in-Some.ensures.steps) ∙ c.loop-name.invariant.sum in
    let added = c.in_ok-insert.ensures.entries ∙ ap₂ (λ (n : List ℕ) (r : BlockRow). insert_entry (option_eq same_text) before (Some n) r) name row in
    record {
      rows = ap (λ (n : ℕ). c.insert.new.self.entries ++ keyed_rows (rows_from (end + n) (lengths_shown left))) takes
          ∙ placed-more before c.insert.new.self.entries end block left entries all c.iter-name-items.ensures.unique added;
      sum = rw takes (omega (arith, sum));
      small = omega (arith, ap length c.in-Some.ensures.steps, c.loop-name.invariant.small);
    }
