use Rattle.std.{proofs.Common.{◌≡◌, ◌+◌, ◌++◌, ◌∷◌, [], ◌∙◌, ℕ, List, None, false, refl, ap, ap₂, sym, subst, length}, specs.Map.values_of, specs.Option.option_eq}
use Rattle.indexmap.specs.IndexMap.{insert_entry}
use Rattle.definitions.specs.{Blocks.is_common, Characters.same_text, Lengths.{BlockLength, BlockRow, local_words, rows_from, rows_of, total_length}}
use Rattle.use_blocks.{specs.Joins.BlockLengths.lengths_shown, specs.Joins.KeyedRows.{KeyedRow, AreKeyed}, proofs.BaseLaws.total-push, proofs.RowLaws.{literals-join, literals-keyed, literals-shown, literals_behind, rows-alone, rows-before, rows-keyed, rows-shown}}
use Rattle.use_blocks.proofs.bases.Bases.new.Goals as goal

pub found-requires-clause-keyed : goal.found-requires-clause-keyed
found-requires-clause-keyed c = subst AreKeyed (sym c.in_ok-end.ensures.rows) (rows-keyed (rows_from 0 (lengths_shown c.blocks-blocks.result.now.entries)))

pub found-requires-clause-end : goal.found-requires-clause-end
found-requires-clause-end c =
    let rows = rows_from 0 (lengths_shown c.blocks-blocks.result.now.entries) in c.in_ok-end.ensures.end ∙ sym (ap total_length (ap values_of c.in_ok-end.ensures.rows ∙ rows-shown rows))

pub returns-then-words-eq0 : goal.returns-then-words-eq0
returns-then-words-eq0 c =
    let blocks = lengths_shown c.blocks-blocks.result.now.entries in
    let literals = c.args.literals.now in
    let none : length literals ≡ 0 = sym c.len-words.ensures.words ∙ c.if-words-eq0.true in
    record {
      rows = c.found.ensures ∙ ap values_of c.in_ok-end.ensures.rows
          ∙ rows-shown (rows_from 0 blocks)
          ∙ rows-alone blocks literals none
          ∙ ap (λ (bs : List BlockLength). rows_of bs literals) c.blocks-blocks.ensures.blocks;
    }

pub found-requires-2-clause-keyed : goal.found-requires-2-clause-keyed
found-requires-2-clause-keyed c =
    let rows = rows_from 0 (lengths_shown c.blocks-blocks.result.now.entries) in
    let row : BlockRow = record { name = c.new.result; base = c.in_ok-end.end; words = c.len-words.result } in
    let is = c.in_ok-insert.ensures.entries ∙ ap (λ (es : List KeyedRow). insert_entry (option_eq same_text) es None row) c.in_ok-end.ensures.rows ∙ literals-join rows row in
    subst AreKeyed (sym is) (literals-keyed rows row c.new.ensures)

pub found-requires-2-clause-end : goal.found-requires-2-clause-end
found-requires-2-clause-end c =
    let rows = rows_from 0 (lengths_shown c.blocks-blocks.result.now.entries) in
    let row : BlockRow = record { name = c.new.result; base = c.in_ok-end.end; words = c.len-words.result } in
    let plain : is_common c.new.result ≡ false = ap is_common c.new.ensures in
    let takes : local_words row ≡ c.len-words.result = rw plain refl in
    let is = c.in_ok-insert.ensures.entries ∙ ap (λ (es : List KeyedRow). insert_entry (option_eq same_text) es None row) c.in_ok-end.ensures.rows ∙ literals-join rows row in
    ap₂ (λ (a b : ℕ). a + b) c.in_ok-end.ensures.end (sym takes) ∙ sym (total-push rows row) ∙ sym (ap total_length (ap values_of is ∙ literals-shown rows row))

pub returns : goal.returns
returns c =
    let blocks = lengths_shown c.blocks-blocks.result.now.entries in
    let rows = rows_from 0 blocks in
    let literals = c.args.literals.now in
    let row : BlockRow = record { name = c.new.result; base = c.in_ok-end.end; words = c.len-words.result } in
    let is = c.in_ok-insert.ensures.entries ∙ ap (λ (es : List KeyedRow). insert_entry (option_eq same_text) es None row) c.in_ok-end.ensures.rows ∙ literals-join rows row in
    let same : row ≡ literals_behind rows literals = rw (c.new.ensures, c.in_ok-end.ensures.end, c.len-words.ensures.words) refl in
    record {
      rows = c.found-2.ensures ∙ ap values_of is
          ∙ literals-shown rows row
          ∙ ap (λ (r : BlockRow). rows ++ r ∷ []) same
          ∙ rows-before blocks literals (λ none. c.if-words-eq0.false (c.len-words.ensures.words ∙ none))
          ∙ ap (λ (bs : List BlockLength). rows_of bs literals) c.blocks-blocks.ensures.blocks;
    }
