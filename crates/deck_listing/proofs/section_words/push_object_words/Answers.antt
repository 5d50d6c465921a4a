use Rattle.std.{proofs.Common.{◌++◌, ◌∙◌, List, ap, subst, sym}, specs.List.AllZip}
use Rattle.definitions.specs.Lengths.{BlockRow}
use Rattle.deck_listing.{specs.Joins.BlockWords.AreWordsOf, specs.Joins.ImageWordLines.{lines_of, rows_words}, proofs.ImageLineSteps.all_rows}
use Rattle.deck_listing.proofs.section_words.push_object_words.Goals as goal

pub returns : goal.returns
returns c = λ linking cards object are_parts words.
    let same = c.rows.ensures ∙ are_parts.rows in
    c.push_blocks.ensures linking cards object are_parts (subst (λ (rs : List BlockRow). AllZip (AreWordsOf linking object) rs c.args.blocks.now) (sym same) words)
    ∙ ap (λ ws. c.args.text.now ++ lines_of object.kind ws) (ap (rows_words linking object c.args.base) same ∙ all_rows linking object c.args.base object.rows)
