use Rattle.std.{proofs.Common.{[], ◌∷◌, ◌∙◌, ap, ◌++◌}, specs.Prelude.codes}
use Rattle.definitions.specs.Numerals.{octal_of}
use Rattle.deck_listing.proofs.PushLaws.{seven}
use Rattle.deck_listing.proofs.lines.push_block_line.Goals as goal

pub returns : goal.returns
returns c =
    seven _ _ _ _ _ _ _ _ (codes "BLOCK ") c.args.row.now.name (codes " ") (octal_of 8 c.args.row.now.base) (codes " ") (octal_of 8 c.args.row.now.words) (10 ∷ [])
    c.put.ensures
    (c.put-2.ensures ∙ ap (λ n. c.put.new.self ++ n) (c.as_slice.ensures.name ∙ c.name.ensures))
    c.put-3.ensures
    (c.put_octal.ensures.text ∙ ap (λ n. c.put-3.new.self ++ octal_of 8 n) c.base.ensures)
    c.put-4.ensures
    (c.put_octal-2.ensures.text ∙ ap (λ n. c.put-4.new.self ++ octal_of 8 n) c.words.ensures)
    c.put-5.ensures
