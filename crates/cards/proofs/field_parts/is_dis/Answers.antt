use Rattle.std.proofs.{Common.{◌∙◌, ap}, lemmas.Bool.Decides.{same_from_decides, Decides-eqb}, lemmas.Slice.Eq.slice_eq-Decides}
use Rattle.definitions.specs.Characters.{same_text}
use Rattle.cards.proofs.PartLaws.{same_text-Decides}
use Rattle.cards.proofs.field_parts.is_dis.Goals as goal

pub returns : goal.returns
returns c =
    let dis = c.as_slice.result.now in
    same_from_decides _ (same_text c.args.operation.now dis) (slice_eq-Decides Decides-eqb _ _ _ c.eq.ensures)
    (same_text-Decides c.args.operation.now dis)
    ∙ ap (same_text c.args.operation.now) c.as_slice.ensures
