use Rattle.std.proofs.Common.{◌∙◌}
use Rattle.deck_linker.proofs.ImageLaws.{head-written}
use Rattle.deck_linker.proofs.common_image.push_head.Goals as goal

pub returns : goal.returns
returns c =
    c.put-4.ensures
    ∙ head-written c.args.text.now _ _ _ _ c.args.name.now _ c.args.base _ c.put.ensures c.put-2.ensures c.put-3.ensures c.put_octal.ensures.text c.as_slice.ensures.name c.from.ensures
