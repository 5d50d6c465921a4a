use Rattle.std.proofs.Common.{◌∙◌}
use Rattle.deck_linker.proofs.{TextLaws.on_ok_along, MapLaws.common-written}
use Rattle.deck_linker.proofs.map.push_common.Goals as goal

pub returns : goal.returns
returns c =
    on_ok_along c.push_place.result _ _ _
    (common-written c.args.text.now _ _ _ _ _ c.args.common.now c.in_ok-push_bytes.ensures.ok c.in_ok-push_bytes-2.ensures.ok
    (c.as_slice.ensures.name ∙ c.name.ensures) (c.from.ensures ∙ c.base.ensures) (c.from-2.ensures ∙ c.words.ensures))
    c.push_place.ensures
