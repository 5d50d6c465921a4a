use Rattle.deck_linker.proofs.{TextLaws.on_ok_along, MapLaws.value-written}
use Rattle.deck_linker.proofs.map.push_value.Goals as goal

pub returns : goal.returns
returns c =
    on_ok_along c.push_byte-2.result _ _ _
    (value-written c.args.text.now _ _ c.args.bits c.in_ok-push_byte.ensures.ok c.in_ok-push_octal.ensures.ok)
    c.push_byte-2.ensures.ok
