use Rattle.deck_linker.proofs.{TextLaws.on_ok_along, MapLaws.place-written}
use Rattle.deck_linker.proofs.map.push_place.Goals as goal

pub returns : goal.returns
returns c =
    on_ok_along c.push_byte-3.result _ _ _
    (place-written c.args.text.now _ _ _ _ c.args.base c.args.words c.in_ok-push_byte.ensures.ok c.in_ok-push_octal.ensures.ok c.in_ok-push_byte-2.ensures.ok c.in_ok-push_octal-2.ensures.ok)
    c.push_byte-3.ensures.ok
