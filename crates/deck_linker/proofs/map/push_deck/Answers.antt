use Rattle.std.proofs.Common.{◌∙◌, ap}
use Rattle.definitions.specs.Kinds.{kind_text}
use Rattle.deck_linker.proofs.{TextLaws.on_ok_along, MapLaws.deck-written}
use Rattle.deck_linker.proofs.map.push_deck.Goals as goal

pub returns : goal.returns
returns c =
    on_ok_along c.push_place.result _ _ _
    (deck-written c.args.text.now _ _ _ _ _ _ _ _ c.args.based.now c.in_ok-push_bytes.ensures.ok c.in_ok-push_bytes-2.ensures.ok c.in_ok-push_byte.ensures.ok c.in_ok-push_bytes-3.ensures.ok
    c.name.ensures (c.text.ensures ∙ ap kind_text c.kind.ensures) (c.from.ensures ∙ c.base.ensures) c.deck_length.ensures)
    c.push_place.ensures
