use Rattle.std.proofs.Common.{◌∙◌}
use Rattle.deck_linker.proofs.{TextLaws.on_ok_along, MapLaws.entry-written}
use Rattle.deck_linker.proofs.map.push_entry.Goals as goal

pub returns : goal.returns
returns c =
    on_ok_along c.push_value.result _ _ _
    (entry-written c.args.text.now _ _ _ _ _ _ _ c.args.layout.now.commons c.args.based.now c.args.entry.now c.in_ok-push_bytes.ensures.ok c.in_ok-push_bytes-2.ensures.ok c.in_ok-push_byte.ensures.ok c.in_ok-push_bytes-3.ensures.ok
    (c.as_slice.ensures.name ∙ c.name.ensures) c.name-2.ensures c.entry_bits.ensures)
    c.push_value.ensures
