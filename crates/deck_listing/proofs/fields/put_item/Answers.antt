use Rattle.std.proofs.{Common.ap, lemmas.Result.on_ok_weaker}
use Rattle.definitions.specs.Kinds.{unit_bits}
use Rattle.statement_coder.specs.Joins.Items.{item_as}
use Rattle.parcel_packer.{specs.Joins.Packing.Packed, proofs.PutLaws.unit_some}
use Rattle.deck_listing.proofs.PutSteps.{put_one}
use Rattle.deck_listing.proofs.fields.put_item.Goals as goal

pub returns-clause-put : goal.returns-clause-put
returns-clause-put g c =
    let kind = c.args.words.now.kind in
    let bits = c.linked_bits-bits in
    on_ok_weaker c.put.result
    (λ e. put_one (unit_bits kind) c.args.is_instruction (g.L.Linking.linking c.args.linking.now) c.args.words.now.run c.put.new.self.run c.args.at (item_as c.args.item.now) bits.result
    (unit_some kind) c.requires.stands bits.ensures.bits bits.ensures.small (ap (λ (p : Packed). p.run) e))
    c.put.ensures.put
