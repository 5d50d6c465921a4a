use Rattle.std.proofs.Common.{◌≡◌, ◌<◌, ◌≤◌, List, [], ◌∷◌, length, subst, sym, ap, ◌∙◌, arith}
use Rattle.definitions.specs.{Kinds.unit_bits, StatementItems.Item, Laws.Filling.HasRoom, declared.deck_kind.DeckKind.DeckKind}
use Rattle.statement_coder.specs.Joins.Items.{item_as}
use Rattle.parcel_packer.specs.Joins.Packing.{most_bits}
use Rattle.deck_listing.{specs.Joins.Putting.ArePut, proofs.FieldSteps.{field_short, fields_within, width_more, put_next, most_small}}
use Rattle.deck_listing.proofs.fields.put_fields.Goals as goal

pub put_item-requires-clause-short : goal.put_item-requires-clause-short
put_item-requires-clause-short g c =
    subst (λ (item : Item). item.width ≤ 60) (sym c.item-item.ensures)
    (field_short (g.F.ListedField.field c.args.kind) c.args.fields.now c.loop-field.field-index c.field-item.result c.requires.short (omega arith) c.field-item.is).0

pub put_item-requires-clause-room : goal.put_item-requires-clause-room
put_item-requires-clause-room g c =
    subst (λ (item : Item). HasRoom item.width item.content) (sym c.item-item.ensures)
    (field_short (g.F.ListedField.field c.args.kind) c.args.fields.now c.loop-field.field-index c.field-item.result c.requires.short (omega arith) c.field-item.is).1

pub put_item-requires-clause-within : goal.put_item-requires-clause-within
put_item-requires-clause-within g c =
    let within = fields_within (g.F.ListedField.field c.args.kind) c.args.fields.now c.loop-field.field-index c.field-item.result (omega arith) c.field-item.is in
    let most : most_bits c.loop-field.words.kind ≡ most_bits c.args.words.now.kind = ap most_bits c.loop-field.invariant.kind in
    let wide : c.item-item.result.width ≡ (g.F.ListedField.field c.args.kind c.field-item.result).width = ap (λ (item : Item). item.width) c.item-item.ensures in
    let all = c.requires.within in
    let reached = c.loop-field.invariant.end in
    omega (arith, within, most, wide, all, reached)

pub overflow_add-end : goal.overflow_add-end
overflow_add-end g c =
    let within = fields_within (g.F.ListedField.field c.args.kind) c.args.fields.now c.loop-field.field-index c.field-item.result (omega arith) c.field-item.is in
    let small = most_small c.args.words.now.kind in
    let wide : c.item-item.result.width ≡ (g.F.ListedField.field c.args.kind c.field-item.result).width = ap (λ (item : Item). item.width) c.item-item.ensures in
    let all = c.requires.within in
    let reached = c.loop-field.invariant.end in
    omega (arith, within, small, wide, all, reached)

pub loop-field-preserved : goal.loop-field-preserved
loop-field-preserved g c =
    let field = g.F.ListedField.field c.args.kind in
    let fields = c.args.fields.now in
    let i = c.loop-field.field-index in
    let linking = g.L.Linking.linking c.args.linking.now in
    let old = c.args.words.now in
    let new = c.put_item.new.words in
    let inside : i < length fields = omega arith in
    let more = width_more field fields i c.field-item.result inside c.field-item.is in
    let wide : c.item-item.result.width ≡ (g.F.ListedField.field c.args.kind c.field-item.result).width = ap (λ (item : Item). item.width) c.item-item.ensures in
    let Last : DeckKind → List Item → Type 0 = λ kind items. ArePut (unit_bits kind) c.args.is_instruction linking c.loop-field.words.run c.loop-field.end items new.run in
    let last = subst (λ (item : Item). Last old.kind (item ∷ [])) c.item-item.ensures
    (subst (λ kind. Last kind (item_as c.item-item.result ∷ [])) c.loop-field.invariant.kind c.in_ok-put_item.ensures.put) in
    record {
      kind = c.in_ok-put_item.ensures.kind ∙ c.loop-field.invariant.kind;
      earlier = c.in_ok-put_item.ensures.earlier ∙ c.loop-field.invariant.earlier;
      end = (let reached = c.loop-field.invariant.end in omega (arith, more, wide, reached));
      put = put_next field fields i c.field-item.result inside c.field-item.is (unit_bits old.kind) c.args.is_instruction linking old.run c.loop-field.words.run new.run c.args.from c.loop-field.end
          c.loop-field.invariant.end c.loop-field.invariant.put last;
    }
