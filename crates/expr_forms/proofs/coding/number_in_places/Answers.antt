use Rattle.std.proofs.{Common.{◌≡◌, ◌+◌, ◌-◌, ◌*◌, arith, length, take, drop, ap, ◌∙◌, sym}, lemmas.List.{length-take-le, length-drop}}
use Rattle.definitions.specs.Forms.{characters_number}
use Rattle.expr_forms.{specs.Joins.CodedItems.in_places, proofs.ItemLaws.characters_number-small, proofs.CodedLaws.{characters_number-more_from, code_or_zero, length-in_places}}
use Rattle.expr_forms.proofs.coding.number_in_places.Goals as goal

-- the characters so far are at most nine
pub overflow_mul-number : goal.overflow_mul-number
overflow_mul-number c =
    let behind = drop c.args.from (in_places c.args.places c.args.item.now) in
    let size = length-in_places c.args.places c.args.item.now c.requires.room in
    let rest : length behind ≡ c.args.places - c.args.from = omega (arith, length-drop c.args.from (in_places c.args.places c.args.item.now)) in
    let few = length-take-le (c.loop-place.place - c.args.from) behind (omega arith) in
    let small = characters_number-small (take (c.loop-place.place - c.args.from) behind) (omega arith) in
    omega arith

pub overflow_add-number : goal.overflow_add-number
overflow_add-number c =
    let behind = drop c.args.from (in_places c.args.places c.args.item.now) in
    let size = length-in_places c.args.places c.args.item.now c.requires.room in
    let rest : length behind ≡ c.args.places - c.args.from = omega (arith, length-drop c.args.from (in_places c.args.places c.args.item.now)) in
    let few = length-take-le (c.loop-place.place - c.args.from) behind (omega arith) in
    let small = characters_number-small (take (c.loop-place.place - c.args.from) behind) (omega arith) in
    omega arith

pub loop-place-preserved : goal.loop-place-preserved
loop-place-preserved c =
    let size = length-in_places c.args.places c.args.item.now c.requires.room in
    let more = characters_number-more_from (in_places c.args.places c.args.item.now) c.args.from c.loop-place.place (omega arith) (omega arith) in
    ap (λ n. n * 64 + c.code_of.result) c.loop-place.invariant ∙ ap (λ d. characters_number (take (c.loop-place.place - c.args.from) (drop c.args.from (in_places c.args.places c.args.item.now))) * 64 + d) (c.code_of.ensures.code ∙ ap code_or_zero c.character_at.ensures) ∙ sym more
