use Rattle.std.{proofs.Common.{◌∙◌, ap, arith, refl, set}, specs.Prelude.ℤ, proofs.lemmas.Int.ints}
use Rattle.expr_forms.{specs.Joins.FormsAs.relocation_as, specs.Joins.Running.bases_as, proofs.RunningLaws.{add-found, add-new, small-at, with_times}}
use Rattle.expr_forms.proofs.running.add_base.Goals as goal

pub overflow_add-room : goal.overflow_add-room
overflow_add-room c =
    let small = small-at c.args.room.now c.args.len c.other_count-place.result c.index-room-place.result c.requires.within c.if-place-len.true c.index-room-place.is c.requires.small in
    let once = c.requires.once in
    omega (arith, ints)

pub returns-then-place-len-clause-adds : goal.returns-then-place-len-clause-adds
returns-then-place-len-clause-adds c =
    let base = c.index-room-place.result in
    let small = small-at c.args.room.now c.args.len c.other_count-place.result base c.requires.within c.if-place-len.true c.index-room-place.is c.requires.small in
    let once = c.requires.once in
    ap (λ (n : ℤ). bases_as c.args.len (set c.args.room.now c.other_count-place.result (with_times base n))) (omega (arith, ints))
    ∙ add-found c.args.room.now c.split_at.result.0.now c.args.len c.other_count-place.result (relocation_as c.args.added.relocation) c.args.added.times base
    c.split_at.ensures.front c.other_count-place.ensures.count c.if-place-len.true c.requires.within c.index-room-place.is

pub returns-clause-adds : goal.returns-clause-adds
returns-clause-adds c =
    let within = c.requires.within in
    let full = c.if-len-room.false in
    add-new c.args.room.now c.split_at.result.0.now c.args.len c.other_count-place.result (relocation_as c.args.added.relocation) c.args.added
    c.split_at.ensures.front c.other_count-place.ensures.count c.if-place-len.false c.other_count-place.ensures.within (omega arith) refl
