use Rattle.std.proofs.{Common.{ℕ, ◌≡◌, ◌<◌, ◌∙◌, List, length, get_or, Result, Err, ap, sym, arith}, Math.ListN.length-set, lemmas.List.get_or_default, lemmas.Result.err_from_is_err_and}
use Rattle.cards.{specs.declared.edits.Edit.Edit, specs.declared.edits.Edit.TheVariants.Remove, specs.declared.carrying.Touched.Touched, specs.Carrying.seen_before, specs.Joins.CarrySteps.carried_to, proofs.CarrySteps.{carries-on, carries-none, near-more}}
use Rattle.cards.proofs.carrying.carried_places.Goals as goal

pub returns-in_err-places : goal.returns-in_err-places
returns-in_err-places c =
    let p = err_from_is_err_and c.from_residual.result c.from_residual.ensures.1 in
    let k : ℕ = c.loop-count.count in
    let edits : List Edit = c.args.edits.now in
    let within : k < length edits = omega arith in
    let edit : Edit = get_or edits k (Remove 0) in
    let is : edit ≡ get_or edits k edit = get_or_default edits k (Remove 0) edit within in
    ap (λ (found : Result (List ℕ) Touched). carried_to edits found) (p.1 ∙ ap (λ (touched : Touched). Err touched) p.2)
    ∙ sym (c.loop-count.invariant.whole ∙ carries-none edits c.loop-count.places (seen_before c.args.made.now) k edit c.in_err-places.field-0.0 within is (sym (c.carried_place.ensures.place edit is) ∙ c.in_err-places.was))

pub loop-count-preserved : goal.loop-count-preserved
loop-count-preserved c =
    let k : ℕ = c.loop-count.count in
    let now : ℕ = c.in_ok-places.field-0 in
    let edits : List Edit = c.args.edits.now in
    let within : k < length edits = omega arith in
    let room : k < length c.loop-count.places = omega (arith, c.loop-count.invariant.sized, c.requires.few) in
    let edit : Edit = get_or edits k (Remove 0) in
    let is : edit ≡ get_or edits k edit = get_or_default edits k (Remove 0) edit within in
    record {
      sized = length-set c.loop-count.places k now ∙ c.loop-count.invariant.sized;
      whole = c.loop-count.invariant.whole ∙ carries-on edits c.loop-count.places (seen_before c.args.made.now) k now edit within room is (sym (c.carried_place.ensures.place edit is) ∙ c.in_ok-places.was);
      near = near-more k (length c.args.made.now) now c.loop-count.places room c.loop-count.invariant.near c.in_ok-places.ensures.near;
    }
