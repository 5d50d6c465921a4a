use Rattle.std.proofs.Common.{◌≡◌, ◌<◌, ◌∙◌, Some, None, ap, subst, sym}
use Rattle.deck_linker.{specs.Joins.CommonWords.common_place, proofs.CommonSteps.{no_place, place-within}}
use Rattle.deck_linker.proofs.common_image.push_common.Goals as goal

pub push_placed-requires-clause-within : goal.push_placed-requires-clause-within
push_placed-requires-clause-within c =
    let commons = c.args.layout.now.commons in
    let there : common_place c.args.common.now.name commons ≡ Some c.in-Some.place = ap (λ name. common_place name commons) (sym c.name.ensures) ∙ sym c.common_place.ensures ∙ c.in-Some.is in
    subst (λ count. c.in-Some.place < count) (sym c.requires.words.same) (place-within c.args.common.now.name commons c.in-Some.place there)

pub returns-in-None : goal.returns-in-None
returns-in-None c =
    let commons = c.args.layout.now.commons in
    let none : common_place c.args.common.now.name commons ≡ None = ap (λ name. common_place name commons) (sym c.name.ensures) ∙ sym c.common_place.ensures ∙ c.in-None.is in
    absurd (no_place (common_place c.args.common.now.name commons) c.requires.there none)
