use Rattle.std.proofs.{Common.{◌≡◌, ◌<◌, ◌∙◌, Some, None, ap, subst, sym}, lemmas.Result.on_ok_weaker}
use Rattle.deck_linker.{specs.Joins.CommonWords.common_place, proofs.CommonSteps.{place-within, row-none, row-put}}
use Rattle.deck_linker.proofs.common_words.put_row.Goals as goal

pub put_over-requires-clause-within : goal.put_over-requires-clause-within
put_over-requires-clause-within c =
    let commons = c.args.layout.now.commons in
    let there : common_place c.args.row.now.name commons ≡ Some c.in-Some.place = ap (λ name. common_place name commons) (sym c.name.ensures) ∙ sym c.common_place.ensures ∙ c.in-Some.is in
    subst (λ count. c.in-Some.place < count) (sym c.requires.same) (place-within c.args.row.now.name commons c.in-Some.place there)

pub returns-in-Some : goal.returns-in-Some
returns-in-Some c =
    let commons = c.args.layout.now.commons in
    let there : common_place c.args.row.now.name commons ≡ Some c.in-Some.place = ap (λ name. common_place name commons) (sym c.name.ensures) ∙ sym c.common_place.ensures ∙ c.in-Some.is in
    on_ok_weaker c.put_over.result (row-put commons c.args.row.now c.args.words.now c.in-Some.place c.args.lists.now.items c.put_over.new.lists.items there) c.put_over.ensures

pub returns-in-None : goal.returns-in-None
returns-in-None c =
    let commons = c.args.layout.now.commons in
    let none : common_place c.args.row.now.name commons ≡ None = ap (λ name. common_place name commons) (sym c.name.ensures) ∙ sym c.common_place.ensures ∙ c.in-None.is in
    row-none commons c.args.row.now c.args.words.now c.args.lists.now.items none c.requires.lists
