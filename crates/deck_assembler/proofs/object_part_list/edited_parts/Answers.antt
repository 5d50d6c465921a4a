use Rattle.std.proofs.Common.{◌∙◌, [], length, reverse, refl, ap, sym, subst, arith}
use Rattle.deck_assembler.{specs.Joins.DueCodes.IsDueBeside, specs.Joins.FormerLines.{AreChosen, IsBeside}, specs.Joins.Formers.known_in, proofs.FormerLaws.{begin-beside, begin-due, has-lines}, proofs.ResultLaws.on_ok_one}
use Rattle.deck_assembler.proofs.object_part_list.edited_parts.Goals as goal

pub parts_beside-requires-clause-beside : goal.parts_beside-requires-clause-beside
parts_beside-requires-clause-beside c =
    let cards = c.args.cards.now in
    let old = c.args.object.now.cards in
    let former = c.args.edited.now.former in
    let chosen = subst (λ n. AreChosen c.kind.result n (length cards) former c.parts.result.now c.lines-lines.result) (ap length c.cards.ensures) c.lines-lines.ensures in
    subst (λ kind. IsBeside kind cards [] (reverse (known_in cards)) 0 c.lines-lines.result) c.kind.ensures
    (begin-beside c.kind.result old cards c.args.object.now.name former c.parts.result.now c.lines-lines.result c.requires.former c.parts.ensures c.requires.edited (c.kind.ensures ∙ c.requires.deck.kind) chosen)

pub returns-clause-due : goal.returns-clause-due
returns-clause-due c = λ plan of.
    let cards = c.args.cards.now in
    let old = c.args.object.now.cards in
    let former = c.args.edited.now.former in
    let lines = c.lines-lines.result in
    let kind = c.kind.ensures ∙ c.requires.deck.kind in
    let chosen = subst (λ n. AreChosen c.kind.result n (length cards) former c.parts.result.now lines) (ap length c.cards.ensures) c.lines-lines.ensures in
    let here = subst (λ k. AreChosen k (length old) (length cards) former c.parts.result.now lines) kind chosen in
    let found = begin-due _ old cards c.args.object.now.name former c.parts.result.now lines plan c.requires.former c.parts.ensures c.requires.edited refl here of in
    let bound = c.parts_beside.ensures.due lines found.own refl found.planned (subst (λ k. IsDueBeside k cards found.own [] (reverse (known_in cards)) 0 lines) (sym c.requires.deck.kind) found.beside) in
    let same = found.same in
    omega (arith, bound, same)

pub returns-clause-anew : goal.returns-clause-anew
returns-clause-anew c =
    let cards = c.args.cards.now in
    let old = c.args.object.now.cards in
    let former = c.args.edited.now.former in
    let lines = c.lines-lines.result in
    let chosen = subst (λ n. AreChosen c.kind.result n (length cards) former c.parts.result.now lines) (ap length c.cards.ensures) c.lines-lines.ensures in
    let has = has-lines c.kind.result former.kind old cards c.args.object.now.name former c.parts.result.now lines c.requires.former c.parts.ensures chosen refl in
    on_ok_one c.parts_beside.result _ _ (λ step. step lines old refl has.bindings) c.parts_beside.ensures.anew
