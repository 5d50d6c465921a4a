-- The trial goes over all that is left.
use Rattle.std.{proofs.Common.{◌≡◌, ◌∙◌, ◌++◌, refl, sym, ap, subst}, specs.List.AllByRecursion}
use Rattle.definitions.proofs.NamesLaws.{all-front, all-behind}
use Rattle.deck_assembler.{specs.Joins.Agreements.{IsAlikeEver, IsAlikeOnce}, specs.Joins.DeckParts.sized_in, proofs.AlikeLaws.{agrees-once, ever-agrees, sized_in-append, IsTrialOf}, proofs.TrialLaws.both-all}
use Rattle.deck_assembler.proofs.old_deck.OldDeck.find_missed.Goals as goal

pub returns-in-None-clause-alike : goal.returns-in-None-clause-alike
returns-in-None-clause-alike c = λ e.
    let deck = c.args.self.now in
    let t = c.trial-trial in
    let p = c.as_slices-pieces.result.0.now in
    let q = c.as_slices-pieces.result.1.now in
    let of : IsTrialOf deck c.args.symbols.now t.result = record { kind = t.ensures.kind; first = t.ensures.first; second = t.ensures.second; begun = c.requires } in
    let whole : sized_in p ++ sized_in q ≡ sized_in deck.pieces.items = sym (sized_in-append p q) ∙ ap sized_in c.as_slices-pieces.ensures.items in
    ever-agrees deck c.args.symbols.now t.result of
    (subst (AllByRecursion (IsAlikeEver t.result)) whole (both-all (IsAlikeEver t.result) (sized_in p) (sized_in q) (c.in-None.ensures.alike refl) (c.first_missed-in-None.ensures.alike e)))

pub returns-in-Some-clause-all : goal.returns-in-Some-clause-all
returns-in-Some-clause-all c = λ agree.
    let deck = c.args.self.now in
    let t = c.trial-trial in
    let p = c.as_slices-pieces.result.0.now in
    let q = c.as_slices-pieces.result.1.now in
    let of : IsTrialOf deck c.args.symbols.now t.result = record { kind = t.ensures.kind; first = t.ensures.first; second = t.ensures.second; begun = c.requires } in
    let whole : sized_in p ++ sized_in q ≡ sized_in deck.pieces.items = sym (sized_in-append p q) ∙ ap sized_in c.as_slices-pieces.ensures.items in
    let once = subst (AllByRecursion (IsAlikeOnce t.result)) (sym whole) (agrees-once deck c.args.symbols.now t.result of agree) in
    let none = c.in-Some.ensures.all (all-front (IsAlikeOnce t.result) (sized_in p) (sized_in q) once) in
    absurd cc

pub returns-in-None-clause-all : goal.returns-in-None-clause-all
returns-in-None-clause-all c = λ agree.
    let deck = c.args.self.now in
    let t = c.trial-trial in
    let p = c.as_slices-pieces.result.0.now in
    let q = c.as_slices-pieces.result.1.now in
    let of : IsTrialOf deck c.args.symbols.now t.result = record { kind = t.ensures.kind; first = t.ensures.first; second = t.ensures.second; begun = c.requires } in
    let whole : sized_in p ++ sized_in q ≡ sized_in deck.pieces.items = sym (sized_in-append p q) ∙ ap sized_in c.as_slices-pieces.ensures.items in
    let once = subst (AllByRecursion (IsAlikeOnce t.result)) (sym whole) (agrees-once deck c.args.symbols.now t.result of agree) in
    c.first_missed-in-None.ensures.all (all-behind (IsAlikeOnce t.result) (sized_in p) (sized_in q) once)
