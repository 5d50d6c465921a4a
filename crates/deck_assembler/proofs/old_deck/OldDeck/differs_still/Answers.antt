-- The piece that was found to differ is one of those that are left.
use Rattle.std.{proofs.Common.{◌∙◌, ◌++◌, List, not, sym, ap, subst}, specs.Prelude.option_copied, specs.List.AllByRecursion}
use Rattle.deck_assembler.{specs.Joins.Agreements.IsAlikeOnce, specs.Joins.DeckParts.{DeckPiece, sized_in}, proofs.AlikeLaws.{agrees-once, of-first, IsTrialOf}}
use Rattle.deck_assembler.proofs.old_deck.OldDeck.differs_still.Goals as goal

pub returns : goal.returns
returns c = λ agree.
    let deck = c.args.self.now in
    let t = c.trial in
    let q = c.as_slices.result.1.now in
    let of : IsTrialOf deck c.args.symbols.now t.result = record { kind = t.ensures.kind; first = t.ensures.first; second = t.ensures.second; begun = c.requires } in
    let split = sym c.as_slices.ensures.items ∙ ap (λ (l : List DeckPiece). l ++ q) c.split_at.ensures.by_index.0 in
    let once = subst (λ (l : List DeckPiece). AllByRecursion (IsAlikeOnce t.result) (sized_in l)) split (agrees-once deck c.args.symbols.now t.result of agree) in
    let first = sym c.first.ensures.value ∙ ap option_copied c.in-Some-first.is in
    ap not (c.are_alike.ensures.all (subst (AllByRecursion (IsAlikeOnce t.result)) (sym c.statements.ensures.statements)
    (of-first (IsAlikeOnce t.result) c.split_at.result.0.now c.split_at.result.1.now q c.in-Some-first.piece.now first once)))
