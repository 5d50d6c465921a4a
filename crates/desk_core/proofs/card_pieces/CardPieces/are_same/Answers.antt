-- Cards are distinguished piece by piece.
use Rattle.std.proofs.{Common.{◌≡◌, ◌+◌, ◌&&◌, Bool, true, false, List, length, take, drop, sym, ap, ap₂, ◌∙◌, arith}, lemmas.Bool.and_left, lemmas.List.drop_all}
use Rattle.desk_core.{specs.Joins.Language.Card, specs.Joins.Pieces.joined, specs.Delivering.same_cards, proofs.PieceLaws.{same-next, same-short, same-none}}
use Rattle.desk_core.proofs.card_pieces.CardPieces.are_same.Goals as goal

pub returns-then-left-len : goal.returns-then-left-len
returns-then-left-len c =
    let pieces = c.deref-piece-items.result.now in
    let left = c.loop-piece.left.now in
    let all = ap joined c.deref-piece-items.ensures.value ∙ c.self.view_is in
    sym (ap (λ (own : List Card). same_cards c.args.cards.now own) (sym all) ∙ (c.loop-piece.invariant
    ∙ same-short pieces c.loop-piece.piece-index c.piece-item.result left c.loop-piece-test.true c.piece-item.is (omega (arith, c.len.ensures, c.if-left-len.true))))

pub returns-then-not-same_cards : goal.returns-then-not-same_cards
returns-then-not-same_cards c =
    let pieces = c.deref-piece-items.result.now in
    let left = c.loop-piece.left.now in
    let piece = c.piece-item.result in
    let all = ap joined c.deref-piece-items.ensures.value ∙ c.self.view_is in
    let front = c.split_at.ensures.front ∙ ap (λ n. take n left) c.len-in-loop-piece.ensures in
    let told : c.same_cards.result ≡ false = cc in
    let differ : same_cards (take (length piece) left) piece ≡ false = ap₂ same_cards (sym front) (sym c.as_slice.ensures) ∙ (sym c.same_cards.ensures ∙ told) in
    sym (ap (λ (own : List Card). same_cards c.args.cards.now own) (sym all) ∙ (c.loop-piece.invariant
    ∙ (same-next pieces c.loop-piece.piece-index piece left c.loop-piece-test.true c.piece-item.is (omega (arith, c.len.ensures, c.if-left-len.false)) ∙ and_left _ _ differ)))

pub loop-piece-preserved : goal.loop-piece-preserved
loop-piece-preserved c =
    let pieces = c.deref-piece-items.result.now in
    let left = c.loop-piece.left.now in
    let piece = c.piece-item.result in
    let behind = joined (drop (c.loop-piece.piece-index + 1) pieces) in
    let front = c.split_at.ensures.front ∙ ap (λ n. take n left) c.len-in-loop-piece.ensures in
    let back = c.split_at.ensures.back ∙ ap (λ n. drop n left) c.len-in-loop-piece.ensures in
    let told : c.same_cards.result ≡ true = cc in
    let same : same_cards (take (length piece) left) piece ≡ true = ap₂ same_cards (sym front) (sym c.as_slice.ensures) ∙ (sym c.same_cards.ensures ∙ told) in
    c.loop-piece.invariant ∙ (same-next pieces c.loop-piece.piece-index piece left c.loop-piece-test.true c.piece-item.is (omega (arith, c.len.ensures, c.if-left-len.false))
    ∙ (ap (λ (b : Bool). b && same_cards (drop (length piece) left) behind) same ∙ ap (λ (cards : List Card). same_cards cards behind) (sym back)))

pub returns : goal.returns
returns c =
    let left = c.loop-piece.left.now in
    let all = ap joined c.deref-piece-items.ensures.value ∙ c.self.view_is in
    let none = drop_all c.loop-piece.piece-index c.deref-piece-items.result.now c.loop-piece-test.false in
    c.is_empty.ensures ∙ sym (ap (λ (own : List Card). same_cards c.args.cards.now own) (sym all) ∙ (c.loop-piece.invariant
    ∙ (ap (λ (pieces : List (List Card)). same_cards left (joined pieces)) none ∙ same-none left)))
