-- Cards and others are distinguished from pieces, a piece at a time.
use Rattle.std.proofs.{Common.{ℕ, ◌≡◌, ◌+◌, ◌-◌, ◌≤◌, ◌==◌, ◌&&◌, Bool, List, length, take, drop, sym, ap, ap₂, ◌∙◌, arith}, lemmas.Bool.and_left, lemmas.List.{drop_all, length-drop, length-take-le}}
use Rattle.desk_core.{specs.Joins.Language.Card, specs.Joins.Pieces.joined, specs.Delivering.same_cards, proofs.PieceLaws.{same-next, same-short, same-none, both-on, both-end, both-itself}}
use Rattle.desk_core.proofs.card_pieces.are_both_of.Goals as goal

pub returns-then-left-len : goal.returns-then-left-len
returns-then-left-len c =
    let left = c.loop-piece.left.now in
    let short = same-short c.args.pieces.now c.loop-piece.piece-index c.piece-item.result left c.loop-piece-test.true c.piece-item.is (omega (arith, c.len.ensures, c.if-left-len.true)) in
    sym (c.loop-piece.invariant.0 ∙ and_left _ _ short)

-- the first cards are as many as those of a piece
as_long : (front left piece shown : List Card) (n : ℕ) → n ≡ length piece → front ≡ take n left → length piece ≤ length left → shown ≡ piece → length front ≡ length shown
as_long front left piece shown n count is within same =
    ap length (is ∙ ap (λ (k : ℕ). take k left) count) ∙ (length-take-le (length piece) left within ∙ ap length (sym same))

pub both_same_cards-requires-clause-cards : goal.both_same_cards-requires-clause-cards
both_same_cards-requires-clause-cards c =
    as_long _ c.loop-piece.left.now c.piece-item.result _ _ c.len-in-loop-piece.ensures c.split_at.ensures.front (omega (arith, c.len.ensures, c.if-left-len.false)) c.as_slice.ensures

pub both_same_cards-requires-clause-others : goal.both_same_cards-requires-clause-others
both_same_cards-requires-clause-others c =
    as_long _ c.loop-piece.right.now c.piece-item.result _ _ c.len-in-loop-piece-2.ensures c.split_at-in-loop-piece.ensures.front
    (omega (arith, c.len.ensures, c.if-left-len.false, c.loop-piece.invariant.1)) c.as_slice.ensures

pub returns-then-not-both_same_cards : goal.returns-then-not-both_same_cards
returns-then-not-both_same_cards c =
    let i = c.loop-piece.piece-index in
    let pieces = c.args.pieces.now in
    let left = c.loop-piece.left.now in
    let right = c.loop-piece.right.now in
    let piece = c.piece-item.result in
    let behind = joined (drop (i + 1) pieces) in
    let as-long = c.loop-piece.invariant.1 in
    let front = c.split_at.ensures.front ∙ ap (λ (n : ℕ). take n left) c.len-in-loop-piece.ensures in
    let other = c.split_at-in-loop-piece.ensures.front ∙ ap (λ (n : ℕ). take n right) c.len-in-loop-piece-2.ensures in
    let fronts = ap₂ (λ (a b : Bool). a && b) (ap₂ same_cards (sym front) (sym c.as_slice.ensures)) (ap₂ same_cards (sym other) (sym c.as_slice.ensures))
    ∙ (sym c.both_same_cards.ensures ∙ c.if-not-both_same_cards.true) in
    sym (c.loop-piece.invariant.0 ∙ (ap₂ (λ (a b : Bool). a && b)
    (same-next pieces i piece left c.loop-piece-test.true c.piece-item.is (omega (arith, c.len.ensures, c.if-left-len.false)))
    (same-next pieces i piece right c.loop-piece-test.true c.piece-item.is (omega (arith, c.len.ensures, c.if-left-len.false, as-long)))
    ∙ both-end (same_cards (take (length piece) left) piece) (same_cards (take (length piece) right) piece)
    (same_cards (drop (length piece) left) behind) (same_cards (drop (length piece) right) behind) fronts))

pub loop-piece-preserved : goal.loop-piece-preserved
loop-piece-preserved c =
    let i = c.loop-piece.piece-index in
    let pieces = c.args.pieces.now in
    let left = c.loop-piece.left.now in
    let right = c.loop-piece.right.now in
    let piece = c.piece-item.result in
    let behind = joined (drop (i + 1) pieces) in
    let as-long = c.loop-piece.invariant.1 in
    let front = c.split_at.ensures.front ∙ ap (λ (n : ℕ). take n left) c.len-in-loop-piece.ensures in
    let other = c.split_at-in-loop-piece.ensures.front ∙ ap (λ (n : ℕ). take n right) c.len-in-loop-piece-2.ensures in
    let back = c.split_at.ensures.back ∙ ap (λ (n : ℕ). drop n left) c.len-in-loop-piece.ensures in
    let others = c.split_at-in-loop-piece.ensures.back ∙ ap (λ (n : ℕ). drop n right) c.len-in-loop-piece-2.ensures in
    let fronts = ap₂ (λ (a b : Bool). a && b) (ap₂ same_cards (sym front) (sym c.as_slice.ensures)) (ap₂ same_cards (sym other) (sym c.as_slice.ensures))
    ∙ (sym c.both_same_cards.ensures ∙ c.if-not-both_same_cards.false) in (
      c.loop-piece.invariant.0 ∙ (ap₂ (λ (a b : Bool). a && b)
          (same-next pieces i piece left c.loop-piece-test.true c.piece-item.is (omega (arith, c.len.ensures, c.if-left-len.false)))
          (same-next pieces i piece right c.loop-piece-test.true c.piece-item.is (omega (arith, c.len.ensures, c.if-left-len.false, as-long)))
          ∙ (both-on (same_cards (take (length piece) left) piece) (same_cards (take (length piece) right) piece)
          (same_cards (drop (length piece) left) behind) (same_cards (drop (length piece) right) behind) fronts
          ∙ ap₂ (λ (a b : List Card). same_cards a behind && same_cards b behind) (sym back) (sym others))),
      ap length others ∙ (length-drop (length piece) right ∙ (ap (λ (n : ℕ). n - length piece) as-long ∙ (sym (length-drop (length piece) left) ∙ sym (ap length back)))),
    )

pub returns : goal.returns
returns c =
    let left = c.loop-piece.left.now in
    let right = c.loop-piece.right.now in
    let none = drop_all c.loop-piece.piece-index c.args.pieces.now c.loop-piece-test.false in
    let others = same-none right ∙ (ap (λ (n : ℕ). n == 0) c.loop-piece.invariant.1 ∙ sym c.is_empty.ensures) in
    sym (c.loop-piece.invariant.0 ∙ (ap (λ (pieces : List (List Card)). same_cards left (joined pieces) && same_cards right (joined pieces)) none
    ∙ (ap₂ (λ (a b : Bool). a && b) (same-none left ∙ sym c.is_empty.ensures) others ∙ both-itself c.is_empty.result)))
