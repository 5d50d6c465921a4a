-- It ends behind so many cards of the piece.
use Rattle.std.proofs.Common.{ℕ, ◌≡◌, ◌+◌, ◌-◌, List, take, length, sym, ap, ◌∙◌, arith}
use Rattle.desk_core.{specs.Joins.Language.Card, specs.Joins.Pieces.{part, source_cards}, proofs.PieceLaws.{part-length, part-front}}
use Rattle.desk_core.proofs.piece.Piece.front.Goals as goal

pub returns : goal.returns
returns c =
    let from = c.self.inside.from in
    let until = c.self.inside.until in
    let count = c.args.count in
    let cards = source_cards c.self.inside.source in
    let invariant = c.self.invariant in
    let low = invariant.0 in
    let high = invariant.1 in
    let view : part from until cards ≡ c.args.self.now = c.self.view_is in
    let long : length c.args.self.now ≡ until - from = ap length (sym view) ∙ part-length from until cards high in
    let told : c.len.result ≡ length c.args.self.now = c.len.ensures in
    let at : until - (c.len.result - count) ≡ from + count = omega (arith, told, long, low, c.requires) in
    ap (λ (end : ℕ). part from end (source_cards c.in_ok-share.field-0)) at
    ∙ (ap (λ (shared : List Card). part from (from + count) shared) c.in_ok-share.ensures
    ∙ (part-front from until count cards (omega (arith, long, low, c.requires)) ∙ ap (λ (left : List Card). take count left) view))
