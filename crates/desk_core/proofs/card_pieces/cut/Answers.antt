use Rattle.std.{proofs.Common.{◌+◌, ◌<◌, List, [], length, take, drop, set, ap, ap₂, ◌∙◌, arith}, specs.Prelude.insert, proofs.lemmas.List.get_or_read}
use Rattle.desk_core.{specs.Joins.Language.Card, specs.Joins.Pieces.joined, proofs.PieceLaws.joined-cut}
use Rattle.desk_core.proofs.card_pieces.cut.Goals as goal

pub returns : goal.returns
returns c =
    let pieces = c.args.pieces.now.items in
    let number = c.args.number in
    let count = c.args.count in
    let within : number < length pieces = omega arith in
    let one = get_or_read pieces number c.index-piece.result.now within c.index-piece.ensures [] in
    let front = c.in_ok-front.ensures ∙ ap (λ (cards : List Card). take count cards) one in
    let rest = c.in_ok-rest.ensures ∙ ap (λ (cards : List Card). drop count cards) one in
    ap (λ (ps : List (List Card)). joined (set ps (number + 1) c.in_ok-rest.rest)) c.in_ok-insert.ensures.items
    ∙ (ap₂ (λ (first second : List Card). joined (set (insert pieces number first) (number + 1) second)) front rest
    ∙ joined-cut pieces number count within)
