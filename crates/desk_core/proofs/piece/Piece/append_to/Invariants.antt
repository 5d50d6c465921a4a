use Rattle.std.{proofs.Common.{◌≡◌, ◌+◌, ◌++◌, take}, specs.Prelude.{vec_len, vec_capacity}}
use Rattle.desk_core.proofs.piece.Piece.append_to.Given as goal

abbrev pub invariant-loop-card : goal.invariant-loop-card
invariant-loop-card l =
    (l.cards.items ≡ l.initial.cards.items ++ take l.card-index l.card-items)
    × ((vec_len l.cards ≡ vec_len l.initial.cards + l.card-index) × (vec_capacity l.cards ≡ vec_capacity l.initial.cards))
