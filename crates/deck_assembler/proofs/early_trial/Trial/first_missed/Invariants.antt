use Rattle.std.{proofs.Common.drop, specs.List.AllByRecursion}
use Rattle.deck_assembler.specs.Joins.{Agreements.{IsAlikeEver, IsAlikeOnce}, DeckParts.sized_in}
use Rattle.deck_assembler.proofs.early_trial.Trial.first_missed.Given as goal

-- the statements of all pieces are alike where those of the pieces that are left are, and these where all are
abbrev pub invariant-loop-piece : goal.invariant-loop-piece
invariant-loop-piece l = record {
  alike : AllByRecursion (IsAlikeEver l.self) (sized_in (drop l.piece-index l.pieces)) → AllByRecursion (IsAlikeEver l.self) (sized_in l.pieces);
  all : AllByRecursion (IsAlikeOnce l.self) (sized_in l.pieces) → AllByRecursion (IsAlikeOnce l.self) (sized_in (drop l.piece-index l.pieces));
}
