use Rattle.std.{proofs.Common.drop, specs.List.AllByRecursion}
use Rattle.deck_assembler.specs.Joins.Agreements.{IsAlikeEver, IsAlikeOnce}
use Rattle.deck_assembler.proofs.early_trial.Trial.are_alike.Given as goal

-- all statements are alike where those that are left are, and those that are left where all are
abbrev pub invariant-loop-sized : goal.invariant-loop-sized
invariant-loop-sized l = record {
  alike : AllByRecursion (IsAlikeEver l.self) (drop l.sized-index l.statements) → AllByRecursion (IsAlikeEver l.self) l.statements;
  all : AllByRecursion (IsAlikeOnce l.self) l.statements → AllByRecursion (IsAlikeOnce l.self) (drop l.sized-index l.statements);
}
