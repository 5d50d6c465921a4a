use Rattle.std.{proofs.Common.{◌≡◌, take}, specs.Prelude.is_some, specs.List.list_all}
use Rattle.definitions.specs.Characters.{display_code_of}
use Rattle.cards.proofs.card.are_lawful.Given as goal

-- whether the characters so far are lawful
abbrev pub invariant-loop-c : goal.invariant-loop-c
invariant-loop-c l = l.lawful ≡ list_all (λ c. is_some (display_code_of c)) (take l.c-index l.columns)
