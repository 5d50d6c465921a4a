-- Which statements stand in whole words.
use Rattle.std.specs.Prelude.{◌≡◌, ◌≢◌, ◌≤◌, ◌+◌, ◌%◌, ⊤, List, [], ◌∷◌}
use Rattle.definitions.specs.{Kinds.units, Words.Coded, declared.deck_kind.DeckKind.DeckKind, Laws.Filling.HasFields}
use Rattle.definitions.specs.Operations as op

-- a statement with fields reaches at most four units where it is an instruction, and from a word to a word where it is not
pub record DoesReach (kind : DeckKind) (coded : Coded) : Type 0 where
  pub instruction : HasFields coded.fields → coded.settled.read.operation ≡ op.Instruction → coded.settled.end ≤ coded.settled.place + 4
  pub from_word : HasFields coded.fields → coded.settled.read.operation ≢ op.Instruction → coded.settled.place % units kind ≡ 0
  pub to_word : HasFields coded.fields → coded.settled.read.operation ≢ op.Instruction → coded.settled.end % units kind ≡ 0

-- each of these statements reaches so
abbrev pub DoReach : DeckKind → List Coded → Type 0
DoReach kind [] = ⊤
DoReach kind (coded ∷ earlier) = DoesReach kind coded × DoReach kind earlier
