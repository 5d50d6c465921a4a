-- Worked edits, computed: where two decks agree again, and which statements are coded again.
use Rattle.std.{proofs.Common.{◌≡◌, ◌≤◌, ℕ, List, [], ◌∷◌, refl, ap, codes, arith, take, drop, reverse}, specs.Prelude.map}
use Rattle.definitions.specs.{Cards.Card, Statements.{Statement, statements_of}, DeckKinds.up_to_end, Settled.Settled, Settling.settled_all, Laws.States.{UsedBlock, BlockState}, Laws.Edits.{Edited, IsUntouched, Split, DoAgree, IsWithinDue}, Laws.Rebound.{rebound_front, rebound_tail, IsWithinDueCode}, declared.deck_kind.DeckKind.TheVariants.Rel}

-- the statements of these cards up to END
abbrev deck : List Card → List Statement
deck cards = up_to_end (statements_of (reverse cards))

-- both decks, split before so many statements of their ends
abbrev split_at : ℕ → Edited → Split
split_at count decks = record { old_front = drop count decks.old; old_tail = take count decks.old; new_front = drop count decks.new; new_tail = take count decks.new }

-- the second of three instructions is replaced
abbrev replaced : Edited
replaced = record {
  old = deck (codes "          BX6    X1" ∷ codes "          BX6    X1" ∷ codes "          BX6    X1" ∷ []);
  new = deck (codes "          BX6    X1" ∷ codes "          BX6    X2" ∷ codes "          BX6    X1" ∷ []);
  before = 1;
  old_behind = 2;
  new_behind = 2;
}

-- the first stays, and the decks agree behind the second
replaced-untouched : IsUntouched replaced (drop 2 replaced.old)
replaced-untouched = record { of_old = (take 2 replaced.old, refl); of_new = (take 2 replaced.new, refl); unchanged = omega arith }

replaced-agrees : DoAgree replaced (split_at 1 replaced)
replaced-agrees = record {
  tail = record { of_old = refl; of_new = refl; old_reaches = omega arith; new_reaches = omega arith; same_place = refl; same_cards = (refl, tt) };
  kinds = refl;
  states = refl;
  early = (tt, tt);
}

-- so one statement alone is due
pub replaced-due : (count : ℕ) → IsWithinDue replaced 0 count → count ≤ 1
replaced-due count h = let most = h.to_agreement (drop 2 replaced.old) (split_at 1 replaced) replaced-untouched replaced-agrees in omega (arith, most)

-- and one alone is coded: nothing that stays is bound otherwise
pub replaced-code : (count : ℕ) → IsWithinDueCode replaced 0 count → count ≤ 1
replaced-code count h = let most = h.to_agreement (drop 2 replaced.old) (split_at 1 replaced) replaced-untouched replaced-agrees in omega (arith, most)

-- an EQU in front is removed
abbrev unequated : Edited
unequated = record {
  old = deck (codes "N         EQU    2" ∷ codes "          BSS    N" ∷ codes "A         DATA   7" ∷ []);
  new = deck (codes "          BSS    N" ∷ codes "A         DATA   7" ∷ []);
  before = 0;
  old_behind = 1;
  new_behind = 0;
}

-- what is behind moves
pub unequated-places : map (λ (settled : Settled). settled.place) (settled_all Rel unequated.old) ≡ 8 ∷ 0 ∷ 0 ∷ []
unequated-places = refl

pub unequated-moved : map (λ (settled : Settled). settled.place) (settled_all Rel unequated.new) ≡ 0 ∷ 0 ∷ []
unequated-moved = refl

-- so the decks agree neither where the states are still equal, nor later
pub unequated-early : DoAgree unequated (split_at 2 unequated) → ⊥
unequated-early h = let value = h.early.1.0.0 in cc

pub unequated-late : DoAgree unequated (split_at 1 unequated) → ⊥
unequated-late h = let ends = ap (λ (state : BlockState). map (λ (block : UsedBlock). block.position.end) state.blocks) h.states in cc

-- an instruction is put between a jump and its label
abbrev relabelled : Edited
relabelled = record {
  old = deck (codes "          JP     A" ∷ codes "A         BX6    X1" ∷ []);
  new = deck (codes "          JP     A" ∷ codes "          BX6    X2" ∷ codes "A         BX6    X1" ∷ []);
  before = 1;
  old_behind = 1;
  new_behind = 2;
}

-- the jump is coded again
pub relabelled-jump : rebound_front relabelled (drop 2 relabelled.new) ≡ 1
relabelled-jump = refl

-- so at most three statements are coded: the jump, the new one and the one behind it, where the label stands
relabelled-untouched : IsUntouched relabelled (drop 2 relabelled.new)
relabelled-untouched = record { of_old = (take 1 relabelled.old, refl); of_new = (take 2 relabelled.new, refl); unchanged = omega arith }

pub relabelled-code : (count : ℕ) → IsWithinDueCode relabelled 0 count → count ≤ 3
relabelled-code count h = let most = h.to_end (drop 2 relabelled.new) relabelled-untouched in let jump = relabelled-jump in omega (arith, most, jump)

-- the first of two literals becomes the second
abbrev reused : Edited
reused = record {
  old = deck (codes "          SA1    =4" ∷ codes "          SA1    =5" ∷ codes "          SA1    A2" ∷ []);
  new = deck (codes "          SA1    =5" ∷ codes "          SA1    =5" ∷ codes "          SA1    A2" ∷ []);
  before = 0;
  old_behind = 1;
  new_behind = 1;
}

pub reused-agrees : DoAgree reused (split_at 2 reused)
reused-agrees = record {
  tail = record { of_old = refl; of_new = refl; old_reaches = omega arith; new_reaches = omega arith; same_place = refl; same_cards = (refl, (refl, tt)) };
  kinds = refl;
  states = refl;
  early = (tt, (tt, tt));
}

-- the literal of the second statement stands first now, and that statement alone is coded again
pub reused-literal : rebound_tail reused (drop 2 reused.new) (take 2 reused.new) ≡ 1
reused-literal = refl

-- with the edited one that makes two
reused-untouched : IsUntouched reused []
reused-untouched = record { of_old = (reused.old, refl); of_new = (reused.new, refl); unchanged = omega arith }

pub reused-code : (count : ℕ) → IsWithinDueCode reused 0 count → count ≤ 2
reused-code count h = let most = h.to_agreement [] (split_at 2 reused) reused-untouched reused-agrees in let literal = reused-literal in omega (arith, most, literal)

-- a word is put into the first block of an absolute deck
abbrev moved : Edited
moved = record {
  old = deck (codes "          ABS" ∷ codes "          JP     A" ∷ codes "          USE    B" ∷ codes "A         BX6    X1" ∷ []);
  new = deck (codes "          ABS" ∷ codes "          JP     A" ∷ codes "          DATA   1" ∷ codes "          USE    B" ∷ codes "A         BX6    X1" ∷ []);
  before = 2;
  old_behind = 2;
  new_behind = 3;
}

-- the label stands where it stood in its block, and its block stands a word later: the jump is coded again
pub moved-base : rebound_front moved (drop 3 moved.new) ≡ 1
moved-base = refl
