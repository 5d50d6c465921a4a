-- What a subscriber hears of rounds (ours): of each publication that the desk made, once, and of nothing else.
use Rattle.std.specs.Prelude.{◌≡◌, ℕ, List, [], ◌∷◌, ◌++◌, Option, Some, None}
use Rattle.deck_workers.specs.{Joins.Language.{Reply, Published}, Rounds.{Round, Resting, Working, published_in}}

module _ {S : Type 0} (hears : S → ℕ → S → Type 0) where
  -- it hears of a publication, where there is one
  abbrev pub HearsIf : Option ℕ → S → S → Type 0
  HearsIf (Some version) old new = hears old version new
  HearsIf None old new = new ≡ old

  -- it hears of what was made once the desk published it
  abbrev pub HearsAfter : Reply → Option ℕ → S → S → Type 0
  HearsAfter (Published before) published old new = HearsIf published old new
  HearsAfter reply published old new = new ≡ old

  -- it hears of a round
  abbrev pub HearsOf : Round → S → S → Type 0
  HearsOf (Resting claimed) old new = new ≡ old
  HearsOf (Working claimed result answered) old new = HearsAfter answered (published_in result) old new

  -- it hears of rounds, one after the other
  pub data HearsAll (first : S) : List Round → S → Type 0 where
    unheard : HearsAll first [] first
    heard : (rounds : List Round) (round : Round) (middle last : S) → HearsAll first rounds middle → HearsOf round middle last → HearsAll first (rounds ++ round ∷ []) last
