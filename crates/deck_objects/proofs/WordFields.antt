-- Words as fields.
use Rattle.std.proofs.Common.{◌≡◌, ℕ, ◌+◌, List, [], ◌∷◌, refl}
use Rattle.definitions.specs.{Layout.{Layout, Based}, LinkLines.unfit_words}
use Rattle.statement_coder.specs.Joins.WordItems.{known_words}

-- known words fit in every link
pub unfit-known_words : (layout : Layout) (based : Based) (word from : ℕ) (words : List ℕ) → unfit_words layout based from (known_words word words) ≡ []
unfit-known_words layout based word from [] = refl
unfit-known_words layout based word from (bits ∷ words) = unfit-known_words layout based word (from + word) words
