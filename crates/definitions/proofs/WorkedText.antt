-- How worked decks are written down.
use Rattle.std.{proofs.Common.{ℕ, List, [], ◌∷◌, ◌++◌}, specs.Prelude.flat_map}

-- lines, each with its line feed
abbrev pub text : List (List ℕ) → List ℕ
text lines = flat_map (λ line. line ++ 10 ∷ []) lines

-- the line feed that ends a line
abbrev pub line_feed : List ℕ
line_feed = 10 ∷ []
