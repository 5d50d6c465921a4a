-- Names as keys of a map: two are the same where they have the same characters, and then they are hashed alike.
use Rattle.std.{specs.Prelude.{ℕ, ◌≡◌, List, [], ◌∷◌, true}, proofs.Common.ap, specs.Cmp.{IsEquivalence, decided}}
use Rattle.definitions.specs.Characters.{same_text}
use Rattle.expr_forms.proofs.NameLaws.{same_text-Decides}

-- the test of two names is an equivalence
pub same_text_equivalence : IsEquivalence same_text
same_text_equivalence = decided same_text same_text-Decides

-- the characters of a name are hashed as one text
abbrev pub alone : List ℕ → List (List ℕ)
alone name = name ∷ []

-- those of two that are the same are one text
pub alone_same : (a b : List ℕ) → same_text a b ≡ true → alone a ≡ alone b
alone_same a b same = ap alone ((same_text-Decides a b).0 same)
