-- Literals that are taken in one list behind the other.
use Rattle.std.{proofs.Common.{◌≡◌, ℕ, List, [], ◌∷◌, ◌++◌, true, false, true≢false, refl, sym}, specs.Prelude.filter_map, specs.List.list_all}
use Rattle.definitions.specs.{Expressions.{Element, ACountedItem, ALiteral, ANumber, ARegister, ASymbol, Expression, LocationCounter, OriginCounter, Literal, OfNumber, OfCountedItem, elements_of, is_allowed, is_plain}, Literals.{literal_in, literal_word, literals_in, with_word, with_literals}}

pub with_literals-append : (literals others : List Literal) (words : List ℕ) → with_literals (literals ++ others) words ≡ with_literals others (with_literals literals words)
with_literals-append [] others words = refl
with_literals-append (literal ∷ literals) others words = with_literals-append literals others (with_word (literal_word literal) words)

-- where no literal is allowed none is an element
no-literal : (elements : List Element) → list_all (is_allowed false) elements ≡ true → filter_map literal_in elements ≡ []
no-literal [] all = refl
no-literal (ALiteral (OfNumber sign number) ∷ elements) all = absurd (true≢false (sym all))
no-literal (ALiteral (OfCountedItem item) ∷ elements) all = absurd (true≢false (sym all))
no-literal (ARegister register ∷ elements) all = absurd (true≢false (sym all))
no-literal (ANumber number ∷ elements) all = no-literal elements all
no-literal (ACountedItem item ∷ elements) all = no-literal elements all
no-literal (ASymbol name ∷ elements) all = no-literal elements all
no-literal (LocationCounter ∷ elements) all = no-literal elements all
no-literal (OriginCounter ∷ elements) all = no-literal elements all

-- an expression that is plain without literals has none
pub plain-bare : (e : Expression) → is_plain false e ≡ true → literals_in e ≡ []
plain-bare e plain = no-literal (elements_of e) plain
