-- Lists of fields: what is put behind their old end, one after the other.
use Rattle.std.proofs.{Common.{◌≡◌, ℕ, zero, suc, ◌+◌, ◌/◌, ◌%◌, ◌^◌, ◌<◌, ◌≤◌, List, [], ◌∷◌, ◌++◌, length, take, get_or, sym, ap, ◌∙◌, refl, arith, append_assoc, length-append}, lemmas.List.{take_all, take-take, length-take, map_more}}
use Rattle.definitions.specs.{StatementItems.{Item, known}, Words.cut}
use Rattle.statement_coder.specs.Joins.{WordItems.known_words, CodedItems.IsKept}
use Rattle.statement_coder.specs.declared.items.Item as code

-- a list keeps itself
pub kept_same : (a : List code.Item) → IsKept a a
kept_same a = take_all (length a) a (omega arith)

-- what is kept is no longer
pub kept-length : (a b : List code.Item) → IsKept a b → length a ≤ length b
kept-length a b h = omega (arith, ap length h, length-take (length a) b)

-- what keeps a list that keeps another keeps that too
pub kept-trans : (a b c : List code.Item) → IsKept a b → IsKept b c → IsKept a c
kept-trans a b c h k =
    sym (take-take (length a) (length b) c (kept-length a b h)) ∙ ap (take (length a)) k ∙ h

-- as many pieces as are cut
pub length-cut : (width count number : ℕ) → length (cut width count number) ≡ count
length-cut width zero number = refl
length-cut width (suc count) number =
    omega (arith, length-append (cut width count (number / 2 ^ width)) (number % 2 ^ width ∷ []), length-cut width count (number / 2 ^ width))

-- one word more
pub words_more : (before : List Item) (word : ℕ) (words : List ℕ) (k : ℕ) → k < length words →
    (before ++ known_words word (take k words)) ++ known word (get_or words k 0) ∷ [] ≡ before ++ known_words word (take (k + 1) words)
words_more before word words k below =
    append_assoc before (known_words word (take k words)) (known word (get_or words k 0) ∷ [])
    ∙ ap (λ l. before ++ l) (sym (map_more (known word) words k 0 below))
