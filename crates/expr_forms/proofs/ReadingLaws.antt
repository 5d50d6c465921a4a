-- Variable fields by their texts.
use Rattle.std.proofs.{Common.{◌≡◌, ℕ, ◌-◌, List, [], ◌∷◌, ◌++◌, true, false, ◌==◌, ◌&&◌, length, take, refl, sym, ◌∙◌, ap, arith, length-append, eq-eqb, ne_eqb, nat_eq}, Math.Bool.and-true, Math.Seq.take-append_seam}
use Rattle.definitions.specs.{Characters.{same_text, slash}, Symbols.is_linked_name, Operands.is_common_name}

-- a text that begins with a character is that one where nothing is behind it
pub lone : (text behind : List ℕ) (first character : ℕ) → text ≡ first ∷ behind → first ≡ character →
    nat_eq (length behind) 0 ≡ same_text text (character ∷ [])
lone text [] first character e same = sym (ap (λ t. same_text t (character ∷ [])) e ∙ ap (λ b. b && true) (eq-eqb first character same))
lone text (d ∷ ds) first character e same =
    ne_eqb (length (d ∷ ds)) 0 (λ none. absurd (omega (arith, none)))
    ∙ sym (ap (λ t. same_text t (character ∷ [])) e ∙ ap (λ b. b && false) (eq-eqb first character same))

-- texts that differ in their last character at most
pub same_text-last : (name : List ℕ) (a b : ℕ) → same_text (name ++ a ∷ []) (name ++ b ∷ []) ≡ (a == b)
same_text-last [] a b = and-true (a == b)
same_text-last (c ∷ cs) a b = ap (λ t. t && same_text (cs ++ a ∷ []) (cs ++ b ∷ [])) (eq-eqb c c refl) ∙ same_text-last cs a b

-- the name without the character behind it
front : (name : List ℕ) (last : ℕ) → take (length (name ++ last ∷ []) - 1) (name ++ last ∷ []) ≡ name
front name last =
    let e : length (name ++ last ∷ []) - 1 ≡ length name = omega (arith, length-append name (last ∷ [])) in
    ap (λ n. take n (name ++ last ∷ [])) e ∙ take-append_seam name (last ∷ [])

-- the name of a common block by what begins and ends it
pub is_common_name-by : (text behind name : List ℕ) (first last : ℕ) → text ≡ first ∷ behind → behind ≡ name ++ last ∷ [] →
    is_common_name text ≡ (((first == slash) && (last == slash)) && is_linked_name name)
is_common_name-by text behind name first last t b =
    ap is_common_name (t ∙ ap (λ l. first ∷ l) b)
    ∙ ap (λ n. ((first == slash) && same_text (name ++ last ∷ []) (n ++ slash ∷ [])) && is_linked_name n) (front name last)
    ∙ ap (λ t. ((first == slash) && t) && is_linked_name name) (same_text-last name last slash)
