-- The pairs behind an element by the character that begins them.
use Rattle.std.{proofs.Common.{◌≡◌, ℕ, List, ◌∷◌, Option, Some, None, ◌∙◌, ap}, specs.Prelude.option_and_then}
use Rattle.definitions.{specs.Pieces.{Mark, Comma, Plus, Minus, Star, Slash, Equals, Inside, mark_of, begun_by, spot_behind, left_of, onto_pieces, pieces_at, pieces_of}, specs.Expressions.{Operator, Times, Divide, Add, Subtract, OperatorElement, pairs_of, operator_of_mark}, specs.declared.number_base.NumberBase.NumberBase, proofs.GrammarLaws.pairs_from}

-- the pairs that begin with a character that may be a mark
abbrev pairs_with : NumberBase → ℕ → List ℕ → Option Mark → Option (List OperatorElement)
pairs_with base c cs m = let begun = begun_by c m in pairs_of base 0 (onto_pieces begun (pieces_at (spot_behind begun) (left_of begun) cs))

lawful-by : (base : NumberBase) (c : ℕ) (cs : List ℕ) (o : Operator) (m : Option Mark) → option_and_then operator_of_mark m ≡ Some o →
    pairs_with base c cs m ≡ pairs_from base o (pieces_of cs)
lawful-by base c cs o None e = cc
lawful-by base c cs o (Some Comma) e = cc
lawful-by base c cs o (Some Equals) e = cc
lawful-by base c cs o (Some Plus) e = let same : Add ≡ o = cc in ap (λ (p : Operator). pairs_from base p (pieces_of cs)) same
lawful-by base c cs o (Some Minus) e = let same : Subtract ≡ o = cc in ap (λ (p : Operator). pairs_from base p (pieces_of cs)) same
lawful-by base c cs o (Some Star) e = let same : Times ≡ o = cc in ap (λ (p : Operator). pairs_from base p (pieces_of cs)) same
lawful-by base c cs o (Some Slash) e = let same : Divide ≡ o = cc in ap (λ (p : Operator). pairs_from base p (pieces_of cs)) same

-- an operator
pub link-operator : (base : NumberBase) (text cs : List ℕ) (c : ℕ) (o : Operator) → text ≡ c ∷ cs → option_and_then operator_of_mark (mark_of c) ≡ Some o →
    pairs_of base 0 (pieces_at Inside 0 text) ≡ pairs_from base o (pieces_of cs)
link-operator base text cs c o t e = ap (λ (s : List ℕ). pairs_of base 0 (pieces_at Inside 0 s)) t ∙ lawful-by base c cs o (mark_of c) e
