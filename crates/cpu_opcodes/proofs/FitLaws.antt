-- What subfields make of patterns, and rows of an operand.
use Rattle.std.proofs.{Common.{◌≡◌, ℕ, true, not, cond, ◌&&◌, List, [], ◌∷◌, Option, Some, None, codes, refl, sym, ap, ◌∙◌}, lemmas.Bool.{and_parts, not-true}}
use Rattle.definitions.specs.{Characters.same_text, Pieces.{Piece, pieces_of}, Expressions.expression_of, Matching.{OfK, OfN, Match, matched, plain_text, plain_field, with_field, subfield_matched, subfields_matched}, declared.number_base.NumberBase.NumberBase}
use Rattle.expr_forms.specs.{Joins.Operands.IsOperand, declared.operands.Subfield.Subfield}
use Rattle.expr_forms.specs.declared.operands.Operand.TheVariants as operand
use Rattle.cpu_opcodes.{specs.Joins.PatternTexts.is_text_pattern, proofs.PatternTextLaws.matched-text}

-- a subfield against registers
pub subfield-registers : (base : NumberBase) (pattern text : List ℕ) (pieces : List Piece) (so_far : Match) →
    (not (same_text pattern (codes "K")) && (not (same_text pattern (codes "n")) && is_text_pattern pattern)) ≡ true → pieces ≡ pieces_of text →
    subfield_matched base pattern pieces so_far ≡ with_field so_far.field (matched pattern text so_far.ijk)
subfield-registers base pattern text pieces so_far shaped is =
    let one = and_parts (not (same_text pattern (codes "K"))) (not (same_text pattern (codes "n")) && is_text_pattern pattern) shaped in
    let two = and_parts (not (same_text pattern (codes "n"))) (is_text_pattern pattern) one.1 in
    let plain = with_field so_far.field (matched pattern (plain_text pieces) so_far.ijk) in
    let n = plain_field OfN so_far.ijk (expression_of base pieces) in
    ap (λ b. cond b (plain_field OfK so_far.ijk (expression_of base pieces)) (cond (same_text pattern (codes "n")) n plain)) (not-true (same_text pattern (codes "K")) one.0)
    ∙ ap (λ b. cond b n plain) (not-true (same_text pattern (codes "n")) two.0)
    ∙ ap (with_field so_far.field) (ap (λ p. matched pattern (plain_text p) so_far.ijk) is ∙ matched-text pattern text so_far.ijk two.1)

too_few : (base : NumberBase) (q r : List ℕ) (b : List Piece) (o : Option Match) → subfields_matched base (q ∷ r ∷ []) (b ∷ []) o ≡ None
too_few base q r b None = refl
too_few base q r b (Some so_far) = refl

-- three patterns do not fit two subfields
pub three_of_two : (base : NumberBase) (subfields : List (List Piece)) (p q r : List ℕ) (x y : Subfield) (known : NumberBase) (so_far : Match) → IsOperand base subfields (operand.Two x y known) →
    None ≡ subfields_matched base (p ∷ q ∷ r ∷ []) subfields (Some so_far)
three_of_two base (a ∷ b ∷ []) p q r x y known so_far h = sym (too_few base q r b (subfield_matched base p a so_far))
three_of_two base (a ∷ b ∷ c ∷ []) p q r x y known so_far h = absurd h
three_of_two base subfields p q r x y known so_far h = absurd h
