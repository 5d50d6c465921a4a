-- Subfields that are expressions, and operands of one to three of them.
use Rattle.std.specs.Prelude.{◌≡◌, ◌≤◌, List, [], ◌∷◌, length, Some, Bool, false, ◌&&◌, is_some}
use Rattle.definitions.specs.{Pieces.{Piece, pieces_of}, Expressions.expression_of, declared.number_base.NumberBase.NumberBase}
use Rattle.expr_forms.specs.declared.operands.Subfield.{Subfield}
use Rattle.expr_forms.specs.declared.operands.Operand as code
use Rattle.expr_forms.specs.declared.operands.Operand.TheVariants as operand

-- a text whose pieces are these, and the expression that they spell
abbrev pub IsSubfield : NumberBase → List Piece → Subfield → Type 0
IsSubfield base pieces subfield =
    (pieces ≡ pieces_of subfield.text.now) × (expression_of base pieces ≡ Some subfield.expression) × (length subfield.text.now ≤ 711)

-- each of one to three subfields, in turn, two with their base
abbrev pub IsOperand : NumberBase → List (List Piece) → code.Operand → Type 0
IsOperand base (p ∷ []) (operand.One first) = IsSubfield base p first
IsOperand base (p ∷ q ∷ []) (operand.Two first second known) = IsSubfield base p first × IsSubfield base q second × (known ≡ base)
IsOperand base (p ∷ q ∷ r ∷ []) (operand.Three first second third) = IsSubfield base p first × IsSubfield base q second × IsSubfield base r third
IsOperand base _ _ = ⊥

-- whether pieces spell an expression
abbrev pub is_subfield : NumberBase → List Piece → Bool
is_subfield base pieces = is_some (expression_of base pieces)

-- whether there are one to three subfields, each an expression
abbrev pub is_operand : NumberBase → List (List Piece) → Bool
is_operand base (p ∷ []) = is_subfield base p
is_operand base (p ∷ q ∷ []) = is_subfield base p && is_subfield base q
is_operand base (p ∷ q ∷ r ∷ []) = is_subfield base p && is_subfield base q && is_subfield base r
is_operand base _ = false
