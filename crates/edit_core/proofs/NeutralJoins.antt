-- None of the neutral statements that decks of two kinds begin with is bound otherwise.
use Rattle.std.{proofs.Common.{◌≡◌, ◌⊎◌, inl, inr, ℕ, Bool, true, false, not, List, [], ◌∷◌, ◌++◌, Some, refl, sym, ap, arith, codes, if◌then◌else◌}, specs.List.list_any, proofs.lemmas.Bool.true≢false}
use Rattle.definitions.specs.{Characters.same_text, Expressions.Element, Fields.fields_of, Operands.{Unread, BadOperand, operand_of}, Operations.{Operation, is_neutral, operation_of}, Laws.Rebound.{bound_alike, coded_elements, is_rebound}, Settling.{number_base_of, settle, settled_all}, StatementItems.Context, Statements.Statement, declared.deck_kind.DeckKind.DeckKind, declared.deck_kind.DeckKind.TheVariants.{Rel, Abs, Periph}, declared.number_base.NumberBase.NumberBase}
use Rattle.definitions.specs.Operations as op
use Rattle.deck_assembler.{specs.Joins.DueCodes.one_where, proofs.NeutralLaws.{AreNeutral, neutral-known}}
use Rattle.edit_core.proofs.ReboundJoins.{rebounds}

-- two kinds are one, or they are not
pub same-kind : (a b : DeckKind) → (a ≡ b) ⊎ (a ≡ b → ⊥)
same-kind Rel Rel = inl refl
same-kind Rel Abs = inr (λ e. cc)
same-kind Rel Periph = inr (λ e. cc)
same-kind Abs Rel = inr (λ e. cc)
same-kind Abs Abs = inl refl
same-kind Abs Periph = inr (λ e. cc)
same-kind Periph Rel = inr (λ e. cc)
same-kind Periph Abs = inr (λ e. cc)
same-kind Periph Periph = inl refl

-- the first of neutral statements are neutral
pub neutral-within : (behind front : List Statement) → AreNeutral (behind ++ front) → AreNeutral front
neutral-within [] front are = are
neutral-within (statement ∷ behind) front are = neutral-within behind front are.1

-- coding reads nothing of a neutral statement
unread : (kind : DeckKind) (base : NumberBase) (operation : Operation) (name text : List ℕ) → is_neutral (Some operation) ≡ true → coded_elements operation (operand_of kind base operation name text) ≡ []
unread kind base op.EmptyField name text is = refl
unread kind base op.Listed name text is = refl
unread kind base op.Base name text is = by (same_text text (codes "O")) (same_text text (codes "D"))
  where
    by : (b c : Bool) → coded_elements op.Base (if b then Unread else if c then Unread else BadOperand) ≡ []
    by true c = refl
    by false true = refl
    by false false = refl
unread kind base operation name text is = absurd (true≢false (sym is))

-- so it is not bound otherwise
pub neutral-unbound : (kind : DeckKind) (old new : Context) (front : List Statement) → AreNeutral front → rebounds old new (settled_all kind front) ≡ 0
neutral-unbound kind old new [] are = refl
neutral-unbound kind old new (statement ∷ front) are =
    let rest = neutral-unbound kind old new front are.1 in
    let settled = settle kind (settled_all kind front) statement in
    let none = unread kind (number_base_of (settled_all kind front)) (operation_of kind (fields_of statement.cards).operation) (fields_of statement.cards).operation (fields_of statement.cards).variable (neutral-known kind statement are.0) in
    let here : one_where (is_rebound old new settled) ≡ 0 = ap (λ (elements : List Element). one_where (list_any (λ element. not (bound_alike old new settled element)) elements)) none in
    omega (arith, rest, here)
