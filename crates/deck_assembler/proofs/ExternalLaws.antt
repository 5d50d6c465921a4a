-- The externals among what statements define.
use Rattle.std.{proofs.Common.{◌≡◌, ◌∙◌, ℕ, Bool, true, false, true≢false, List, [], ◌∷◌, ◌++◌, Option, Some, None, is_some, refl, ap, sym, append-nil, append_assoc, if◌then◌else◌}, specs.Prelude.filter_map, specs.List.AllByRecursion, proofs.lemmas.List.Elements.filter_map-append}
use Rattle.definitions.{specs.Entries.{external_name, externals_by, externals_of}, specs.Operands.{Operand, NamesOperand}, specs.Operations.Operation, specs.Settled.{Settled, Definition, defined_in, defined}, specs.Settling.{View, external, externals, is_known}, proofs.TestLaws.option_or-none}
use Rattle.definitions.specs.Operations as op
use Rattle.statement_coder.specs.Joins.Definitions as made
use Rattle.statement_coder.specs.Joins.{Definitions.is_ext, Readings.IsLawfulName}
use Rattle.statement_coder.specs.declared.definitions_made.Defines as code
use Rattle.statement_coder.specs.declared.definitions_made.Defines.TheVariants as defines
use Rattle.deck_assembler.{specs.Joins.FirstSymbols.IsLawfulOperand, specs.Joins.SharedNames.{with_new, with_new_by, with_new_of}, proofs.DefinitionLaws.{joined, is_some-or, external-step}, proofs.NameTexts.linked-known}

filter_map-push : (so_far : List Definition) (name : List ℕ) → filter_map external_name (so_far ++ external name ∷ []) ≡ filter_map external_name so_far ++ name ∷ []
filter_map-push so_far name = filter_map-append external_name so_far (external name ∷ [])

list-step : (b : Bool) (list : List (List ℕ)) (so_far : List Definition) (name : List ℕ) →
    (if b then list ++ filter_map external_name so_far else (list ++ filter_map external_name so_far) ++ name ∷ []) ≡ list ++ filter_map external_name (if b then so_far else so_far ++ external name ∷ [])
list-step true list so_far name = refl
list-step false list so_far name = append_assoc list (filter_map external_name so_far) (name ∷ []) ∙ ap (λ l. list ++ l) (sym (filter_map-push so_far name))

-- the new names of an EXT are the externals that it defines
new-externals : (v : View) (names : List (Option (List ℕ))) (so_far : List Definition) (list : List (List ℕ)) → AllByRecursion IsLawfulName names →
    with_new names (joined v so_far) (list ++ filter_map external_name so_far) ≡ list ++ filter_map external_name (externals v names so_far)
new-externals v [] so_far list lawful = refl
new-externals v (None ∷ names) so_far list lawful = new-externals v names so_far list lawful.1
new-externals v (Some name ∷ names) so_far list lawful =
    ap (λ (w : View). with_new names w (if is_some (joined v so_far name) then list ++ filter_map external_name so_far else (list ++ filter_map external_name so_far) ++ name ∷ [])) (external-step v name so_far (linked-known name lawful.0))
    ∙ ap (λ b. with_new names (joined v (if is_known v name so_far then so_far else so_far ++ external name ∷ [])) (if b then list ++ filter_map external_name so_far else (list ++ filter_map external_name so_far) ++ name ∷ [])) (is_some-or (v name) (defined_in name so_far))
    ∙ ap (with_new names (joined v (if is_known v name so_far then so_far else so_far ++ external name ∷ []))) (list-step (is_known v name so_far) list so_far name)
    ∙ new-externals v names (if is_known v name so_far then so_far else so_far ++ external name ∷ []) list lawful.1

joined-none : (v : View) → v ≡ joined v []
joined-none v = λ i other. sym (option_or-none (v other) None refl) i

new-of : (v : View) (operand : Operand) (list : List (List ℕ)) → IsLawfulOperand operand → with_new_of operand v list ≡ list ++ filter_map external_name (made.externals_of v operand)
new-of v (NamesOperand names) list lawful = ap (λ (w : View). with_new names w list) (joined-none v) ∙ ap (with_new names (joined v [])) (sym (append-nil list)) ∙ new-externals v names [] list lawful
new-of v _ list lawful = sym (append-nil list)

-- what defines nothing, and any other operation than EXT, makes no external
none-external : (operation : Operation) → externals_by operation [] ≡ []
none-external op.Ext = refl
none-external _ = refl

other-externals : (operation : Operation) (definitions : List Definition) → is_ext operation ≡ false → externals_by operation definitions ≡ []
other-externals op.Ext definitions e = absurd (true≢false e)
other-externals _ definitions e = refl

-- the externals behind one statement more
pub externals-step : (earlier : List Settled) (settled : Settled) (what : code.Defines) → IsLawfulOperand settled.read.operand →
    made.defined_by (λ name. defined name earlier) settled.read.fields.location settled.read.operand what ≡ settled.definitions → made.IsOfExt settled.read.operation what →
    with_new_by settled.read.operand what (λ name. defined name earlier) (externals_of earlier) ≡ externals_of (settled ∷ earlier)
externals-step earlier settled defines.Nothing lawful e h =
    sym (append-nil (externals_of earlier)) ∙ ap (λ l. externals_of earlier ++ l) (sym (none-external settled.read.operation) ∙ ap (externals_by settled.read.operation) e)
externals-step earlier settled (defines.Symbol form) lawful e h =
    sym (append-nil (externals_of earlier)) ∙ ap (λ l. externals_of earlier ++ l) (sym (other-externals settled.read.operation settled.definitions h))
externals-step earlier settled defines.Externals lawful e h =
    new-of (λ name. defined name earlier) settled.read.operand (externals_of earlier) lawful
    ∙ ap (λ l. externals_of earlier ++ l) (ap (filter_map external_name) e ∙ ap (λ (o : Operation). externals_by o settled.definitions) (sym h))
