-- The kind that statements make is that of the statements up to END.
use Rattle.std.{proofs.Common.{◌≡◌, ◌||◌, Bool, true, false, true≢false, List, [], ◌∷◌, ◌++◌, Option, Some, None, is_some, codes, refl, sym, ap, ◌∙◌}, specs.Prelude.reverse}
use Rattle.definitions.{specs.DeckKinds.{is_end, has_end, up_to_end, kind_of, kind_of_statements}, specs.Fields.{Fields, fields_of}, specs.Operations.{Operation, pseudo_instructions, pseudo_among}, specs.Statements.Statement, specs.declared.deck_kind.DeckKind.DeckKind, proofs.TextLaws.same_text-true}
use Rattle.deck_assembler.{proofs.ReverseLaws.map-reverse, specs.Joins.FirstStatements.fields_in}
use Rattle.operations.specs.Joins.KindsFound.{kind_made_by, or_kind, kind_found}

or_kind-some : (found : Option DeckKind) (operation : Option Operation) → is_some found ≡ true → or_kind found operation ≡ found
or_kind-some None operation h = absurd (true≢false (sym h))
or_kind-some (Some kind) operation h = refl

-- END makes a kind, if no other did
end-made : (fields : Fields) (found : Option DeckKind) → is_end fields ≡ true → is_some (or_kind found (pseudo_among fields.operation pseudo_instructions)) ≡ true
end-made fields None h = ap (λ name. is_some (kind_made_by (pseudo_among name pseudo_instructions))) (same_text-true fields.operation (codes "END") h)
end-made fields (Some kind) h = refl

end-found : (statements : List Statement) → has_end statements ≡ true → is_some (kind_found (fields_in statements)) ≡ true
end-found [] h = absurd (true≢false (sym h))
end-found (last ∷ earlier) h = by (is_end (fields_of last.cards)) refl h (end-found earlier)
  where
    found : Option DeckKind
    found = kind_found (fields_in earlier)

    operation : Option Operation
    operation = pseudo_among (fields_of last.cards).operation pseudo_instructions

    by : (b : Bool) → is_end (fields_of last.cards) ≡ b → (b || has_end earlier) ≡ true → (has_end earlier ≡ true → is_some found ≡ true) → is_some (or_kind found operation) ≡ true
    by true e k rest = end-made (fields_of last.cards) found e
    by false e k rest = ap is_some (or_kind-some found operation (rest k)) ∙ rest k

-- what was found stays
pub found-behind : (later earlier : List Statement) → is_some (kind_found (fields_in earlier)) ≡ true → kind_found (fields_in (later ++ earlier)) ≡ kind_found (fields_in earlier)
found-behind [] earlier h = refl
found-behind (last ∷ later) earlier h =
    let operation = pseudo_among (fields_of last.cards).operation pseudo_instructions in
    ap (λ found. or_kind found operation) (found-behind later earlier h) ∙ or_kind-some (kind_found (fields_in earlier)) operation h

kind-whole : (statements : List Statement) → kind_found (fields_in (up_to_end statements)) ≡ kind_found (fields_in statements)
kind-whole [] = refl
kind-whole (last ∷ earlier) = by (has_end earlier) refl (kind-whole earlier)
  where
    operation : Option Operation
    operation = pseudo_among (fields_of last.cards).operation pseudo_instructions

    by : (b : Bool) → has_end earlier ≡ b → kind_found (fields_in (up_to_end earlier)) ≡ kind_found (fields_in earlier) →
        kind_found (fields_in (elim b [ true ↦ up_to_end earlier | false ↦ last ∷ earlier ])) ≡ or_kind (kind_found (fields_in earlier)) operation
    by true e rest = rest ∙ sym (or_kind-some (kind_found (fields_in earlier)) operation (end-found earlier e))
    by false e rest = refl

-- the kind of the statements up to END, from the kind that all make
pub kind-up_to_end : (search : Option DeckKind) (kind : DeckKind) (statements : List Statement) → search ≡ kind_found (fields_in statements) →
    ((earlier : List Fields) → search ≡ kind_found earlier → kind ≡ kind_of (reverse earlier)) → kind ≡ kind_of_statements (up_to_end statements)
kind-up_to_end search kind statements e h =
    h (fields_in (up_to_end statements)) (e ∙ sym (kind-whole statements))
    ∙ ap kind_of (sym (map-reverse (λ (statement : Statement). fields_of statement.cards) (up_to_end statements)))
