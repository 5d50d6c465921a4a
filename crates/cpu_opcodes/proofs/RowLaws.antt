-- The rows of an operation give what the definitions' rows give.
use Rattle.std.{proofs.Common.{◌≡◌, ℕ, Bool, true, false, cond, ◌&&◌, List, [], ◌∷◌, ◌++◌, Option, Some, None, map, filter, eqb, refl, sym, ap, ◌∙◌}, specs.Prelude.{is_some, option_map, option_and_then}, specs.List.{list_all, slice_split}, proofs.lemmas.Bool.{and_parts, eqb-true, true≢false}, proofs.lemmas.Simd.map-map}
use Rattle.definitions.specs.{Pieces.Piece, CentralTable.SumRow, Matching.{RegisterDigits, no_ijk, matched, is_operation, NoField, Instruction, instruction_of, Sum, subfields_matched, with_field, sum_code, sum_instruction, row_fit, sum_fit, rows_for, sum_rows_for, first_fit}, declared.number_base.NumberBase.NumberBase}
use Rattle.definitions.specs.CentralTable as table
use Rattle.cpu_opcodes.{specs.declared.code.Row.Row, specs.declared.code.OperandForm.OperandForm, specs.declared.code.SumForm.SumForm, specs.Joins.CentralTables.{operand_row, sum_row, padded_row, padded_sum_row, operand_rows_of, sum_rows_of}, specs.Joins.Fits.{named_digits, row_fit_with, sum_fit_with}, specs.Joins.PatternTexts.holds, proofs.PatternTextLaws.fits_none}

-- whether digits are these, if there are any
abbrev has_digits : RegisterDigits → Option RegisterDigits → Bool
has_digits ijk None = false
has_digits ijk (Some found) = eqb found.i ijk.i && (eqb found.j ijk.j && eqb found.k ijk.k)

-- whether a text has the digit of its own name by a pattern
abbrev is_named : List ℕ → List ℕ → Bool
is_named pattern text = has_digits (named_digits text) (matched pattern text no_ijk)

digits-same : (ijk : RegisterDigits) (o : Option RegisterDigits) → has_digits ijk o ≡ true → o ≡ Some ijk
digits-same ijk None same = absurd (cc)
digits-same ijk (Some found) same =
    let first = and_parts (eqb found.i ijk.i) (eqb found.j ijk.j && eqb found.k ijk.k) same in
    let second = and_parts (eqb found.j ijk.j) (eqb found.k ijk.k) first.1 in
    ap (λ n. Some (record found { i = n })) (eqb-true found.i ijk.i first.0)
    ∙ ap (λ n. Some (record found { i = ijk.i; j = n })) (eqb-true found.j ijk.j second.0)
    ∙ ap (λ n. Some (record ijk { k = n })) (eqb-true found.k ijk.k second.1)

-- an operation of a pattern has the digit of its own name: one test of the pattern's texts
matched-named : (pattern operation : List ℕ) → holds (is_named pattern) pattern ≡ true → is_operation pattern operation ≡ true → matched pattern operation no_ijk ≡ Some (named_digits operation)
matched-named pattern operation shaped same =
    elim (is_named pattern operation) as (λ b. is_named pattern operation ≡ b → matched pattern operation no_ijk ≡ Some (named_digits operation)) [
      | true ↦ digits-same (named_digits operation) (matched pattern operation no_ijk)
      | false ↦ λ other. absurd (true≢false (sym same ∙ ap is_some (fits_none (is_named pattern) pattern operation no_ijk shaped other)))
    ] refl

kept_agree : {X Z : Type 0} (b : Bool) (f g : X → Z) (x : X) (rest : List X) → (b ≡ true → f x ≡ g x) → map f rest ≡ map g rest → map f (cond b (x ∷ rest) rest) ≡ map g (cond b (x ∷ rest) rest)
kept_agree true f g x rest same more = ap (λ z. z ∷ map f rest) (same refl) ∙ ap (λ l. g x ∷ l) more
kept_agree false f g x rest same more = more

-- maps that agree on what is kept
pub agree_on_kept : {X Z : Type 0} (s p : X → Bool) (f g : X → Z) (xs : List X) → ((x : X) → s x ≡ true → p x ≡ true → f x ≡ g x) → list_all s xs ≡ true →
    map f (filter p xs) ≡ map g (filter p xs)
agree_on_kept s p f g [] agree all = refl
agree_on_kept s p f g (x ∷ xs) agree all =
    let parts = and_parts (s x) (list_all s xs) all in
    kept_agree (p x) f g x (filter p xs) (agree x parts.0) (agree_on_kept s p f g xs agree parts.1)

-- the rows of the code against the definitions' rows, which fit alike with and without the name's blank
rows_agree : {X C Z : Type 0} (op_of : X → List ℕ) (padded : X → X) (f g : X → Z) (as_row : C → X) (xs : List X) (rows : List C) (operation : List ℕ) →
    map as_row rows ≡ map padded (filter (λ x. is_operation (op_of x) operation) xs) → ((x : X) → f (padded x) ≡ f x) →
    ((x : X) → holds (is_named (op_of x)) (op_of x) ≡ true → is_operation (op_of x) operation ≡ true → f x ≡ g x) → list_all (λ x. holds (is_named (op_of x)) (op_of x)) xs ≡ true →
    map (λ c. f (as_row c)) rows ≡ map g (filter (λ x. is_operation (op_of x) operation) xs)
rows_agree op_of padded f g as_row xs rows operation same alike agree shaped =
    sym (map-map f as_row rows)
    ∙ ap (map f) same
    ∙ map-map f padded (filter (λ x. is_operation (op_of x) operation) xs)
    ∙ agree_on_kept (λ x. holds (is_named (op_of x)) (op_of x)) (λ x. is_operation (op_of x) operation) (λ x. f (padded x)) g xs (λ x s o. alike x ∙ agree x s o) shaped

abbrev pub no_fit : Option Instruction
no_fit = None

-- the rows that are read subfield by subfield
pub central-fits : (base : NumberBase) (operation : List ℕ) (subfields : List (List Piece)) (rows : List (Row OperandForm)) (ijk : RegisterDigits) →
    ijk ≡ named_digits operation → map operand_row rows ≡ operand_rows_of operation →
    map (λ (row : Row OperandForm). row_fit_with base ijk subfields (operand_row row)) rows ≡ map (row_fit base operation subfields) (rows_for operation table.central_rows)
central-fits base operation subfields rows ijk named same =
    ap (λ n. map (λ (row : Row OperandForm). row_fit_with base n subfields (operand_row row)) rows) named
    ∙ rows_agree (λ (row : table.Row). row.operation) padded_row (row_fit_with base (named_digits operation) subfields) (row_fit base operation subfields) operand_row table.central_rows rows operation
    same (λ row. refl)
    (λ row shaped is. ap (λ n. option_map (instruction_of row.code) (subfields_matched base (slice_split (λ c. eqb c 44) row.operand) subfields (with_field NoField n))) (sym (matched-named row.operation operation shaped is)))
    refl

-- the rows of sums
pub sum-fits : (operation : List ℕ) (sum : Option Sum) (rows : List (Row SumForm)) (ijk : RegisterDigits) →
    ijk ≡ named_digits operation → map sum_row rows ≡ sum_rows_of operation →
    map (λ (row : Row SumForm). sum_fit_with ijk sum (sum_row row)) rows ≡ map (sum_fit operation sum) (sum_rows_for operation table.sum_rows)
sum-fits operation None rows ijk named same =
    rows_agree (λ (row : SumRow). row.operation) padded_sum_row (λ (row : SumRow). no_fit) (sum_fit operation None) sum_row table.sum_rows rows operation
    same (λ row. refl) (λ row shaped is. refl) refl
sum-fits operation (Some sum) rows ijk named same =
    ap (λ n. map (λ (row : Row SumForm). sum_fit_with n (Some sum) (sum_row row)) rows) named
    ∙ rows_agree (λ (row : SumRow). row.operation) padded_sum_row (sum_fit_with (named_digits operation) (Some sum)) (sum_fit operation (Some sum)) sum_row table.sum_rows rows operation
    same (λ row. refl)
    (λ row shaped is. ap (λ n. sum_instruction (sum_code row sum.others) sum (option_and_then (matched row.registers sum.registers) n)) (sym (matched-named row.operation operation shaped is)))
    refl

-- the first that fits of two lists
abbrev pub or_fit : Option Instruction → Option Instruction → Option Instruction
or_fit None o = o
or_fit (Some instruction) o = Some instruction

pub first_fit-append : (xs ys : List (Option Instruction)) → first_fit (xs ++ ys) ≡ or_fit (first_fit xs) (first_fit ys)
first_fit-append [] ys = refl
first_fit-append (None ∷ xs) ys = first_fit-append xs ys
first_fit-append (Some instruction ∷ xs) ys = refl

pub first_fit-none : {X : Type 0} (xs : List X) → first_fit (map (λ (x : X). no_fit) xs) ≡ None
first_fit-none [] = refl
first_fit-none (x ∷ xs) = first_fit-none xs

-- the rows of sums that are asked for none
pub no_sum-fits : (operation : List ℕ) → first_fit (map (sum_fit operation None) (sum_rows_for operation table.sum_rows)) ≡ None
no_sum-fits operation = first_fit-none (sum_rows_for operation table.sum_rows)
