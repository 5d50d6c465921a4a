-- The three tables in turn.
use Rattle.std.{proofs.Common.{◌≡◌, ℕ, true, List, ◌++◌, Option, Some, None, map, sym, ap, ◌∙◌}, specs.Prelude.is_some}
use Rattle.definitions.specs.{Pieces.Piece, Matching.{Instruction, ignoring_fit, row_fit, sum_fit, sum_read, single, rows_for, sum_rows_for, first_fit, central_of}, declared.number_base.NumberBase.NumberBase}
use Rattle.definitions.specs.CentralTable as table
use Rattle.cpu_opcodes.proofs.RowLaws.{or_fit, first_fit-append}

-- what the rows of each table make of an operand
abbrev pub ignoring_fits : List ℕ → Option Instruction
ignoring_fits operation = first_fit (map ignoring_fit (rows_for operation table.ignoring_rows))

abbrev pub sum_fits : NumberBase → List ℕ → List (List Piece) → Option Instruction
sum_fits base operation subfields = first_fit (map (sum_fit operation (sum_read (single base subfields))) (sum_rows_for operation table.sum_rows))

abbrev pub central_fits : NumberBase → List ℕ → List (List Piece) → Option Instruction
central_fits base operation subfields = first_fit (map (row_fit base operation subfields) (rows_for operation table.central_rows))

-- the tables in turn
pub central_of-in_turn : (base : NumberBase) (operation : List ℕ) (subfields : List (List Piece)) →
    central_of base operation subfields ≡ or_fit (ignoring_fits operation) (or_fit (sum_fits base operation subfields) (central_fits base operation subfields))
central_of-in_turn base operation subfields =
    let ignoring = map ignoring_fit (rows_for operation table.ignoring_rows) in
    let sums = map (sum_fit operation (sum_read (single base subfields))) (sum_rows_for operation table.sum_rows) in
    let others = map (row_fit base operation subfields) (rows_for operation table.central_rows) in
    first_fit-append ignoring (sums ++ others) ∙ ap (or_fit (first_fit ignoring)) (first_fit-append sums others)

first_of : (i a rest : Option Instruction) → i ≡ a → is_some i ≡ true → i ≡ or_fit a rest
first_of None a rest same some = absurd (cc)
first_of (Some instruction) a rest same some = ap (λ o. or_fit o rest) same

-- where none does, and one of a sum fits
pub by_sum : (base : NumberBase) (operation : List ℕ) (subfields : List (List Piece)) (i : Option Instruction) → is_some i ≡ true →
    None ≡ ignoring_fits operation → i ≡ sum_fits base operation subfields → i ≡ central_of base operation subfields
by_sum base operation subfields i some none same =
    first_of i (sum_fits base operation subfields) (central_fits base operation subfields) same some
    ∙ ap (λ o. or_fit o (or_fit (sum_fits base operation subfields) (central_fits base operation subfields))) none
    ∙ sym (central_of-in_turn base operation subfields)

-- where neither does
pub by_central : (base : NumberBase) (operation : List ℕ) (subfields : List (List Piece)) (i : Option Instruction) →
    None ≡ ignoring_fits operation → None ≡ sum_fits base operation subfields → i ≡ central_fits base operation subfields → i ≡ central_of base operation subfields
by_central base operation subfields i none no_sum same =
    same
    ∙ ap (λ o. or_fit o (central_fits base operation subfields)) no_sum
    ∙ ap (λ o. or_fit o (or_fit (sum_fits base operation subfields) (central_fits base operation subfields))) none
    ∙ sym (central_of-in_turn base operation subfields)
