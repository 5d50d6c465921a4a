-- The rows of an operation, which is in a table where there are some.
use Rattle.std.{proofs.Common.{◌≡◌, ℕ, Bool, true, false, cond, ◌||◌, List, [], ◌∷◌, length, get_or, map, filter, refl, sym, ap, ap₂, ◌∙◌, arith}, specs.Prelude.is_some, specs.List.{list_all, list_any}, proofs.lemmas.Bool.and_parts}
use Rattle.definitions.specs.Matching.{no_ijk, is_operation}
use Rattle.definitions.specs.CentralTable as table
use Rattle.cpu_opcodes.{specs.Joins.CentralTables.{is_some_of, is_shaped, operand_rows_of, padded_row}, specs.Joins.PatternTexts.holds, proofs.PatternTextLaws.fits_none}

-- a map leaves no list empty and fills none
is_some_of-map : {X Z : Type 0} (f : X → Z) (xs : List X) → is_some_of (map f xs) ≡ is_some_of xs
is_some_of-map f [] = refl
is_some_of-map f (x ∷ xs) = refl

kept_one : {X : Type 0} (b any : Bool) (x : X) (rest : List X) → is_some_of rest ≡ any → is_some_of (cond b (x ∷ rest) rest) ≡ (b || any)
kept_one true any x rest e = refl
kept_one false any x rest e = e

is_some_of-filter : {X : Type 0} (p : X → Bool) (xs : List X) → is_some_of (filter p xs) ≡ list_any p xs
is_some_of-filter p [] = refl
is_some_of-filter p (x ∷ xs) = kept_one (p x) (list_any p xs) x (filter p xs) (is_some_of-filter p xs)

-- an operation is in a table where there are rows of it
pub any_row : {X Y Z : Type 0} (f : Y → Z) (d : X → Z) (p : X → Bool) (xs : List X) (rows : List Y) → map f rows ≡ map d (filter p xs) → is_some_of rows ≡ list_any p xs
any_row f d p xs rows same = sym (is_some_of-map f rows) ∙ ap is_some_of same ∙ is_some_of-map d (filter p xs) ∙ is_some_of-filter p xs

is_empty : {X : Type 0} (xs : List X) → is_some_of xs ≡ false → xs ≡ []
is_empty [] none = refl
is_empty (x ∷ xs) none = absurd (cc)

-- a test that no element passes keeps none
pub none-kept : {X : Type 0} (p : X → Bool) (xs : List X) → list_any p xs ≡ false → filter p xs ≡ []
none-kept p xs none = is_empty (filter p xs) (is_some_of-filter p xs ∙ none)

-- no row is left where a test holds of all their texts and not of the operation
none-of : {X : Type 0} (test : List ℕ → Bool) (op_of : X → List ℕ) (xs : List X) (operation : List ℕ) → list_all (λ x. holds test (op_of x)) xs ≡ true → test operation ≡ false →
    list_any (λ x. is_operation (op_of x) operation) xs ≡ false
none-of test op_of [] operation all other = refl
none-of test op_of (x ∷ xs) operation all other =
    let parts = and_parts (holds test (op_of x)) (list_all (λ y. holds test (op_of y)) xs) all in
    ap₂ (λ (s t : Bool). s || t) (ap is_some (fits_none test (op_of x) operation no_ijk parts.0 other)) (none-of test op_of xs operation parts.1 other)

-- another operation has no row
pub no_rows : (operation : List ℕ) → is_shaped operation ≡ false → [] ≡ operand_rows_of operation
no_rows operation other =
    sym (ap (map padded_row) (none-kept (λ (row : table.Row). is_operation row.operation operation) table.central_rows (none-of is_shaped (λ (row : table.Row). row.operation) table.central_rows operation refl other)))

-- a text of two or three characters
pub pair-of : (text : List ℕ) → length text ≡ 2 → get_or text 0 0 ∷ get_or text 1 0 ∷ [] ≡ text
pair-of (a ∷ b ∷ []) two = refl
pair-of text two = absurd (omega arith)

pub triple-of : (text : List ℕ) → length text ≡ 3 → get_or text 0 0 ∷ get_or text 1 0 ∷ get_or text 2 0 ∷ [] ≡ text
triple-of (a ∷ b ∷ c ∷ []) three = refl
triple-of text three = absurd (omega arith)
