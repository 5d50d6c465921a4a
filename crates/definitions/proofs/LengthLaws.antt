-- Local blocks stand at the sums of the lengths before them, common blocks at 0.
use Rattle.std.{proofs.Common.{◌≡◌, ℕ, ◌+◌, true, false, List, [], ◌∷◌, ◌++◌, refl, sym, ◌∙◌, arith, add_assoc, subst}, specs.Prelude.if◌then◌else◌}
use Rattle.definitions.specs.{Settled.Settled, Blocks.is_common, Lengths.{BlockLength, BlockRow, placed_row, rows_from, literals_row, rows_of, lengths_of, block_rows, local_words, total_length}, Literals.literal_words, declared.deck_kind.DeckKind.DeckKind}

-- each row's base is the local lengths before it, from a base on, or 0 for a common block
abbrev AreSums : ℕ → List BlockRow → Type 0
AreSums base [] = Unit {0}
AreSums base (row ∷ rows) = (row.base ≡ (if is_common row.name then 0 else base)) × AreSums (base + local_words row) rows

sums-rows_from : (base : ℕ) (blocks : List BlockLength) → AreSums base (rows_from base blocks)
sums-rows_from base [] = tt
sums-rows_from base (block ∷ blocks) = (refl, sums-rows_from (base + local_words (placed_row base block)) blocks)

-- behind rows that are sums stands the end of them
sums-append : (base : ℕ) (rows others : List BlockRow) → AreSums base rows → ((b : ℕ) → b ≡ base + total_length rows → AreSums b others) → AreSums base (rows ++ others)
sums-append base [] others sums behind = behind base (omega arith)
sums-append base (row ∷ rows) others sums behind =
    (sums.0, sums-append (base + local_words row) rows others sums.1 (λ b e. behind b (e ∙ add_assoc base (local_words row) (total_length rows))))

sums-literals_row : (base b : ℕ) (words : List ℕ) → base ≡ b → AreSums b (literals_row base words)
sums-literals_row base b [] e = tt
sums-literals_row base b (word ∷ words) e = (e, tt)

sums-rows_of : (blocks : List BlockLength) (words : List ℕ) → AreSums 0 (rows_of blocks words)
sums-rows_of blocks words =
    let rows = rows_from 0 blocks in
    sums-append 0 rows _ (sums-rows_from 0 blocks) (λ b e. sums-literals_row (total_length rows) b words (sym (e ∙ (omega arith))))

base-front : (base : ℕ) (front rest : List BlockRow) (row : BlockRow) → AreSums base (front ++ row ∷ rest) → row.base ≡ (if is_common row.name then 0 else base + total_length front)
base-front base [] rest row sums = subst (λ b. row.base ≡ (if is_common row.name then 0 else b)) (omega arith) sums.0
base-front base (first ∷ front) rest row sums =
    subst (λ b. row.base ≡ (if is_common row.name then 0 else b)) (add_assoc base (local_words first) (total_length front)) (base-front (base + local_words first) front rest row sums.1)

of_block_rows : (kind : DeckKind) (settled : List Settled) (front rest : List BlockRow) (row : BlockRow) → block_rows kind settled ≡ front ++ row ∷ rest →
    row.base ≡ (if is_common row.name then 0 else total_length front)
of_block_rows kind settled front rest row e =
    let sums = subst (AreSums 0) e (sums-rows_of (lengths_of kind settled) (literal_words settled)) in
    subst (λ b. row.base ≡ (if is_common row.name then 0 else b)) (omega arith) (base-front 0 front rest row sums)

-- a local block stands at the sum of the lengths of the local blocks before it
pub base-local : (kind : DeckKind) (settled : List Settled) (front rest : List BlockRow) (row : BlockRow) → block_rows kind settled ≡ front ++ row ∷ rest →
    is_common row.name ≡ false → row.base ≡ total_length front
base-local kind settled front rest row e local =
    let h = of_block_rows kind settled front rest row e in rw local at h

-- a common block stands at 0
pub base-common : (kind : DeckKind) (settled : List Settled) (front rest : List BlockRow) (row : BlockRow) → block_rows kind settled ≡ front ++ row ∷ rest →
    is_common row.name ≡ true → row.base ≡ 0
base-common kind settled front rest row e common =
    let h = of_block_rows kind settled front rest row e in rw common at h
