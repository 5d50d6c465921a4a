-- A block is found among those of its deck.
use Rattle.std.{proofs.Common.{◌≡◌, ◌∙◌, ℕ, suc, ◌<◌, ◌≤◌, Bool, true, false, true≢false, not, ◌||◌, List, [], ◌∷◌, ◌+◌, Option, Some, None, Result, Ok, Err, length, position, ap, sym, subst, arith, get_or, if◌then◌else◌}, specs.Prelude.slice_get, specs.List.position_or_len, proofs.lemmas.Bool.lt-ltb, specs.Result.{OkIff, result_unwrap_or}, proofs.lemmas.List.Quantifiers.position-Some, proofs.lemmas.Option.slice_get-get_or}
use Rattle.definitions.{specs.Characters.same_text, specs.Lengths.BlockRow, proofs.TextLaws.same_text-true}
use Rattle.deck_objects.specs.Joins.CodedLines.{IsNamed}
use Rattle.deck_assembler.specs.Joins.Walks.{has_row}

-- the test of a row
abbrev is_row : List ℕ → BlockRow → Bool
is_row name row = same_text name row.name

pub named-some : (name : List ℕ) (row : BlockRow) (found : Option BlockRow) → found ≡ Some row → same_text name row.name ≡ true → IsNamed found name
named-some name row found e same = subst (λ (o : Option BlockRow). IsNamed o name) (sym e) (sym (same_text-true name row.name same))

-- where it was found
pub named-found : (name : List ℕ) (rows : List BlockRow) (place : ℕ) → position (λ (row : BlockRow). same_text name row.name) rows ≡ Some place → IsNamed (slice_get rows place) name
named-found name [] place e = absurd cc
named-found name (first ∷ rows) place e =
    let found = position-Some (λ (row : BlockRow). same_text name row.name) (first ∷ rows) place first e in
    named-some name (get_or (first ∷ rows) place first) (slice_get (first ∷ rows) place) (slice_get-get_or (first ∷ rows) place first found.0) found.1

pub place-few : (name : List ℕ) (rows : List BlockRow) (place : ℕ) → position (λ (row : BlockRow). same_text name row.name) rows ≡ Some place → place < length rows
place-few name [] place e = absurd cc
place-few name (first ∷ rows) place e = let found = position-Some (λ (row : BlockRow). same_text name row.name) (first ∷ rows) place first e in found.0

-- where it is there it is found
found-place : (name : List ℕ) (rows : List BlockRow) → has_row name rows ≡ true → position_or_len (λ (row : BlockRow). same_text name row.name) rows < length rows
found-place name [] e = absurd (true≢false (sym e))
found-place name (row ∷ rows) e = step (same_text name row.name) e (found-place name rows)
  where
    rest : ℕ
    rest = position_or_len (λ (row : BlockRow). same_text name row.name) rows

    step : (t : Bool) → (t || has_row name rows) ≡ true → (has_row name rows ≡ true → rest < length rows) → (if not t then 1 + rest else 0) < suc (length rows)
    step true e h = omega arith
    step false e h = omega (arith, h e)

pub found-none : (name : List ℕ) (rows : List BlockRow) → position (λ (row : BlockRow). same_text name row.name) rows ≡ None → has_row name rows ≡ true → ⊥
found-none name rows e has =
    let place = position_or_len (λ (row : BlockRow). same_text name row.name) rows in
    let found : position (λ (row : BlockRow). same_text name row.name) rows ≡ Some place = ap (λ t. if t then Some place else None) (lt-ltb place (length rows) (found-place name rows has)) in
    let both : None ≡ Some place = sym e ∙ found in
    absurd (cc)

-- an index as a number of 32 bits
pub index-named : (name : List ℕ) (rows : List BlockRow) (place index : ℕ) {E : Type 0} (read : Result ℕ E) → position (λ (row : BlockRow). same_text name row.name) rows ≡ Some place → length rows ≤ 65 →
    OkIff read (place < 4294967296) place → index ≡ result_unwrap_or read 0 → IsNamed (slice_get rows index) name
index-named name rows place index (Ok n) e few is index-is = subst (λ i. IsNamed (slice_get rows i) name) (sym (index-is ∙ is.1)) (named-found name rows place e)
index-named name rows place index (Err fault) e few is index-is = let below = place-few name rows place e in absurd (is (omega (arith, below, few)))
