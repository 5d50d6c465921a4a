-- A symbol, and so the name of an external, is a name of bytes.
use Rattle.std.{proofs.Common.{◌≡◌, ℕ, ◌<◌, ◌==◌, ◌&&◌, ◌||◌, not, Bool, true, false, true≢false, List, [], ◌∷◌, codes, length, nat_lt, nat_le, refl, sym, ap, ap₂, ◌∙◌, arith, if◌then◌else◌}, specs.List.list_all, proofs.lemmas.Bool.{eqb-true, leb-true, lt-ltb}, proofs.lemmas.Bool.Decides.nat_tests}
use Rattle.definitions.specs.{Characters.{is_among, is_digit, is_letter, is_symbol_character}, Laws.Agreement.{defines_location, own_symbols}, Operations.Operation, Symbols.{begins_symbol, is_register, is_symbol, is_linked_name}}
use Rattle.deck_assembler.{specs.Joins.FirstSymbols.is_known_name, proofs.SymbolLaws.{both_first, both_second}}

either : (x y : Bool) {A : Type 0} → (x || y) ≡ true → (x ≡ true → A) → (y ≡ true → A) → A
either true y h f g = f refl
either false y h f g = g h

-- a byte that is no blank
abbrev is_name_byte : ℕ → Bool
is_name_byte c = nat_lt c 256 && not (c == 32)

-- one of some characters has what all of them have
among-all : (p : ℕ → Bool) (set : List ℕ) (c : ℕ) → list_all p set ≡ true → is_among c set ≡ true → p c ≡ true
among-all p [] c h m = absurd (true≢false (sym m))
among-all p (d ∷ set) c h m =
    either (d == c) (is_among c set) m
    (λ e. ap p (sym (eqb-true d c e)) ∙ both_first (p d) (list_all p set) h)
    (λ e. among-all p set c (both_second (p d) (list_all p set) h) e)

letter-byte : (c : ℕ) → is_letter c ≡ true → is_name_byte c ≡ true
letter-byte c h = grind (arith, nat_tests)

digit-byte : (c : ℕ) → is_digit c ≡ true → is_name_byte c ≡ true
digit-byte c h = grind (arith, nat_tests)

symbol-byte : (c : ℕ) → is_symbol_character c ≡ true → is_name_byte c ≡ true
symbol-byte c h =
    either (is_letter c || is_digit c) (is_among c (codes ".$=#[]%\"_!&'?<>@\\")) h
    (λ e. either (is_letter c) (is_digit c) e (letter-byte c) (digit-byte c))
    (among-all is_name_byte (codes ".$=#[]%\"_!&'?<>@\\") c refl)

symbol-bytes : (text : List ℕ) → list_all is_symbol_character text ≡ true → (list_all (λ c. nat_lt c 256) text ≡ true) × (list_all (λ c. not (c == 32)) text ≡ true)
symbol-bytes [] h = (refl, refl)
symbol-bytes (c ∷ text) h =
    let here = symbol-byte c (both_first (is_symbol_character c) (list_all is_symbol_character text) h) in
    let rest = symbol-bytes text (both_second (is_symbol_character c) (list_all is_symbol_character text) h) in
    (ap₂ (λ a b. a && b) (both_first (nat_lt c 256) (not (c == 32)) here) rest.0, ap₂ (λ a b. a && b) (both_second (nat_lt c 256) (not (c == 32)) here) rest.1)

begins-some : (text : List ℕ) → begins_symbol text ≡ true → nat_lt 0 (length text) ≡ true
begins-some [] h = absurd (true≢false (sym h))
begins-some (c ∷ text) h = lt-ltb 0 (length (c ∷ text)) (omega arith)

-- a symbol is a name
pub symbol-known : (text : List ℕ) → is_symbol text ≡ true → is_known_name text ≡ true
symbol-known text h =
    let front = both_first (begins_symbol text && list_all is_symbol_character text && nat_le (length text) 8) (not (is_register text)) h in
    let two = both_first (begins_symbol text && list_all is_symbol_character text) (nat_le (length text) 8) front in
    let bytes = symbol-bytes text (both_second (begins_symbol text) (list_all is_symbol_character text) two) in
    let some = begins-some text (both_first (begins_symbol text) (list_all is_symbol_character text) two) in
    let few = both_second (begins_symbol text && list_all is_symbol_character text) (nat_le (length text) 8) front in
    ap₂ (λ a b. a && b) (ap₂ (λ a b. a && b) (ap₂ (λ a b. a && b) some few) bytes.1) bytes.0

-- and so is the name of an external
pub linked-known : (text : List ℕ) → is_linked_name text ≡ true → is_known_name text ≡ true
linked-known text h = symbol-known text (both_first (is_symbol text) (nat_le (length text) 7) h)

-- a text of more than eight characters is none
long-none : (text : List ℕ) → 8 < length text → is_symbol text ≡ false
long-none text long = by (is_symbol text) refl
  where
    by : (b : Bool) → is_symbol text ≡ b → is_symbol text ≡ false
    by false e = e
    by true e =
        let front = both_first (begins_symbol text && list_all is_symbol_character text && nat_le (length text) 8) (not (is_register text)) e in
        let few = both_second (begins_symbol text && list_all is_symbol_character text) (nat_le (length text) 8) front in
        absurd (let le = leb-true (length text) 8 few in omega (arith, le, long))

-- and no statement defines it by its location field
pub own-none : (operation : Operation) (text : List ℕ) → 8 < length text → own_symbols operation text ≡ own_symbols operation []
own-none operation text long = ap (λ symbol. if defines_location operation && symbol then text ∷ [] else []) (long-none text long) ∙ by (defines_location operation)
  where
    by : (b : Bool) → Path (List (List ℕ)) (if b && false then text ∷ [] else []) (if b && false then [] ∷ [] else [])
    by true = refl
    by false = refl
