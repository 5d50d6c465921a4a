-- The 64 characters and their display codes: each law is one test over all bytes, or over the 64.
use Rattle.std.{proofs.Common.{◌≡◌, ℕ, ◌+◌, ◌-◌, ◌<◌, ◌≤◌, Bool, true, eqb, ◌&&◌, Option, None, Some, refl, sym, ap, ◌∙◌, arith, get_or, nat_eq}, specs.Prelude.{unwrap_or, is_some, nat_le}, proofs.lemmas.Bool.{eqb-true, leb-true, and_parts, agree_below_at}, proofs.lemmas.List.Quantifiers.position-Some}
use Rattle.definitions.specs.{Characters.{characters, character_of, display_code_of}, declared.characters.TheConstants.CODES}

-- whether the code is 0 to 63 and this one
abbrev is_code : Option ℕ → ℕ → Bool
is_code found code = nat_le code 63 && eqb (unwrap_or found 64) code

is_code-Some : (found : Option ℕ) (code : ℕ) → is_code found code ≡ true → found ≡ Some code
is_code-Some None code e =
    let known = and_parts _ _ e in
    let same : 64 ≡ code = eqb-true 64 code known.1 in
    let few : code ≤ 63 = leb-true code 63 known.0 in
    absurd (omega arith)
is_code-Some (Some d) code e = ap Some (eqb-true d code (and_parts _ _ e).1)

-- the characters are the bytes from the blank to `_`
pub is_some-display_code_of : (byte : ℕ) → byte < 256 → is_some (display_code_of byte) ≡ (nat_le 32 byte && nat_le byte 95)
is_some-display_code_of byte few =
    agree_below_at (λ b. is_some (display_code_of b)) (λ b. nat_le 32 b && nat_le b 95) 256 byte refl few

-- the table of codes has them in the order of the bytes
pub display_code_of-byte : (byte place : ℕ) → byte ≡ 32 + place → place < 64 → display_code_of byte ≡ Some (get_or CODES place 0)
display_code_of-byte byte place is few =
    ap display_code_of is
    ∙ is_code-Some (display_code_of (32 + place)) (get_or CODES place 0)
    (agree_below_at (λ k. is_code (display_code_of (32 + k)) (get_or CODES k 0)) (λ k. true) 64 place refl few)

-- one of the characters has the code at its place in the table
pub display_code_of-place : (byte place : ℕ) → byte < 256 → is_some (display_code_of byte) ≡ true → place ≡ byte - 32 → Some (get_or CODES place 0) ≡ display_code_of byte
display_code_of-place byte place few has is =
    let within = and_parts _ _ (sym (is_some-display_code_of byte few) ∙ has) in
    let low : 32 ≤ byte = leb-true 32 byte within.0 in
    let high : byte ≤ 95 = leb-true byte 95 within.1 in
    sym (display_code_of-byte byte place (omega arith) (omega arith))

-- each code below 64 is that of its character
pub display_code_of-character_of : (character code : ℕ) → character ≡ character_of code → code < 64 → display_code_of character ≡ Some code
display_code_of-character_of character code same few =
    ap display_code_of same
    ∙ is_code-Some (display_code_of (character_of code)) code (agree_below_at (λ d. is_code (display_code_of (character_of d)) d) (λ d. true) 64 code refl few)

-- a character is that of its code
pub character_of-display_code_of : (character code : ℕ) → display_code_of character ≡ Some code → (code < 64) × (character_of code ≡ character)
character_of-display_code_of character code found =
    let known = position-Some (λ c. nat_eq c character) characters code 0 found in
    (known.0, eqb-true (get_or characters code 0) character known.1)
