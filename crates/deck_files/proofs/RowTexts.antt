-- What is written of a known file is read back.
use Rattle.std.{proofs.Common.{ℕ, zero, suc, ◌≡◌, ◌-◌, ◌*◌, ◌%◌, ◌<◌, ◌^◌, ◌==◌, List, ◌∷◌, ◌++◌, Bool, true, Option, Some, None, Result, Ok, IfSome, if◌then◌else◌, length, take, drop, min, refl, ap, ◌∙◌, arith, length-append}, specs.Prelude.{codes, slice_index, ◌/◌}, specs.Option.option_map, specs.Int.{w64, from_be_bytes, to_be_bytes}, proofs.lemmas.List.{drop_at, take_at}, proofs.lemmas.Nat.from_be_bytes-to_be_bytes_8}
use Rattle.hex.{specs.declared.error.FromHexError.FromHexError, specs.Hex.{IsBytes, decode_pairs, decode_sized, encode_lower, lower_digits}, proofs.HexLemmas.{decode_of-encode_lower, decode_sized-twice, length-encode_with}}
use Rattle.definitions.specs.{Characters.same_text, DeckInput.is_deck_name}
use Rattle.deck_files.specs.{declared.known_rows.Known.Known, FileRows.deck_named, KnownTexts.{IsWritable, bytes_if, digest_in, known_in, known_of, known_text, number_in, row_behind, row_in, row_line, row_of, version_text}}

-- what is left of a number by 256
left : (n : ℕ) → n % 256 < 256
left n = omega arith

bytes-number : (n i : ℕ) → slice_index (to_be_bytes w64 n) i < 256
bytes-number n zero = left (n / 256 ^ 7)
bytes-number n (suc zero) = left (n / 256 ^ 6)
bytes-number n (suc (suc zero)) = left (n / 256 ^ 5)
bytes-number n (suc (suc (suc zero))) = left (n / 256 ^ 4)
bytes-number n (suc (suc (suc (suc zero)))) = left (n / 256 ^ 3)
bytes-number n (suc (suc (suc (suc (suc zero))))) = left (n / 256 ^ 2)
bytes-number n (suc (suc (suc (suc (suc (suc zero)))))) = left (n / 256 ^ 1)
bytes-number n (suc (suc (suc (suc (suc (suc (suc zero))))))) = left n
bytes-number n (suc (suc (suc (suc (suc (suc (suc (suc i)))))))) = omega arith

-- bytes that were written are read
sized : (bytes : List ℕ) (n : ℕ) → length bytes ≡ n → IsBytes bytes → decode_sized (encode_lower bytes) n ≡ Ok bytes
sized bytes n len are =
    decode_sized-twice (encode_lower bytes) n (length-encode_with lower_digits bytes ∙ ap (λ (k : ℕ). 2 * k) len) ∙ decode_of-encode_lower bytes are

number-back : (n : ℕ) → n < 2 ^ 64 → number_in (encode_lower (to_be_bytes w64 n)) ≡ Some n
number-back n fits =
    ap (λ (r : Result (List ℕ) FromHexError). option_map (λ (bytes : List ℕ). from_be_bytes w64 bytes) (bytes_if r)) (sized (to_be_bytes w64 n) 8 refl (bytes-number n))
    ∙ ap Some (from_be_bytes-to_be_bytes_8 n fits)

no-number : number_in (codes "----------------") ≡ None
unfolding decode_pairs
no-number = refl

version-back : (version : Option ℕ) → IfSome version (λ v. v < 2 ^ 64) → number_in (version_text version) ≡ version
version-back None fits = no-number
version-back (Some version) fits = number-back version fits

version-length : (version : Option ℕ) → length (version_text version) ≡ 16
version-length None = refl
version-length (Some version) = length-encode_with lower_digits (to_be_bytes w64 version)

known-length : (known : Known) → length known.sum.digest ≡ 32 → length (known_text known) ≡ 96
known-length known sized_so =
    let digest = encode_lower known.sum.digest in
    let number = encode_lower (to_be_bytes w64 known.sum.length) in
    omega (
      arith,
      length-append digest (number ++ version_text known.version),
      length-append number (version_text known.version),
      length-encode_with lower_digits known.sum.digest,
      length-encode_with lower_digits (to_be_bytes w64 known.sum.length),
      version-length known.version,
      sized_so,
    )

-- three fields of 64, 16 and 16 digits
fields : (digest number version : List ℕ) → length digest ≡ 64 → length number ≡ 16 → length (digest ++ (number ++ version)) ≡ 96 →
    known_in (digest ++ (number ++ version)) ≡ known_of (digest_in digest) (number_in number) (number_in version)
fields digest number version first second all =
    let text = digest ++ (number ++ version) in
    ap (λ (n : ℕ). if n == 96 then known_of (digest_in (take 64 text)) (number_in (take 16 (drop 64 text))) (number_in (drop 16 (drop 64 text))) else None) all
    ∙ ap (λ (d : List ℕ). known_of (digest_in d) (number_in (take 16 (drop 64 text))) (number_in (drop 16 (drop 64 text)))) (take_at digest (number ++ version) 64 first)
    ∙ ap (λ (l : List ℕ). known_of (digest_in digest) (number_in (take 16 l)) (number_in (drop 16 l))) (drop_at digest (number ++ version) 64 first)
    ∙ ap (λ (l : List ℕ). known_of (digest_in digest) (number_in l) (number_in (drop 16 (number ++ version)))) (take_at number version 16 second)
    ∙ ap (λ (l : List ℕ). known_of (digest_in digest) (number_in number) (number_in l)) (drop_at number version 16 second)

known-back : (known : Known) → IsWritable known → known_in (known_text known) ≡ Some known
known-back known writable =
    let digest = encode_lower known.sum.digest in
    let number = encode_lower (to_be_bytes w64 known.sum.length) in
    let version = version_text known.version in
    fields digest number version (length-encode_with lower_digits known.sum.digest ∙ ap (λ (k : ℕ). 2 * k) writable.0) (length-encode_with lower_digits (to_be_bytes w64 known.sum.length))
    (known-length known writable.0)
    ∙ ap (λ (r : Result (List ℕ) FromHexError). known_of (bytes_if r) (number_in number) (number_in version)) (sized known.sum.digest 32 writable.0 writable.1)
    ∙ ap (λ (n : Option ℕ). known_of (Some known.sum.digest) n (number_in version)) (number-back known.sum.length writable.2)
    ∙ ap (λ (v : Option ℕ). known_of (Some known.sum.digest) (Some known.sum.length) v) (version-back known.version writable.3)

behind-blank : (name text : List ℕ) → row_behind name (32 ∷ text) ≡ row_of (deck_named name) (known_in text)
behind-blank name text =
    let one : min (length (32 ∷ text)) 1 ≡ 1 = omega arith in
    ap (λ (k : ℕ). if same_text (take k (32 ∷ text)) (codes " ") then row_of (deck_named name) (known_in (drop k (32 ∷ text))) else None) one

pub row-back : (name : List ℕ) (known : Known) → is_deck_name name ≡ true → IsWritable known → row_in (row_line name known) ≡ Some (record { name = name; known = known })
row-back name known named writable =
    let text = known_text known in
    let line = row_line name known in
    let place : length line - 97 ≡ length name = omega (arith, length-append name (32 ∷ text), known-length known writable.0) in
    ap (λ (k : ℕ). row_behind (take k line) (drop k line)) place
    ∙ ap (λ (n : List ℕ). row_behind n (drop (length name) line)) (take_at name (32 ∷ text) (length name) refl)
    ∙ ap (λ (t : List ℕ). row_behind name t) (drop_at name (32 ∷ text) (length name) refl)
    ∙ behind-blank name text
    ∙ ap (λ (k : Option Known). row_of (deck_named name) k) (known-back known writable)
    ∙ ap (λ (t : Bool). row_of (if t then Some name else None) (Some known)) named
