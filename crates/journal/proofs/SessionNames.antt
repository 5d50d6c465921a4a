-- The name of a session is one that a deck might have.
use Rattle.std.{proofs.Common.{ℕ, ◌≡◌, ◌≤◌, ◌<◌, ◌%◌, ◌||◌, true, length, arith}, specs.Prelude.decimal, specs.List.list_all, proofs.lemmas.Bool.{and_from, le-leb, or_right}, proofs.lemmas.Fmt.{decimal_nonempty, length-decimal-le}}
use Rattle.definitions.specs.{Characters.{is_digit, is_letter}, DeckInput.is_deck_name}
use Rattle.session_commands.proofs.ReadBack.{all-by, spells-decimal}
use Rattle.journal.specs.Names.{session_name}

-- its digits
name-is : (number : ℕ) → number < 10000000 → is_deck_name (decimal number) ≡ true
name-is number small =
    let some : 1 ≤ length (decimal number) = omega (arith, decimal_nonempty number (omega (arith, small))) in
    let few : length (decimal number) ≤ 7 = length-decimal-le 7 number (omega arith) (omega (arith, small)) (omega (arith, small)) in
    let digits : list_all is_digit (decimal number) ≡ true = (spells-decimal number (omega (arith, small))).0 in
    and_from _ _ (and_from _ _ (le-leb 1 (length (decimal number)) some) (le-leb (length (decimal number)) 7 few))
    (all-by is_digit (λ c. is_letter c || is_digit c) (λ c is. or_right (is_letter c) (is_digit c) is) (decimal number) digits)

pub session-is : (number : ℕ) → is_deck_name (session_name number) ≡ true
session-is number = let small : number % 10000000 < 10000000 = omega arith in name-is (number % 10000000) small
