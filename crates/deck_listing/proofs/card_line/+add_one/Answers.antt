use Rattle.std.proofs.{Common.{◌≡◌, ℕ, suc, ◌+◌, ◌/◌, ◌%◌, ◌≤◌, List, [], ◌∷◌, ◌++◌, length, sym, ap, ap₂, ◌∙◌, arith}, lemmas.List.same_from_push}
use Rattle.definitions.specs.Numerals.{digits_of}
use Rattle.deck_listing.proofs.card_line.+add_one.Goals as goal

-- behind a 9 stands 0, and the digits before it are counted up
carried : (front after : List ℕ) (last count number : ℕ) → front ++ last ∷ [] ≡ digits_of 10 count number → length front + 1 ≡ count → 57 ≤ last →
    ((n : ℕ) → front ≡ digits_of 10 (length front) n → after ≡ digits_of 10 (length front) (n + 1)) → after ++ 48 ∷ [] ≡ digits_of 10 count (number + 1)
carried front after last count number split long nine more =
    let one : count ≡ suc (length front) = omega (arith, long) in
    let same = same_from_push front (digits_of 10 (length front) (number / 10)) last (48 + number % 10) (split ∙ ap (λ n. digits_of 10 n number) one) in
    let is = same.1 in
    let tens : number / 10 + 1 ≡ (number + 1) / 10 = omega (arith, is, nine) in
    let digit : 48 ≡ 48 + (number + 1) % 10 = omega (arith, is, nine) in
    ap₂ (λ digits d. digits ++ d ∷ []) (more (number / 10) same.0 ∙ ap (digits_of 10 (length front)) tens) digit
    ∙ ap (λ n. digits_of 10 n (number + 1)) (sym one)

pub returns-else-last-lt57 : goal.returns-else-last-lt57
returns-else-last-lt57 t c number is =
    let split = c.in-Some.ensures.cases in
    carried c.in-Some.front.now c.add_one.new.digits c.in-Some.last.now (length c.args.digits.now) number (sym split.0 ∙ is) split.1 c.if-last-lt57.false c.add_one.ensures
