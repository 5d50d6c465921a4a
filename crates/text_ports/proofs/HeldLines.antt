-- Lines at the front of what a reader holds.
use Rattle.std.proofs.{Common.{ℕ, ◌≡◌, ◌≢◌, ◌<◌, ◌≤◌, ◌==◌, List, [], ◌∷◌, ◌++◌, Option, None, Some, IfSome, length, take, true, false, get_or, get_or-take, sym, ap, ◌∙◌, arith, length-take-le, eq-eqb, eqb-true}, lemmas.List.take_more, lemmas.List.Elements.All-from_get_or, lemmas.Bool.false_from_ne_true}
use Rattle.memchr.specs.Find.{IsFirstByte, is_byte}
use Rattle.text_ports.specs.Lines.{line_feed, IsUnbroken, IsFrontLine}

-- bytes up to the first line feed have none
before_feed : (bytes : List ℕ) (len : ℕ) → len ≤ length bytes → ((k : ℕ) → k < len → (get_or bytes k 0 == 10) ≡ false) → IsUnbroken (take len bytes)
before_feed bytes len within others =
    let long : length (take len bytes) ≡ len = length-take-le len bytes within in
    All-from_get_or (λ b. b ≢ line_feed) (take len bytes) 0 (λ k below feed.
    let inside : k < len = omega (arith, below, long) in
    let is : (get_or bytes k 0 == 10) ≡ true = eq-eqb _ _ (sym (get_or-take len bytes k 0 inside) ∙ feed) in
    search (arith, sym is ∙ others k inside))

-- the first line feed among the first bytes ends a line
pub IsFrontLine-found : (bytes : List ℕ) (most : ℕ) (found : Option ℕ) → most ≤ 257 → most ≤ length bytes → IsFirstByte (is_byte 10) (take most bytes) found → IfSome found (λ len. IsFrontLine len bytes)
IsFrontLine-found bytes most None few within is = tt
IsFrontLine-found bytes most (Some len) few within is =
    let long : length (take most bytes) ≡ most = length-take-le most bytes within in
    let inside : len < most = omega (arith, is.0.high, long) in
    let feed : get_or bytes len 0 ≡ 10 = sym (get_or-take most bytes len 0 inside) ∙ eqb-true _ _ is.1 in (
      omega (arith, inside, few),
      omega (arith, inside, within),
      take_more bytes len 0 (omega (arith, inside, within)) ∙ ap (λ b. take len bytes ++ b ∷ []) feed,
      before_feed bytes len (omega (arith, inside, within)) (λ k below. ap (λ b. b == 10) (sym (get_or-take most bytes k 0 (omega (arith, below, inside)))) ∙ false_from_ne_true _ (is.0.before k (omega arith) below)),
    )
