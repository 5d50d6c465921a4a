-- Numbers cut into words from the front.
use Rattle.std.proofs.{Common.{◌≡◌, ℕ, zero, suc, ◌+◌, ◌*◌, ◌/◌, ◌%◌, ◌^◌, ◌<◌, [], ◌∷◌, ◌++◌, sym, ap, ap₂, ◌∙◌, arith}, Math.Nat.{mod-lt, mul-add-div_right, mul-add-mod_self_right}, lemmas.Nat.{pow-add, mul-add-lt, mod-mul-add, div_below, shr_below, shr_split}}
use Rattle.definitions.{specs.Words.cut, proofs.WordLaws.pow_positive}

-- a number whose front is one word
pub cut-front : (width n q r : ℕ) → q < 2 ^ width → r < 2 ^ (n * width) → cut width (suc n) (q * 2 ^ (n * width) + r) ≡ q ∷ cut width n r
cut-front width zero q r small rest =
    let one : 2 ^ (0 * width) ≡ 1 = ap (λ k. 2 ^ k) (let e : 0 * width ≡ 0 = omega arith in e) in
    let none : r ≡ 0 = omega (arith, one) in
    let whole : q * 2 ^ (0 * width) + r ≡ 0 * 2 ^ width + q = ap₂ (λ k n. q * k + n) one none ∙ (let e : q * 1 + 0 ≡ 0 * 2 ^ width + q = omega arith in e) in
    ap (λ m. m % 2 ^ width ∷ []) whole ∙ ap (λ m. m ∷ []) (mod-mul-add 0 (2 ^ width) q small)
cut-front width (suc n) q r small rest =
    let p = 2 ^ (n * width) in
    let w = 2 ^ width in
    let some = pow_positive width in
    let power : 2 ^ (suc n * width) ≡ p * w = ap (λ k. 2 ^ k) (let e : suc n * width ≡ n * width + width = omega arith in e) ∙ pow-add 2 (n * width) width in
    let grouped : q * 2 ^ (suc n * width) + r ≡ q * p * w + r = ap (λ k. q * k + r) power ∙ (let e : q * (p * w) + r ≡ q * p * w + r = omega arith in e) in
    let high : (q * 2 ^ (suc n * width) + r) / w ≡ q * p + r / w = ap (λ k. k / w) grouped ∙ mul-add-div_right some (q * p) r in
    let low : (q * 2 ^ (suc n * width) + r) % w ≡ r % w = ap (λ k. k % w) grouped ∙ mul-add-mod_self_right (q * p) w r in
    let below : r / w < p = div_below r w p some (let e : r < p * w = rw power at rest in e) in
    ap₂ (λ h l. cut width (suc n) h ++ l ∷ []) high low ∙ ap (λ c. c ++ r % w ∷ []) (cut-front width n q (r / w) small below)

-- the first word of bits x behind which so many bits are still to come
pub cut-first : (width n left more x bits : ℕ) → left + more ≡ n * width → x < 2 ^ (width + left) → bits < 2 ^ more →
    cut width (suc n) (x * 2 ^ more + bits) ≡ x / 2 ^ left ∷ cut width n (x % 2 ^ left * 2 ^ more + bits)
cut-first width n left more x bits whole fits small =
    let q = x / 2 ^ left in
    let m = x % 2 ^ left in
    let power : 2 ^ (n * width) ≡ 2 ^ left * 2 ^ more = ap (λ k. 2 ^ k) (sym whole) ∙ pow-add 2 left more in
    let split = shr_split x left in
    let rest : m * 2 ^ more + bits < 2 ^ (n * width) =
    (let f = mul-add-lt m (2 ^ more) bits (2 ^ left) (mod-lt x (pow_positive left)) small in
    let turned : 2 ^ more * 2 ^ left ≡ 2 ^ left * 2 ^ more = omega arith in omega (arith, f, power, turned)) in
    let grouped : x * 2 ^ more + bits ≡ q * 2 ^ (n * width) + (m * 2 ^ more + bits) =
    ap (λ k. k * 2 ^ more + bits) (sym split)
    ∙ (let e : (q * 2 ^ left + m) * 2 ^ more + bits ≡ q * (2 ^ left * 2 ^ more) + (m * 2 ^ more + bits) = omega arith in e)
    ∙ ap (λ k. q * k + (m * 2 ^ more + bits)) (sym power) in
    ap (cut width (suc n)) grouped ∙ cut-front width n q (m * 2 ^ more + bits) (shr_below x width left fits) rest
