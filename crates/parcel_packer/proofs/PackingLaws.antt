-- What putting bits one behind the other comes to: fields join, and whole parcels are a number cut.
use Rattle.std.proofs.{Common.{◌≡◌, ℕ, zero, suc, ◌+◌, ◌*◌, ◌/◌, ◌%◌, ◌^◌, ◌<◌, Bool, List, [], ◌∷◌, ◌++◌, length, refl, sym, ap, ◌∙◌, arith, add-suc, append_assoc, append-nil, length-append, inl, inr}, lemmas.Nat.{pow_pos, shr_below, shr_split}, lemmas.Bool.Decides.eqb_tells}
use Rattle.std.proofs.Math.Nat.{mod-lt, pow-suc as pow-succ}
use Rattle.definitions.specs.Words.{Parcel, cut, parcels_from}
use Rattle.parcel_packer.specs.Joins.Packing.{OpenRun, put_bit, put_bits, parcel_at}

-- a number below a power of two is one below half of it and a last bit
half_below : (n w : ℕ) → n < 2 ^ suc w → n / 2 < 2 ^ w
half_below n w h = let twice : 2 ^ suc w ≡ 2 ^ w * 2 = pow-succ 2 w in omega arith

-- two numbers of bits, the second behind the first
shifted_half : (a b w : ℕ) → (a * 2 ^ suc w + b) / 2 ≡ a * 2 ^ w + b / 2
shifted_half a b w = rw pow-succ (halves (a * 2 ^ w) b (a * (2 ^ w * 2)) (omega arith))
  where
    halves : (x y z : ℕ) → z ≡ 2 * x → (z + y) / 2 ≡ x + y / 2
    halves x y z e = omega arith

shifted_last : (a b w : ℕ) → (a * 2 ^ suc w + b) % 2 ≡ b % 2
shifted_last a b w = rw pow-succ (lasts (a * 2 ^ w) b (a * (2 ^ w * 2)) (omega arith))
  where
    lasts : (x y z : ℕ) → z ≡ 2 * x → (z + y) % 2 ≡ y % 2
    lasts x y z e = omega arith

pub same_bits : (size : ℕ) (instruction : Bool) (v w n m : ℕ) (run : OpenRun) → v ≡ w → n ≡ m → put_bits size instruction v n run ≡ put_bits size instruction w m run
same_bits size instruction v w n m run e h = rw (e, h) refl

-- bits behind bits are put as one number
pub put_bits-joined : (size : ℕ) (instruction : Bool) (v w a b : ℕ) (run : OpenRun) → b < 2 ^ w →
    put_bits size instruction (v + w) (a * 2 ^ w + b) run ≡ put_bits size instruction w b (put_bits size instruction v a run)
put_bits-joined size instruction v zero a b run h = same_bits size instruction (v + 0) v (a * 1 + b) a run (omega arith) (omega arith)
put_bits-joined size instruction v (suc w) a b run h =
    let rest = put_bits-joined size instruction v w a (b / 2) run (half_below b w h) in
    rw (add-suc v w) (rw (shifted_half a b w, shifted_last a b w) (ap (λ r. put_bit size instruction (b % 2) r) rest))

-- two runs with the same parcels and equal numbers
pub same_run : (xs ys : List Parcel) (p q f g b c : ℕ) → xs ≡ ys → p ≡ q → f ≡ g → b ≡ c →
    (let r : OpenRun = record { parcels = xs; place = p; filled = f; bits = b } in r) ≡ record { parcels = ys; place = q; filled = g; bits = c }
same_run xs ys p q f g b c d e h k = rw (d, e, h, k) refl

put_bit-more : (size : ℕ) (instruction : Bool) (bit : ℕ) (run : OpenRun) → run.filled + 1 < size →
    put_bit size instruction bit run ≡ record { parcels = run.parcels; place = run.place; filled = run.filled + 1; bits = 2 * run.bits + bit }
put_bit-more size instruction bit run h = elim (eqb_tells (run.filled + 1) size) [
  | inl e ↦ absurd (omega arith)
  | inr e ↦ rw e.0 refl
]

put_bit-last : (size : ℕ) (instruction : Bool) (bit : ℕ) (run : OpenRun) → run.filled + 1 ≡ size →
    put_bit size instruction bit run ≡ record { parcels = run.parcels ++ parcel_at instruction run.place (2 * run.bits + bit) ∷ []; place = run.place + 1; filled = 0; bits = 0 }
put_bit-last size instruction bit run h = elim (eqb_tells (run.filled + 1) size) [
  | inl e ↦ rw e.0 refl
  | inr e ↦ absurd (e.1 h)
]

-- a number that is shifted by one bit more
shifted_more : (a w n : ℕ) → 2 * (a * 2 ^ w + n / 2) + n % 2 ≡ a * 2 ^ suc w + n
shifted_more a w n = rw pow-succ (sums (a * 2 ^ w) n (a * (2 ^ w * 2)) (omega arith))
  where
    sums : (x n z : ℕ) → z ≡ 2 * x → 2 * (x + n / 2) + n % 2 ≡ z + n
    sums x n z e = omega arith

-- bits that stay within the parcel
pub put_bits-within : (size : ℕ) (instruction : Bool) (w n : ℕ) (run : OpenRun) → n < 2 ^ w → run.filled + w < size →
    put_bits size instruction w n run ≡ record { parcels = run.parcels; place = run.place; filled = run.filled + w; bits = run.bits * 2 ^ w + n }
put_bits-within size instruction zero n run h k = same_run run.parcels run.parcels run.place run.place run.filled (run.filled + 0) run.bits (run.bits * 1 + n) refl refl (omega arith) (omega arith)
put_bits-within size instruction (suc w) n run h k =
    let rest = put_bits-within size instruction w (n / 2) run (half_below n w h) (omega arith) in
    rw rest (put_bit-more size instruction (n % 2) (record { parcels = run.parcels; place = run.place; filled = run.filled + w; bits = run.bits * 2 ^ w + n / 2 }) (omega arith)
    ∙ same_run run.parcels run.parcels run.place run.place (run.filled + w + 1) (run.filled + suc w) (2 * (run.bits * 2 ^ w + n / 2) + n % 2) (run.bits * 2 ^ suc w + n) refl refl (omega arith) (shifted_more run.bits w n))

-- bits that make the parcel whole
pub put_bits-closing : (size : ℕ) (instruction : Bool) (w n : ℕ) (run : OpenRun) → n < 2 ^ w → 0 < w → run.filled + w ≡ size →
    put_bits size instruction w n run ≡ record { parcels = run.parcels ++ parcel_at instruction run.place (run.bits * 2 ^ w + n) ∷ []; place = run.place + 1; filled = 0; bits = 0 }
put_bits-closing size instruction zero n run h positive k = absurd (omega arith)
put_bits-closing size instruction (suc w) n run h positive k =
    let rest = put_bits-within size instruction w (n / 2) run (half_below n w h) (omega arith) in
    rw rest (put_bit-last size instruction (n % 2) (record { parcels = run.parcels; place = run.place; filled = run.filled + w; bits = run.bits * 2 ^ w + n / 2 }) (omega arith)
    ∙ ap (λ b. record { parcels = run.parcels ++ parcel_at instruction run.place b ∷ []; place = run.place + 1; filled = 0; bits = 0 }) (shifted_more run.bits w n))

pub parcels_from-append : (instruction : Bool) (place : ℕ) (xs ys : List ℕ) →
    parcels_from instruction place (xs ++ ys) ≡ parcels_from instruction place xs ++ parcels_from instruction (place + length xs) ys
parcels_from-append instruction place [] ys = ap (λ p. parcels_from instruction p ys) (omega arith)
parcels_from-append instruction place (x ∷ xs) ys =
    ap (λ ps. parcel_at instruction place x ∷ ps) (parcels_from-append instruction (place + 1) xs ys
    ∙ ap (λ p. parcels_from instruction (place + 1) xs ++ parcels_from instruction p ys) (omega arith))

pub cut-length : (width count number : ℕ) → length (cut width count number) ≡ count
cut-length width zero number = refl
cut-length width (suc count) number =
    let rest = cut-length width count (number / 2 ^ width) in
    omega (arith, length-append (cut width count (number / 2 ^ width)) (number % 2 ^ width ∷ []))

-- one number more is one parcel more
pub last_parcel : (instruction : Bool) (place count last low : ℕ) (parcels : List Parcel) (numbers : List ℕ) → length numbers ≡ count → last ≡ low →
    (parcels ++ parcels_from instruction place numbers) ++ parcel_at instruction (place + count) last ∷ [] ≡ parcels ++ parcels_from instruction place (numbers ++ low ∷ [])
last_parcel instruction place count last low parcels numbers e h =
    rw (← e, h) (append_assoc parcels (parcels_from instruction place numbers) (parcel_at instruction (place + length numbers) low ∷ [])
    ∙ ap (λ ps. parcels ++ ps) (sym (parcels_from-append instruction place numbers (low ∷ []))))

-- bits that fill whole parcels are their number cut
pub put_bits-whole : (size : ℕ) (instruction : Bool) (count number place : ℕ) (parcels : List Parcel) → 0 < size → number < 2 ^ (size * count) →
    put_bits size instruction (size * count) number (record { parcels = parcels; place = place; filled = 0; bits = 0 })
    ≡ record { parcels = parcels ++ parcels_from instruction place (cut size count number); place = place + count; filled = 0; bits = 0 }
put_bits-whole size instruction zero number place parcels positive h =
    same_bits size instruction (size * 0) 0 number number (record { parcels = parcels; place = place; filled = 0; bits = 0 }) (omega arith) refl
    ∙ same_run parcels (parcels ++ []) place (place + 0) 0 0 0 0 (sym (append-nil parcels)) (omega arith) refl refl
put_bits-whole size instruction (suc count) number place parcels positive h =
    let run : OpenRun = record { parcels = parcels; place = place; filled = 0; bits = 0 } in
    let high = number / 2 ^ size in
    let low = number % 2 ^ size in
    let low_below : low < 2 ^ size = mod-lt number (pow_pos size) in
    let wider : size * suc count ≡ size * count + size = omega arith in
    let number_below : number < 2 ^ (size * count + size) = rw (← wider) h in
    let front = put_bits-whole size instruction count high place parcels positive (shr_below number (size * count) size number_below) in
    let behind : OpenRun = record { parcels = parcels ++ parcels_from instruction place (cut size count high); place = place + count; filled = 0; bits = 0 } in
    let one : 0 + size ≡ size = omega arith in
    same_bits size instruction (size * suc count) (size * count + size) number (high * 2 ^ size + low) run wider (sym (shr_split number size))
    ∙ put_bits-joined size instruction (size * count) size high low run low_below
    ∙ ap (λ r. put_bits size instruction size low r) front
    ∙ put_bits-closing size instruction size low behind low_below positive one
    ∙ same_run _ _ (place + count + 1) (place + suc count) 0 0 0 0 (last_parcel instruction place count (0 * 2 ^ size + low) low parcels (cut size count high) (cut-length size count high) (omega arith)) (omega arith) refl refl
