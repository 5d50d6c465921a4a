-- A number times a power of two, where the number is known up to a cap.
use Rattle.std.proofs.{Common.{◌≡◌, ◌≢◌, ℕ, ◌*◌, ◌^◌, ◌<◌, ◌≤◌, min, Bool, Some, ap, arith, if◌then◌else◌}, lemmas.Bool.{lt-leb}, Math.Pow.pow_mono, Math.Nat.{mul-le-mul}}
use Rattle.definitions.specs.Symbols.{Value, TooGreat, bounded, greatest}

-- a number above the greatest
bounded-TooGreat : (number : ℕ) → greatest < number → bounded (Some number) ≡ Some TooGreat
bounded-TooGreat number h = ap (λ (t : Bool). Some (if t then Value number else TooGreat)) (lt-leb number greatest h)

-- any number but 0 times 2^60 or more
pub too_great-scale : (value number scale : ℕ) → value ≡ min number (2 ^ 60) → value ≢ 0 → 60 ≤ scale →
    bounded (Some (number * 2 ^ scale)) ≡ Some TooGreat
too_great-scale value number scale e some far =
    let one : 1 ≤ number = omega arith in
    let power : 2 ^ 60 ≤ 2 ^ scale = pow_mono far in
    let product : 1 * 2 ^ 60 ≤ number * 2 ^ scale = mul-le-mul one power in
    bounded-TooGreat (number * 2 ^ scale) (omega arith)
