-- The steps of taking digits.
use Rattle.std.proofs.{Common.{ℕ, ◌+◌, ◌*◌, ◌^◌, ◌<◌, ◌≤◌, arith}, Math.Nat.pow-le-pow_right}

-- a digit more has room below 2 ^ 64
pub has_room : (word digit place : ℕ) → word < 16 ^ place → digit < 16 → place < 15 → word * 16 + digit < 2 ^ 64
has_room word digit place small below few =
    let most : 16 ^ place ≤ 16 ^ 14 = pow-le-pow_right (omega arith) (let le : place ≤ 14 = omega (arith, few) in le) in
    omega (arith, most, small, below)
