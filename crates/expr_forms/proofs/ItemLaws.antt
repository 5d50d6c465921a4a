-- The numbers of items' characters are small.
use Rattle.std.proofs.{Common.{ℕ, ◌*◌, ◌^◌, ◌<◌, ◌≤◌, List, length, arith}, Math.Pow.pow_mono}
use Rattle.definitions.{specs.Forms.characters_number, proofs.LiteralLaws.characters_number-below}

-- nine characters
pub characters_number-small : (cs : List ℕ) → length cs ≤ 9 → characters_number cs < 2 ^ 54
characters_number-small cs few =
    let below = characters_number-below cs in
    let up : 2 ^ (6 * length cs) ≤ 2 ^ 54 = pow_mono (let h : 6 * length cs ≤ 54 = omega arith in h) in
    omega arith

-- ten characters
pub characters_number-fits : (cs : List ℕ) → length cs ≤ 10 → characters_number cs < 2 ^ 60
characters_number-fits cs few =
    let below = characters_number-below cs in
    let up : 2 ^ (6 * length cs) ≤ 2 ^ 60 = pow_mono (let h : 6 * length cs ≤ 60 = omega arith in h) in
    omega arith
