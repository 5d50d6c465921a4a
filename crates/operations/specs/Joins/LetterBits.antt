-- Letters as bits of a number (ours).
use Rattle.std.specs.Prelude.{ℕ, ◌/◌, ◌%◌, ◌^◌, ◌==◌, List, Bool, codes, filter}

-- whether the bit of a character is among bits
abbrev pub is_flagged : ℕ → ℕ → Bool
is_flagged bits character = bits / 2 ^ (character % 32) % 2 == 1

-- the characters among these that are flagged
abbrev pub among : ℕ → List ℕ → List ℕ
among bits characters = filter (is_flagged bits) characters

-- the letters that are flagged, in alphabetical order
abbrev pub flagged : ℕ → List ℕ
flagged bits = among bits (codes "ACDLORUVZ")
