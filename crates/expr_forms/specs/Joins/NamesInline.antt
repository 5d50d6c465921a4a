-- How a name lies in memory: its characters, and zeros behind them.
use Rattle.std.{specs.Prelude.{ℕ, ◌≡◌, ◌-◌, ◌≤◌, List, ◌++◌, length, take, drop, replicate}, proofs.Common.{◌∙◌, ap, sym, arith, length-take-le, take-append-drop}}

pub record IsName (len : ℕ) (characters : List ℕ) : Type 0 where
  pub short : len ≤ 9
  pub whole : length characters ≡ 9
  pub behind : drop len characters ≡ replicate (9 - len) 0

-- a name's length is that of its text
pub len_back : (len : ℕ) (characters : List ℕ) → IsName len characters → length (take len characters) ≡ len
len_back len characters name = length-take-le len characters (omega (arith, name.short, name.whole))

-- a name's characters are its text and zeros
pub characters_back : (len : ℕ) (characters : List ℕ) → IsName len characters →
    take len characters ++ replicate (9 - length (take len characters)) 0 ≡ characters
characters_back len characters name =
    ap (λ (n : ℕ). take len characters ++ replicate (9 - n) 0) (len_back len characters name)
    ∙ (ap (λ (l : List ℕ). take len characters ++ l) (sym name.behind)
    ∙ take-append-drop len characters)
