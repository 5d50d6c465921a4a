-- The steps of writing a number in decimal from its last digit on.
use Rattle.std.proofs.Common.{◌≡◌, ℕ, suc, ◌+◌, ◌-◌, ◌/◌, ◌%◌, ◌^◌, ◌<◌, ◌≤◌, List, [], ◌∷◌, ◌++◌, length, sym, ap, subst, ◌∙◌, arith, append_assoc}
use Rattle.definitions.specs.Numerals.{decimal_in}
use Rattle.text_ports.proofs.DigitSteps.{decimal_in-more, room_in_front, below_front}

-- a digit more stands in front of the others
module _ (text after : List ℕ) (rest : ℕ) (many : 10 ≤ rest) (room : length text < 20) (below : rest < 10 ^ (20 - length text))
    (longer : length after ≡ length text + 1) where
  back : 20 - length text ≡ 20 - length after + 1
  back = omega (arith, longer, room)

  below_more : rest < 10 ^ (20 - length after + 1)
  below_more = subst (λ n. rest < 10 ^ n) back below

  pub digit-within : length after < 20
  digit-within = let some = room_in_front (20 - length after) rest many below_more in omega (arith, some)

  pub digit-below : rest / 10 < 10 ^ (20 - length after)
  digit-below = below_front (20 - length after) rest below_more

  pub digit-split : (all : List ℕ) → decimal_in (20 - length text) rest ++ text ≡ all → after ≡ (48 + rest % 10) ∷ text → decimal_in (20 - length after) (rest / 10) ++ after ≡ all
  digit-split all split put =
      let left = 20 - length after in
      let e : left + 1 ≡ suc left = omega arith in
      ap (λ l. decimal_in left (rest / 10) ++ l) put
      ∙ sym (append_assoc (decimal_in left (rest / 10)) ((48 + rest % 10) ∷ []) text)
      ∙ ap (λ l. l ++ text) (sym (decimal_in-more left rest many))
      ∙ ap (λ n. decimal_in n rest ++ text) (sym (back ∙ e))
      ∙ split

-- what was put to a new sheet that grows
pub grown : (start made after : List ℕ) → after ≡ start ++ made → start ≡ 0 ∷ [] → after ≡ 0 ∷ made
grown start made after put new = put ∙ ap (λ (l : List ℕ). l ++ made) new
