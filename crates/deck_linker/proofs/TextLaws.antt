-- Texts that are written piece by piece.
use Rattle.std.{proofs.Common.{◌≡◌, List, ◌++◌, refl, ◌∙◌, append_assoc}, specs.Prelude.{Result, Ok, Err, OnOk}}

-- what is so when a call succeeds, seen otherwise
pub on_ok_along : {T E X : Type 0} (result : Result T E) (a b c : X) → b ≡ c → OnOk result (a ≡ b) → OnOk result (a ≡ c)
on_ok_along (Ok x) a b c e h = h ∙ e
on_ok_along (Err x) a b c e h = tt

module _ {X : Type 0} where
  -- two pieces, and a line that goes on
  pub two-pieces : (t u v a b p e : List X) → u ≡ t ++ a → v ≡ u ++ b → v ++ (p ++ e) ≡ t ++ ((a ++ (b ++ p)) ++ e)
  two-pieces t u v a b p e h k = rw (k, h) (simp append_assoc refl)

  -- two pieces and the end of the line
  pub two-ended : (t u v a b e : List X) → u ≡ t ++ a → v ≡ u ++ b → v ++ e ≡ t ++ ((a ++ b) ++ e)
  two-ended t u v a b e h k = rw (k, h) (simp append_assoc refl)

  -- four pieces, and a line that goes on
  pub four-pieces : (t u v w x a b c d p e : List X) → u ≡ t ++ a → v ≡ u ++ b → w ≡ v ++ c → x ≡ w ++ d → x ++ (p ++ e) ≡ t ++ ((a ++ (b ++ (c ++ (d ++ p)))) ++ e)
  four-pieces t u v w x a b c d p e h k l m = rw (m, l, k, h) (simp append_assoc refl)

  -- four pieces and the end of the line
  pub four-ended : (t u v w x a b c d e : List X) → u ≡ t ++ a → v ≡ u ++ b → w ≡ v ++ c → x ≡ w ++ d → x ++ e ≡ t ++ ((a ++ (b ++ (c ++ d))) ++ e)
  four-ended t u v w x a b c d e h k l m = rw (m, l, k, h) (simp append_assoc refl)
