-- Texts that are appended one behind the other.
use Rattle.std.proofs.Common.{◌≡◌, List, ℕ, ◌++◌, ap, ◌∙◌, append_assoc}

-- one text more
more : (a t u x y : List ℕ) → u ≡ t ++ y → t ≡ a ++ x → u ≡ a ++ (x ++ y)
more a t u x y e f = e ∙ ap (λ l. l ++ y) f ∙ append_assoc a x y

-- five texts, of which the last ends a line
pub five : (t0 t1 t2 t3 t4 t5 a b c d e : List ℕ) → t1 ≡ t0 ++ a → t2 ≡ t1 ++ b → t3 ≡ t2 ++ c → t4 ≡ t3 ++ d → t5 ≡ t4 ++ e →
    t5 ≡ t0 ++ ((a ++ (b ++ (c ++ d))) ++ e)
five t0 t1 t2 t3 t4 t5 a b c d e e1 e2 e3 e4 e5 =
    more t0 t4 t5 (a ++ (b ++ (c ++ d))) e e5
    (more t0 t3 t4 ((a ++ b) ++ c) d e4 (more t0 t2 t3 (a ++ b) c e3 (more t0 t1 t2 a b e2 e1))
    ∙ ap (λ l. t0 ++ l) (append_assoc (a ++ b) c d ∙ append_assoc a b (c ++ d)))

regroup : (a b c d e f : List ℕ) → ((((a ++ b) ++ c) ++ d) ++ e) ++ f ≡ a ++ (b ++ (c ++ (d ++ (e ++ f))))
regroup a b c d e f = simp append_assoc

-- seven texts, of which the last ends a line
pub seven : (t0 t1 t2 t3 t4 t5 t6 t7 a b c d e f g : List ℕ) →
    t1 ≡ t0 ++ a → t2 ≡ t1 ++ b → t3 ≡ t2 ++ c → t4 ≡ t3 ++ d → t5 ≡ t4 ++ e → t6 ≡ t5 ++ f → t7 ≡ t6 ++ g →
    t7 ≡ t0 ++ ((a ++ (b ++ (c ++ (d ++ (e ++ f))))) ++ g)
seven t0 t1 t2 t3 t4 t5 t6 t7 a b c d e f g e1 e2 e3 e4 e5 e6 e7 =
    more t0 t6 t7 (a ++ (b ++ (c ++ (d ++ (e ++ f))))) g e7
    (more t0 t5 t6 ((((a ++ b) ++ c) ++ d) ++ e) f e6
    (more t0 t4 t5 (((a ++ b) ++ c) ++ d) e e5 (more t0 t3 t4 ((a ++ b) ++ c) d e4 (more t0 t2 t3 (a ++ b) c e3 (more t0 t1 t2 a b e2 e1))))
    ∙ ap (λ l. t0 ++ l) (regroup a b c d e f))
