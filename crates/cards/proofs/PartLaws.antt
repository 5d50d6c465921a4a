-- The parts of a text that its fields are.
use Rattle.std.{proofs.Common.{ℕ, suc, ◌≡◌, ◌+◌, ◌-◌, ◌<◌, ◌≤◌, inl, inr, List, [], ◌∷◌, Bool, cond, ◌==◌, if◌then◌else◌, length, drop, refl, sym, ◌∙◌, ap, subst, true, arith, lt-ltb, le-ltb, drop-drop, Decides}, specs.List.prefix_len, proofs.lemmas.List.{length-drop, drop_all}, proofs.lemmas.Bool.Decides.eqb_tells}
use Rattle.definitions.{specs.Characters.{blank, same_text}, specs.Fields.without_blanks, proofs.TextLaws.{same_text-true, same_text-refl}}
use Rattle.cards.specs.Joins.FieldParts.{in_time}

-- what the test of two texts shows
pub same_text-Decides : (a b : List ℕ) → Decides (same_text a b) (a ≡ b)
same_text-Decides a b = (same_text-true a b, λ e. subst (λ t. same_text a t ≡ true) e (same_text-refl a))

-- blanks are passed over by their number
pub without_blanks-drop : (text : List ℕ) → without_blanks text ≡ drop (prefix_len (λ c. c == blank) text) text
without_blanks-drop [] = refl
without_blanks-drop (c ∷ cs) =
    elim (eqb_tells c blank) [
      | inl h ↦
          let e : 1 + prefix_len (λ d. d == blank) cs ≡ suc (prefix_len (λ d. d == blank) cs) = omega arith in
          ap (λ (t : Bool). if t then without_blanks cs else c ∷ cs) h.0
          ∙ without_blanks-drop cs
          ∙ ap (λ (n : ℕ). drop n (c ∷ cs)) (sym e)
          ∙ ap (λ (t : Bool). drop (cond t (1 + prefix_len (λ d. d == blank) cs) 0) (c ∷ cs)) (sym h.0)
      | inr h ↦
          ap (λ (t : Bool). if t then without_blanks cs else c ∷ cs) h.0
          ∙ ap (λ (t : Bool). drop (cond t (1 + prefix_len (λ d. d == blank) cs) 0) (c ∷ cs)) (sym h.0)
    ]

-- what begins behind the blanks
pub behind_blanks : (text : List ℕ) (end count : ℕ) → count ≡ prefix_len (λ c. c == blank) (drop end text) →
    without_blanks (drop end text) ≡ drop (end + count) text
behind_blanks text end count e =
    without_blanks-drop (drop end text) ∙ ap (λ (n : ℕ). drop n (drop end text)) (sym e) ∙ drop-drop count end text

-- a field that begins in time
pub in_time-early : (text : List ℕ) (start : ℕ) (rest : List ℕ) → start ≤ length text → start < 29 → rest ≡ drop start text →
    drop start text ≡ in_time text rest
in_time-early text start rest h k e =
    let early : length text - length rest < 29 = omega (arith, ap length e, length-drop start text) in
    sym e ∙ ap (λ (t : Bool). if t then rest else []) (sym (lt-ltb (length text - length rest) 29 early))

-- and one that does not
pub in_time-late : (text : List ℕ) (start : ℕ) (rest : List ℕ) → start ≤ length text → 29 ≤ start → rest ≡ drop start text →
    drop (length text) text ≡ in_time text rest
in_time-late text start rest h k e =
    let all : length text ≤ length text = omega arith in
    let late : 29 ≤ length text - length rest = omega (arith, ap length e, length-drop start text) in
    drop_all (length text) text all ∙ ap (λ (t : Bool). if t then rest else []) (sym (le-ltb (length text - length rest) 29 late))
