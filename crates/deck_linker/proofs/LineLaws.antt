-- Texts with lines, where more than one part of the lines is written.
use Rattle.std.{proofs.Common.{◌≡◌, ℕ, ◌+◌, ◌<◌, drop, get_or, List, [], ◌∷◌, ◌++◌, length, refl, sym, ap, ◌∙◌, arith, append-nil, append_assoc}, specs.Prelude.flat_map, proofs.lemmas.List.at_drop_more}
use Rattle.deck_linker.specs.Joins.Lines.{Written, with_line, with_lines}

-- lines behind lines
pub lines_joined : (written : Written) (xs ys : List (List ℕ)) → with_lines written (xs ++ ys) ≡ with_lines (with_lines written xs) ys
lines_joined written [] ys = refl
lines_joined written (x ∷ xs) ys = lines_joined (with_line written x) xs ys

-- the lines of one thing more are written
pub lines-step : {X : Type 0} (F : List X → List (List ℕ)) (one : X → List (List ℕ)) → ((x : X) (xs : List X) → F (x ∷ xs) ≡ one x ++ F xs) → (xs : List X) (i : ℕ) (x : X) → i < length xs → x ≡ get_or xs i x →
    (old new all : Written) → with_lines old (F (drop i xs)) ≡ all → new ≡ with_lines old (one x) → with_lines new (F (drop (i + 1) xs)) ≡ all
lines-step {X = X} F one first xs i x inside is old new all h e =
    let left = drop (i + 1) xs in
    ap (λ (w : Written). with_lines w (F left)) e
    ∙ sym (lines_joined old (one x) (F left))
    ∙ ap (with_lines old) (sym (at_drop_more F xs i x inside ∙ ap (λ (y : X). F (y ∷ left)) (sym is) ∙ first x left))
    ∙ h

-- the text with lines
pub with_lines-text : (written : Written) (lines : List (List ℕ)) → (with_lines written lines).text ≡ written.text ++ flat_map (λ text. text) lines
with_lines-text written [] = sym (append-nil written.text)
with_lines-text written (line ∷ lines) = with_lines-text (with_line written line) lines ∙ append_assoc written.text line (flat_map (λ text. text) lines)

-- how many lines it has
pub with_lines-count : (written : Written) (lines : List (List ℕ)) → (with_lines written lines).lines ≡ written.lines + length lines
with_lines-count written [] = omega arith
with_lines-count written (line ∷ lines) = let rest = with_lines-count (with_line written line) lines in omega arith

-- the text of one thing more is written
pub text-step : {X : Type 0} (F : List X → List ℕ) (one : X → List ℕ) → ((x : X) (xs : List X) → F (x ∷ xs) ≡ one x ++ F xs) → (xs : List X) (i : ℕ) (x : X) → i < length xs → x ≡ get_or xs i x →
    (old new all : List ℕ) → old ++ F (drop i xs) ≡ all → new ≡ old ++ one x → new ++ F (drop (i + 1) xs) ≡ all
text-step {X = X} F one first xs i x inside is old new all h e =
    let left = drop (i + 1) xs in
    ap (λ (t : List ℕ). t ++ F left) e
    ∙ append_assoc old (one x) (F left)
    ∙ ap (λ (t : List ℕ). old ++ t) (sym (at_drop_more F xs i x inside ∙ ap (λ (y : X). F (y ∷ left)) (sym is) ∙ first x left))
    ∙ h
