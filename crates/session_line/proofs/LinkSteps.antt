-- The lines of a map, line by line.
use Rattle.std.{proofs.Common.{ℕ, suc, ◌≡◌, ◌+◌, ◌-◌, ◌<◌, ◌≤◌, ◌==◌, Bool, true, false, List, [], ◌∷◌, ◌++◌, length, take, drop, refl, sym, ap, ◌∙◌, arith, length-take, if◌then◌else◌}, specs.Prelude.{filter, cond}, proofs.lemmas.Bool.false≢true, proofs.lemmas.List.length-drop}
use Rattle.definitions.specs.Characters.{line_feed}
use Rattle.session_line.specs.{Errors.{map_lines, onto_line, shows_line}, Joins.FlagWalks.{line_len, shown_text}, Replies.{line_of, text_of_lines}}
use Rattle.session_commands.specs.declared.views.ErrorsView.{ErrorsView}

-- the first line of a text with a character more in front
abbrev split_at : ℕ → List ℕ → List (List ℕ)
split_at n text = take n text ∷ map_lines (drop (suc n) text)

first-step : (b : Bool) (c : ℕ) (cs : List ℕ) → (c == line_feed) ≡ b → onto_line c (map_lines cs) ≡ split_at (suc (line_len cs)) (c ∷ cs) →
    map_lines (c ∷ cs) ≡ split_at (line_len (c ∷ cs)) (c ∷ cs)
first-step b c cs e onto =
    ap (λ (t : Bool). if t then [] ∷ map_lines cs else onto_line c (map_lines cs)) e
    ∙ by_case b onto
    ∙ sym (ap (λ (t : Bool). split_at (if t then 0 else suc (line_len cs)) (c ∷ cs)) e)
  where
    by_case : (b : Bool) → onto_line c (map_lines cs) ≡ split_at (suc (line_len cs)) (c ∷ cs) →
        (if b then [] ∷ map_lines cs else onto_line c (map_lines cs)) ≡ split_at (if b then 0 else suc (line_len cs)) (c ∷ cs)
    by_case true h = refl
    by_case false h = h

line-first : (c : ℕ) (cs : List ℕ) → map_lines (c ∷ cs) ≡ split_at (line_len (c ∷ cs)) (c ∷ cs)
line-first c [] = first-step (c == line_feed) c [] refl refl
line-first c (d ∷ ds) = first-step (c == line_feed) c (d ∷ ds) refl (ap (onto_line c) (line-first d ds))

-- a text that is not empty: its first line, and those behind it
pub lines-next : (text : List ℕ) (n : ℕ) (line behind : List ℕ) → 0 < length text → n ≡ line_len text → line ≡ take n text → behind ≡ drop (n + 1) text → map_lines text ≡ line ∷ map_lines behind
lines-next [] n line behind some len first rest = absurd (omega (arith, some))
lines-next (c ∷ cs) n line behind some len first rest =
    let next : suc (line_len (c ∷ cs)) ≡ n + 1 = omega (arith, len) in
    line-first c cs
    ∙ ap (λ (m : ℕ). take (line_len (c ∷ cs)) (c ∷ cs) ∷ map_lines (drop m (c ∷ cs))) next
    ∙ ap (λ (m : ℕ). take m (c ∷ cs) ∷ map_lines (drop (n + 1) (c ∷ cs))) (sym len)
    ∙ ap (λ (l : List ℕ). l ∷ map_lines (drop (n + 1) (c ∷ cs))) (sym first)
    ∙ ap (λ (l : List ℕ). line ∷ map_lines l) (sym rest)

-- a text of which something is left
pub some-left : (text : List ℕ) (none : Bool) → none ≡ (length text == 0) → none ≡ false → 0 < length text
some-left [] none is h = absurd (false≢true (sym h ∙ is))
some-left (c ∷ cs) none is h = omega arith

-- how long the first line and what is behind it are
pub behind-shorter : (text behind : List ℕ) → behind ≡ drop (line_len text + 1) text → 0 < length text → length behind + 1 ≤ length text
behind-shorter text behind is some =
    let rest : length behind ≡ length text - (line_len text + 1) = ap length is ∙ length-drop (line_len text + 1) text in
    omega (arith, rest, some)

pub both-lengths : (text line behind : List ℕ) → line ≡ take (line_len text) text → behind ≡ drop (line_len text + 1) text → 0 < length behind → length line + 1 + length behind ≤ length text
both-lengths text line behind first is some =
    let rest : length behind ≡ length text - (line_len text + 1) = ap length is ∙ length-drop (line_len text + 1) text in
    let front : length line ≡ length (take (line_len text) text) = ap length first in
    let least = length-take (line_len text) text in
    omega (arith, rest, front, least, some)

-- those that are shown: the first line where it is, and those behind it
abbrev pub shown_in : ErrorsView → List ℕ → List (List ℕ)
shown_in view text = filter (shows_line view) (map_lines text)

one-more : (b : Bool) (line : List ℕ) (lines : List (List ℕ)) → length (if b then line ∷ lines else lines) ≡ cond b 1 0 + length lines
one-more true line lines = omega arith
one-more false line lines = omega arith

pub count-line : (view : ErrorsView) (text line behind : List ℕ) → map_lines text ≡ line ∷ map_lines behind →
    length (shown_in view text) ≡ cond (shows_line view line) 1 0 + length (shown_in view behind)
count-line view text line behind is =
    ap (λ (lines : List (List ℕ)). length (filter (shows_line view) lines)) is ∙ one-more (shows_line view line) line (shown_in view behind)

text-more : (b : Bool) (line : List ℕ) (lines : List (List ℕ)) → text_of_lines (if b then line ∷ lines else lines) ≡ (if b then line_of line else []) ++ text_of_lines lines
text-more true line lines = refl
text-more false line lines = refl

pub text-line : (view : ErrorsView) (text line behind : List ℕ) → map_lines text ≡ line ∷ map_lines behind →
    text_of_lines (shown_in view text) ≡ shown_text view line ++ text_of_lines (shown_in view behind)
text-line view text line behind is =
    ap (λ (lines : List (List ℕ)). text_of_lines (filter (shows_line view) lines)) is ∙ text-more (shows_line view line) line (shown_in view behind)
