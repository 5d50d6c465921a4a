-- The changes of edits that are kept, change by change.
use Rattle.std.{proofs.Common.{ℕ, suc, ◌≡◌, ◌+◌, ◌<◌, ◌==◌, Bool, true, false, List, [], ◌∷◌, ◌++◌, length, take, drop, refl, sym, ap, ◌∙◌, arith, length-append, if◌then◌else◌}, specs.Prelude.{cond, flat_map, map}, proofs.lemmas.Bool.{eqb-true, false≢true}, proofs.lemmas.Grind.flat_map-append, proofs.lemmas.List.length-map}
use Rattle.desk_core.specs.declared.past.KeptEdit.{KeptEdit}
use Rattle.session_line.specs.{ChangeLines.{ShownChange, change_with, onto_change, changes_of, change_line, lines_of_change, change_lines}, Joins.ChangeWalks.{run_len, first_len, lines_of_one, edits_text}, Replies.{line_of, text_of_lines}}
use Rattle.session_commands.specs.Lines.{line_in_batch}

-- changes that begin with so many edits behind a first one
abbrev split_at : ℕ → KeptEdit → List KeptEdit → List ShownChange
split_at n one later = change_with one (map (λ (kept : KeptEdit). kept.edit) (take n later)) ∷ changes_of (drop n later)

-- one edit more in front
onto-step : (b : Bool) (one next : KeptEdit) (later : List KeptEdit) → (next.version == one.version) ≡ b →
    changes_of (next ∷ later) ≡ split_at (run_len next.version later) next later →
    changes_of (one ∷ next ∷ later) ≡ split_at (cond b (1 + run_len one.version later) 0) one (next ∷ later)
onto-step true one next later same is =
    let version : next.version ≡ one.version = eqb-true next.version one.version same in
    let more : suc (run_len one.version later) ≡ 1 + run_len one.version later = omega arith in
    ap (onto_change one) is
    ∙ ap (λ (t : Bool). if t then change_with one (next.edit ∷ map (λ (kept : KeptEdit). kept.edit) (take (run_len next.version later) later)) ∷ changes_of (drop (run_len next.version later) later)
    else change_with one [] ∷ split_at (run_len next.version later) next later) same
    ∙ ap (λ (v : ℕ). split_at (suc (run_len v later)) one (next ∷ later)) version
    ∙ ap (λ (n : ℕ). split_at n one (next ∷ later)) more
onto-step false one next later other is =
    ap (onto_change one) is
    ∙ ap (λ (t : Bool). if t then change_with one (next.edit ∷ map (λ (kept : KeptEdit). kept.edit) (take (run_len next.version later) later)) ∷ changes_of (drop (run_len next.version later) later)
    else change_with one [] ∷ split_at (run_len next.version later) next later) other
    ∙ ap (λ (changes : List ShownChange). change_with one [] ∷ changes) (sym is)

-- the first change, and those behind it
changes-first : (one : KeptEdit) (later : List KeptEdit) → changes_of (one ∷ later) ≡ split_at (run_len one.version later) one later
changes-first one [] = refl
changes-first one (next ∷ later) = onto-step (next.version == one.version) one next later refl (changes-first next later)

-- their lines
pub lines-first : (kept own behind : List KeptEdit) → own ≡ take (first_len kept) kept → behind ≡ drop (first_len kept) kept → change_lines kept ≡ lines_of_one own ++ change_lines behind
lines-first [] own behind first rest = sym (ap (λ (l : List KeptEdit). lines_of_one l ++ change_lines behind) first ∙ ap change_lines rest)
lines-first (one ∷ later) own behind first rest =
    let n = run_len one.version later in
    ap (λ (changes : List ShownChange). flat_map lines_of_change changes) (changes-first one later)
    ∙ sym (ap (λ (l : List KeptEdit). lines_of_one l ++ change_lines behind) first ∙ ap (λ (l : List KeptEdit). lines_of_one (one ∷ take n later) ++ change_lines l) rest)

-- and their bytes
pub text-first : (kept own behind : List KeptEdit) → own ≡ take (first_len kept) kept → behind ≡ drop (first_len kept) kept →
    text_of_lines (change_lines kept) ≡ text_of_lines (lines_of_one own) ++ text_of_lines (change_lines behind)
text-first kept own behind first rest = ap text_of_lines (lines-first kept own behind first rest) ∙ flat_map-append line_of (lines_of_one own) (change_lines behind)

-- how many lines the edits of one change have
one-count : (one : KeptEdit) (later : List KeptEdit) → length (lines_of_one (one ∷ later)) ≡ 1 + length (one ∷ later)
one-count one later =
    let edits = map (λ (kept : KeptEdit). kept.edit) later in
    let inner : length edits ≡ length later = length-map later (λ (kept : KeptEdit). kept.edit) in
    let outer : length (map line_in_batch edits) ≡ length edits = length-map edits line_in_batch in
    omega (arith, inner, outer)

-- of edits of which some are left
some-first : (kept own : List KeptEdit) → 0 < length kept → own ≡ take (first_len kept) kept → length (lines_of_one own) ≡ 1 + length own
some-first [] own some first = absurd (omega (arith, some))
some-first (one ∷ later) own some first =
    let n = run_len one.version later in
    ap (λ (l : List KeptEdit). length (lines_of_one l)) first ∙ one-count one (take n later) ∙ sym (ap (λ (l : List KeptEdit). 1 + length l) first)

pub some-left : (kept : List KeptEdit) (none : Bool) → none ≡ (length kept == 0) → none ≡ false → 0 < length kept
some-left [] none is h = absurd (false≢true (sym h ∙ is))
some-left (one ∷ later) none is h = omega arith

pub own-some : (kept own : List KeptEdit) → 0 < length kept → own ≡ take (first_len kept) kept → 0 < length own
own-some [] own some first = absurd (omega (arith, some))
own-some (one ∷ later) own some first = let size = ap length first in omega (arith, size)

-- how many lines there are
pub count-first : (kept own behind : List KeptEdit) → 0 < length kept → own ≡ take (first_len kept) kept → behind ≡ drop (first_len kept) kept →
    length (change_lines kept) ≡ 1 + length own + length (change_lines behind)
count-first kept own behind some first rest =
    let all = ap length (lines-first kept own behind first rest) ∙ length-append (lines_of_one own) (change_lines behind) in
    let lines = some-first kept own some first in
    omega (arith, all, lines)

-- the bytes of the edits of one change
edits-text : (kept : List KeptEdit) → text_of_lines (map line_in_batch (map (λ (one : KeptEdit). one.edit) kept)) ≡ edits_text kept
edits-text [] = refl
edits-text (one ∷ later) = ap (λ (l : List ℕ). line_of (line_in_batch one.edit) ++ l) (edits-text later)

pub one-text : (one : KeptEdit) (later : List KeptEdit) (count : ℕ) → count ≡ length (one ∷ later) → text_of_lines (lines_of_one (one ∷ later)) ≡ line_of (change_line one.version one.by count) ++ edits_text (one ∷ later)
one-text one later count is =
    let edits = map (λ (kept : KeptEdit). kept.edit) (one ∷ later) in
    let size : length edits ≡ count = length-map (one ∷ later) (λ (kept : KeptEdit). kept.edit) ∙ sym is in
    ap (λ (n : ℕ). line_of (change_line one.version one.by n) ++ text_of_lines (map line_in_batch edits)) size
    ∙ ap (λ (l : List ℕ). line_of (change_line one.version one.by count) ++ l) (edits-text (one ∷ later))

pub own-text : (own : List KeptEdit) (one : KeptEdit) (later : List KeptEdit) → own ≡ one ∷ later → text_of_lines (lines_of_one own) ≡ line_of (change_line one.version one.by (length own)) ++ edits_text own
own-text own one later is =
    ap (λ (l : List KeptEdit). text_of_lines (lines_of_one l)) is ∙ one-text one later (length (one ∷ later)) refl ∙ sym (ap (λ (l : List KeptEdit). line_of (change_line one.version one.by (length l)) ++ edits_text l) is)
