-- Records that are shown one before the other.
use Rattle.std.proofs.Common.{ℕ, ◌≡◌, ◌+◌, List, [], ◌∷◌, ◌++◌, length, Option, position, sym, ap, ap₂, ◌∙◌, arith}
use Rattle.journal.specs.{declared.queue.Unwritten.Unwritten, Queues.{Shown, is_at, shown_at, all_shown}}

-- the last is shown first
pub shown-last : (places : List (Option Unwritten)) (version : ℕ) (drafts : List (List ℕ)) (draft : List ℕ) (shown : List (Option Shown)) →
    all_shown places version (drafts ++ draft ∷ []) shown ≡ all_shown places version drafts (shown_at (position (is_at (version + length drafts)) places) (record { version = version + length drafts; draft = draft }) shown)
shown-last places version [] draft shown =
    let same : version ≡ version + 0 = omega arith in
    ap (λ (n : ℕ). shown_at (position (is_at n) places) (record { version = n; draft = draft }) shown) same
shown-last places version (first ∷ drafts) draft shown =
    let same : version + 1 + length drafts ≡ version + length (first ∷ drafts) = omega arith in
    ap (λ (all : List (Option Shown)). shown_at (position (is_at version) places) (record { version = version; draft = first }) all)
    (shown-last places (version + 1) drafts draft shown ∙ ap (λ (n : ℕ). all_shown places (version + 1) drafts (shown_at (position (is_at n) places) (record { version = n; draft = draft }) shown)) same)

-- one that was the last of those that are left is shown
pub shown-more : (places : List (Option Unwritten)) (from version : ℕ) (drafts fewer : List (List ℕ)) (draft : List ℕ) (place : Option ℕ) (one : Shown) (before after : List (Option Shown)) → version ≡ from + length fewer →
    drafts ≡ fewer ++ draft ∷ [] → place ≡ position (is_at version) places → one ≡ record { version = version; draft = draft } → after ≡ shown_at place one before → all_shown places from fewer after ≡ all_shown places from drafts before
shown-more places from version drafts fewer draft place one before after at_version is at_place is_one becomes =
    let made : Option ℕ → Shown → List (Option Shown) = λ (p : Option ℕ) (o : Shown). shown_at p o before in
    let shows : after ≡ made (position (is_at (from + length fewer)) places) (record { version = from + length fewer; draft = draft }) =
    becomes ∙ ap₂ made (at_place ∙ ap (λ (n : ℕ). position (is_at n) places) at_version) (is_one ∙ ap (λ (n : ℕ). record { version = n; draft = draft }) at_version) in
    ap (all_shown places from fewer) shows ∙ (sym (shown-last places from fewer draft before) ∙ ap (λ (ds : List (List ℕ)). all_shown places from ds before) (sym is))
