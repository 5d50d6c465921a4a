-- The versions of kept edits rise; and what was kept behind a version brings back the cards of that version, whatever edits come later.
use Rattle.std.proofs.{Common.{◌≡◌, ℕ, zero, suc, ◌+◌, ◌≤◌, ◌<◌, Bool, true, false, cond, nat_le, nat_lt, List, [], ◌∷◌, ◌++◌, length, take, drop, None, refl, sym, ap, ◌∙◌, arith}, lemmas.Bool.{ltb-true, lt-ltb, false_from_ne_true}, lemmas.List.Sums.fold-append}
use Rattle.desk_core.{specs.Joins.Language.Card, specs.Joins.Edits.{Edit, edited, edited_by, first_fault}, specs.Past.{Past, KeptEdit, kept_edits, with_edits, most_kept, last_version, without_oldest, trimmed, past_after, behind, backs_of}, proofs.PastLaws.{led-kept, led-brings}, proofs.UndoTakesBack.backs-append}

-- each edit is of the version of the one before it or a later one, the first of this version or a later one, the last of that version or an earlier one
abbrev pub Rise : ℕ → ℕ → List KeptEdit → Type 0
Rise low high [] = low ≤ high
Rise low high (one ∷ later) = (low ≤ one.version) × Rise one.version high later

rise-bounds : (low high : ℕ) (kept : List KeptEdit) → Rise low high kept → low ≤ high
rise-bounds low high [] rise = rise
rise-bounds low high (one ∷ later) rise =
    let first = rise.0 in
    let rest = rise-bounds one.version high later rise.1 in
    omega (arith, first, rest)

pub rise-later : (low high : ℕ) (kept : List KeptEdit) → Rise low high kept → Rise low (high + 1) kept
rise-later low high [] rise = omega (arith, rise)
rise-later low high (one ∷ later) rise = (rise.0, rise-later one.version high later rise.1)

rise-lower : (low middle high : ℕ) (kept : List KeptEdit) → low ≤ middle → Rise middle high kept → Rise low high kept
rise-lower low middle high [] less rise = omega (arith, less, rise)
rise-lower low middle high (one ∷ later) less rise = let first = rise.0 in (omega (arith, less, first), rise.1)

rise-append : (low middle high : ℕ) (kept more : List KeptEdit) → Rise low middle kept → Rise middle high more → Rise low high (kept ++ more)
rise-append low middle high [] more rise also = rise-lower low middle high more rise also
rise-append low middle high (one ∷ kept) more rise also = (rise.0, rise-append one.version middle high kept more rise.1 also)

rise-kept : (low version : ℕ) (by : List ℕ) (edits : List Edit) (cards : List Card) → low ≤ version → Rise low version (kept_edits version by edits cards)
rise-kept low version by [] cards less = less
rise-kept low version by (edit ∷ edits) cards less = (less, rise-kept version version by edits (edited cards edit) (omega arith))

rise-drop : (low high count : ℕ) (kept : List KeptEdit) → Rise low high kept → Rise (last_version low (take count kept)) high (drop count kept)
rise-drop low high zero kept rise = rise
rise-drop low high (suc count) [] rise = rise
rise-drop low high (suc count) (one ∷ later) rise = rise-drop one.version high count later rise.1

rise-last : (low high count : ℕ) (kept : List KeptEdit) → Rise low high kept → low ≤ last_version low (take count kept)
rise-last low high zero kept rise = omega arith
rise-last low high (suc count) [] rise = omega arith
rise-last low high (suc count) (one ∷ later) rise =
    let first = rise.0 in
    let rest = rise-last one.version high count later rise.1 in
    omega (arith, first, rest)

-- an edit that is not of a later version does not stand behind it
early-behind : (version : ℕ) (one : KeptEdit) (later : List KeptEdit) → one.version ≤ version → behind version (one ∷ later) ≡ behind version later
early-behind version one later early =
    let no : nat_lt version one.version ≡ false = false_from_ne_true (nat_lt version one.version) (λ is. let less = ltb-true version one.version is in absurd (omega (arith, early, less))) in
    ap (λ (b : Bool). cond b (one ∷ later) (behind version later)) no

-- nothing is behind a version where no edit is of a later one
pub none-behind : (version low high : ℕ) (kept : List KeptEdit) → Rise low high kept → high ≤ version → behind version kept ≡ []
none-behind version low high [] rise all = refl
none-behind version low high (one ∷ later) rise all =
    let bounds = rise-bounds one.version high later rise.1 in
    early-behind version one later (omega (arith, bounds, all)) ∙ none-behind version one.version high later rise.1 all

-- behind a version stand edits of a later one
new-behind : (version next : ℕ) (by : List ℕ) (edits : List Edit) (before : List Card) → version < next → behind version (kept_edits next by edits before) ≡ kept_edits next by edits before
new-behind version next by [] before less = refl
new-behind version next by (edit ∷ edits) before less =
    ap (λ (b : Bool). cond b (kept_edits next by (edit ∷ edits) before) (behind version (kept_edits next by edits (edited before edit)))) (lt-ltb version next less)

append-head : (late : Bool) (one : KeptEdit) (old new rest both : List KeptEdit) → both ≡ rest ++ new → cond late (one ∷ old ++ new) both ≡ cond late (one ∷ old) rest ++ new
append-head true one old new rest both e = refl
append-head false one old new rest both e = e

-- and so do those that come behind others
behind-append : (version : ℕ) (old new : List KeptEdit) → behind version new ≡ new → behind version (old ++ new) ≡ behind version old ++ new
behind-append version [] new all = all
behind-append version (one ∷ old) new all = append-head (nat_lt version one.version) one old new (behind version old) (behind version (old ++ new)) (behind-append version old new all)

-- those behind a version are the same without older ones
behind-drop : (version low high count : ℕ) (kept : List KeptEdit) → Rise low high kept → last_version low (take count kept) ≤ version → behind version (drop count kept) ≡ behind version kept
behind-drop version low high zero kept rise late = refl
behind-drop version low high (suc count) [] rise late = refl
behind-drop version low high (suc count) (one ∷ later) rise late =
    let last = rise-last one.version high count later rise.1 in
    behind-drop version one.version high count later rise.1 late ∙ sym (early-behind version one later (omega (arith, last, late)))

module _ (high : ℕ) (past : Past) (rise : Rise past.since high past.edits) where
  either-rises : (all : Bool) (count : ℕ) → Rise (cond all past (without_oldest count past)).since high (cond all past (without_oldest count past)).edits
  either-rises true count = rise
  either-rises false count = rise-drop past.since high count past.edits rise

  rise-trimmed : Rise (trimmed past).since high (trimmed past).edits
  rise-trimmed = either-rises (nat_le (length past.edits) most_kept) _

  either-since : (all : Bool) (count : ℕ) → past.since ≤ (cond all past (without_oldest count past)).since
  either-since true count = omega arith
  either-since false count = rise-last past.since high count past.edits rise

  since-trimmed : past.since ≤ (trimmed past).since
  since-trimmed = either-since (nat_le (length past.edits) most_kept) _

  either-behind : (version : ℕ) (all : Bool) (count : ℕ) → (cond all past (without_oldest count past)).since ≤ version → behind version (cond all past (without_oldest count past)).edits ≡ behind version past.edits
  either-behind version true count late = refl
  either-behind version false count late = behind-drop version past.since high count past.edits rise late

  behind-trimmed : (version : ℕ) → (trimmed past).since ≤ version → behind version (trimmed past).edits ≡ behind version past.edits
  behind-trimmed version late = either-behind version (nat_le (length past.edits) most_kept) _ late

-- edits of the next version
module _ (version : ℕ) (by : List ℕ) (edits : List Edit) (cards : List Card) (past : Past) (rise : Rise past.since version past.edits) where
  abbrev new : List KeptEdit
  new = kept_edits (version + 1) by edits cards

  abbrev whole : Past
  whole = with_edits new past

  rise-whole : Rise past.since (version + 1) (past.edits ++ new)
  rise-whole = rise-append past.since version (version + 1) past.edits new rise (rise-kept version (version + 1) by edits cards (omega arith))

  pub rise-after : Rise (past_after (version + 1) by edits cards past).since (version + 1) (past_after (version + 1) by edits cards past).edits
  rise-after = rise-trimmed (version + 1) whole rise-whole

  pub since-after : past.since ≤ (past_after (version + 1) by edits cards past).since
  since-after = since-trimmed (version + 1) whole rise-whole

  -- the cards at an earlier version, as far as it is kept, are those that they were
  pub cards-after : (at_version : ℕ) → first_fault edits cards ≡ None → at_version ≤ version → (past_after (version + 1) by edits cards past).since ≤ at_version →
      edited_by (backs_of (behind at_version (past_after (version + 1) by edits cards past).edits)) (edited_by edits cards) ≡ edited_by (backs_of (behind at_version past.edits)) cards
  cards-after at_version none early kept =
      let now : List Card = edited_by edits cards in
      let stands : behind at_version (past_after (version + 1) by edits cards past).edits ≡ behind at_version past.edits ++ new =
      behind-trimmed (version + 1) whole rise-whole at_version kept
      ∙ behind-append at_version past.edits new (new-behind at_version (version + 1) by edits cards (omega (arith, early))) in
      ap (λ (k : List KeptEdit). edited_by (backs_of k) now) stands
      ∙ (ap (λ (es : List Edit). edited_by es now) (backs-append (behind at_version past.edits) new)
      ∙ (fold-append edited now (backs_of new) (backs_of (behind at_version past.edits))
      ∙ ap (λ (cs : List Card). edited_by (backs_of (behind at_version past.edits)) cs) (led-brings cards new now (led-kept (version + 1) by edits cards none))))
