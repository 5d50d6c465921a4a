-- Edits that take back, made one by one from the last.
use Rattle.std.proofs.{Common.{◌≡◌, ℕ, ◌+◌, ◌-◌, ◌<◌, List, [], ◌∷◌, ◌++◌, length, take, drop, get_or, None, refl, sym, ap, ◌∙◌, arith, append_assoc, append-nil}, lemmas.List.{at_drop_more, take-append-drop}, lemmas.List.Sums.fold-append}
use Rattle.cards.{specs.Counts.{fault_at, count_after}, proofs.FaultLaws.{fault-of-count, edited-length}}
use Rattle.desk_core.{specs.Joins.Language.Card, specs.Joins.Edits.{Edit, fault_of, edited, edited_by, first_fault}, specs.declared.past.Back.Back, specs.Joins.Stored.backs_from, proofs.CardCounts.first-applies, proofs.PastLaws.fault-later}

backs-append : (a b : List Back) → backs_from (a ++ b) ≡ backs_from b ++ backs_from a
backs-append [] b = sym (append-nil (backs_from b))
backs-append (x ∷ a) b = ap (λ (edits : List Edit). edits ++ x.edit ∷ []) (backs-append a b) ∙ append_assoc (backs_from b) (backs_from a) (x.edit ∷ [])

none-split : (x y : List Edit) (cards : List Card) → first_fault (x ++ y) cards ≡ None → (first_fault x cards ≡ None) × (first_fault y (edited_by x cards) ≡ None)
none-split [] y cards none = (refl, none)
none-split (edit ∷ x) y cards none =
    let both = first-applies (fault_of edit cards) (first_fault (x ++ y) (edited cards edit)) none in
    let rest = none-split x y (edited cards edit) both.1 in
    (fault-later (fault_of edit cards) (first_fault x (edited cards edit)) both.0 rest.0, rest.1)

-- one more is taken back
module _ (backs : List Back) (cards : List Card) (gone : ℕ) (one : Back) (within : gone < length backs) (is : one ≡ get_or backs (length backs - 1 - gone) one) (none : first_fault (backs_from backs) cards ≡ None) where
  abbrev now : List Edit
  now = backs_from (drop (length backs - gone) backs)

  next : backs_from (drop (length backs - (gone + 1)) backs) ≡ now ++ one.edit ∷ []
  next =
      let place : length backs - (gone + 1) ≡ length backs - 1 - gone = omega (arith, within) in
      let after : length backs - 1 - gone + 1 ≡ length backs - gone = omega (arith, within) in
      ap (λ (n : ℕ). backs_from (drop n backs)) place
      ∙ (at_drop_more (λ (b : List Back). backs_from b) backs (length backs - 1 - gone) one (omega (arith, within))
      ∙ (ap (λ (b : Back). backs_from (drop (length backs - 1 - gone + 1) backs) ++ b.edit ∷ []) (sym is)
      ∙ ap (λ (n : ℕ). backs_from (drop n backs) ++ one.edit ∷ []) after))

  pub applies : fault_of one.edit (edited_by now cards) ≡ None
  applies =
      let k = length backs - (gone + 1) in
      let parts : backs_from backs ≡ (now ++ one.edit ∷ []) ++ backs_from (take k backs) =
      sym (ap (λ (b : List Back). backs_from b) (take-append-drop k backs)) ∙ (backs-append (take k backs) (drop k backs) ∙ ap (λ (edits : List Edit). edits ++ backs_from (take k backs)) next) in
      let first = none-split (now ++ one.edit ∷ []) (backs_from (take k backs)) cards (sym (ap (λ (edits : List Edit). first_fault edits cards) parts) ∙ none) in
      let last = none-split now (one.edit ∷ []) cards first.0 in
      (first-applies (fault_of one.edit (edited_by now cards)) (first_fault [] (edited (edited_by now cards) one.edit)) last.1).0

  pub has-room : (count : ℕ) → count ≡ length (edited_by now cards) → fault_at one.edit count ≡ None
  has-room count same = ap (λ (n : ℕ). fault_at one.edit n) same ∙ (sym (fault-of-count one.edit (edited_by now cards)) ∙ applies)

  pub counted : (count : ℕ) → count ≡ length (edited_by now cards) → count_after one.edit count ≡ length (edited_by (backs_from (drop (length backs - (gone + 1)) backs)) cards)
  counted count same =
      ap (λ (n : ℕ). count_after one.edit n) same
      ∙ (sym (edited-length one.edit (edited_by now cards) applies)
      ∙ sym (ap (λ (edits : List Edit). length (edited_by edits cards)) next ∙ ap (λ (cs : List Card). length cs) (fold-append edited cards now (one.edit ∷ []))))
