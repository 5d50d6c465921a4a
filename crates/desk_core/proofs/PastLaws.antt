-- Kept edits led to the cards of their deck: what takes them back applies there, and brings back the cards before them.
use Rattle.std.proofs.{Common.{◌≡◌, ℕ, zero, suc, ◌+◌, ◌≤◌, Bool, true, false, cond, List, [], ◌∷◌, ◌++◌, length, drop, nat_le, Option, Some, None, option_map, refl, sym, ap, ◌∙◌, subst}, lemmas.List.Sums.fold-append}
use Rattle.cards.proofs.FaultLaws.{edited-few}
use Rattle.desk_core.{specs.Joins.Language.Card, specs.Joins.Edits.{Edit, EditFault, fault_of, edited, edited_by, first_fault}, specs.Past.{Past, KeptEdit, with_edits, kept_edits, most_kept, without_oldest, trimmed, past_after, behind, backs_of}, specs.Led.{HaveLed, IsPastOf}, proofs.UndoLaws.{has-place, undo-made, undo-applies}, proofs.CardCounts.first-applies}

-- nothing led from cards to themselves
pub past-begun : (cards : List Card) → length cards ≤ 20000 → IsPastOf [] cards
past-begun cards few = record { before = cards; few = few; led = refl }

led-append : (before : List Card) (kept more : List KeptEdit) (mid now : List Card) → HaveLed before kept mid → HaveLed mid more now → HaveLed before (kept ++ more) now
led-append before [] more mid now led also = subst (λ (cards : List Card). HaveLed cards more now) (sym led) also
led-append before (one ∷ kept) more mid now led also = (led.0, led.1, led-append (edited before one.edit) kept more mid now led.2 also)

-- edits that apply led from the cards to what they make of them
pub led-kept : (version : ℕ) (by : List ℕ) (edits : List Edit) (cards : List Card) → first_fault edits cards ≡ None → HaveLed cards (kept_edits version by edits cards) (edited_by edits cards)
led-kept version by [] cards none = refl
led-kept version by (edit ∷ edits) cards none =
    let both = first-applies (fault_of edit cards) (first_fault edits (edited cards edit)) none in
    (both.0, refl, led-kept version by edits (edited cards edit) both.1)

-- the newest of them alone
pub past-newest : (count : ℕ) (kept : List KeptEdit) (cards : List Card) → IsPastOf kept cards → IsPastOf (drop count kept) cards
past-newest zero kept cards past = past
past-newest (suc count) [] cards past = past
past-newest (suc count) (one ∷ kept) cards past =
    past-newest count kept cards (record { before = edited past.before one.edit; few = edited-few one.edit past.before past.led.0 past.few; led = past.led.2 })

either-past : (b : Bool) (p q : Past) (cards : List Card) → IsPastOf p.edits cards → IsPastOf q.edits cards → IsPastOf (cond b p q).edits cards
either-past true p q cards x y = x
either-past false p q cards x y = y

past-trimmed : (past : Past) (cards : List Card) → IsPastOf past.edits cards → IsPastOf (trimmed past).edits cards
past-trimmed past cards is = either-past (nat_le (length past.edits) most_kept) past (without_oldest _ past) cards is (past-newest _ past.edits cards is)

-- edits more
pub past-more : (version : ℕ) (by : List ℕ) (edits : List Edit) (cards : List Card) (past : Past) → IsPastOf past.edits cards → first_fault edits cards ≡ None →
    IsPastOf (past_after version by edits cards past).edits (edited_by edits cards)
past-more version by edits cards past is none =
    past-trimmed (with_edits (kept_edits version by edits cards) past) (edited_by edits cards)
    (record { before = is.before; few = is.few; led = led-append is.before past.edits (kept_edits version by edits cards) cards (edited_by edits cards) is.led (led-kept version by edits cards none) })

-- edits of which each applies, behind others
pub fault-later : (found : Option EditFault) (more : Option (ℕ × EditFault)) → found ≡ None → more ≡ None →
    elim found as (λ x. Option (ℕ × EditFault)) [ Some fault ↦ Some (1, fault) | None ↦ option_map (λ (later : ℕ × EditFault). (later.0 + 1, later.1)) more ] ≡ None
fault-later None None a b = refl
fault-later None (Some f) a b = cc
fault-later (Some f) more a b = cc

-- one edit that applies
pub one-applies : (edit : Edit) (cards : List Card) → fault_of edit cards ≡ None → first_fault (edit ∷ []) cards ≡ None
one-applies edit cards none = fault-later (fault_of edit cards) None none refl

none-append : (edits more : List Edit) (cards : List Card) → first_fault edits cards ≡ None → first_fault more (edited_by edits cards) ≡ None → first_fault (edits ++ more) cards ≡ None
none-append [] more cards none also = also
none-append (edit ∷ edits) more cards none also =
    let both = first-applies (fault_of edit cards) (first_fault edits (edited cards edit)) none in
    fault-later (fault_of edit cards) (first_fault (edits ++ more) (edited cards edit)) both.0 (none-append edits more (edited cards edit) both.1 also)

-- what takes edits back brings back the cards that they led from
pub led-brings : (before : List Card) (kept : List KeptEdit) (now : List Card) → HaveLed before kept now → edited_by (backs_of kept) now ≡ before
led-brings before [] now led = sym led
led-brings before (one ∷ later) now led =
    fold-append edited now (backs_of later) (one.back ∷ [])
    ∙ (ap (λ (cards : List Card). edited cards one.back) (led-brings (edited before one.edit) later now led.2)
    ∙ (ap (λ (edit : Edit). edited (edited before one.edit) edit) led.1 ∙ undo-made one.edit before (has-place one.edit before led.0)))

-- and applies there
led-backs : (before : List Card) (kept : List KeptEdit) (now : List Card) → length before ≤ 20000 → HaveLed before kept now → first_fault (backs_of kept) now ≡ None
led-backs before [] now few led = refl
led-backs before (one ∷ later) now few led =
    let none = led.0 in
    let mid : List Card = edited before one.edit in
    let rest = led-backs mid later now (edited-few one.edit before none few) led.2 in
    let applies : fault_of one.back mid ≡ None = ap (λ (back : Edit). fault_of back mid) led.1 ∙ undo-applies one.edit before (has-place one.edit before none) few in
    none-append (backs_of later) (one.back ∷ []) now rest (ap (λ (cards : List Card). first_fault (one.back ∷ []) cards) (led-brings mid later now led.2) ∙ one-applies one.back mid applies)

pub backs-apply : (kept : List KeptEdit) (cards : List Card) → IsPastOf kept cards → first_fault (backs_of kept) cards ≡ None
backs-apply kept cards past = led-backs past.before kept cards past.few past.led

pub backs-bring : (kept : List KeptEdit) (cards : List Card) (past : IsPastOf kept cards) → edited_by (backs_of kept) cards ≡ past.before
backs-bring kept cards past = led-brings past.before kept cards past.led

either-behind : (b : Bool) (one : KeptEdit) (kept : List KeptEdit) (later : List KeptEdit) (cards : List Card) → IsPastOf (one ∷ kept) cards → IsPastOf later cards → IsPastOf (cond b (one ∷ kept) later) cards
either-behind true one kept later cards x y = x
either-behind false one kept later cards x y = y

-- those behind a version alone
pub past-behind : (version : ℕ) (kept : List KeptEdit) (cards : List Card) → IsPastOf kept cards → IsPastOf (behind version kept) cards
past-behind version [] cards past = past
past-behind version (one ∷ kept) cards past =
    either-behind _ one kept (behind version kept) cards past
    (past-behind version kept cards (record { before = edited past.before one.edit; few = edited-few one.edit past.before past.led.0 past.few; led = past.led.2 }))
