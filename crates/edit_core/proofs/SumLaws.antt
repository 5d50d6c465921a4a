-- What is counted for edits that are made at once is within the sum of what is due for each, and one more for each card between them.
use Rattle.std.{specs.Prelude.option_map, proofs.Common.{◌≡◌, ◌+◌, ◌-◌, ◌≤◌, ℕ, Bool, true, false, List, [], ◌∷◌, min, length, All, Option, Some, None, refl, sym, ap, ap₂, ◌∙◌, subst, arith}, proofs.lemmas.List.Elements.{All-cons, All-head, All-nil}}
use Rattle.definitions.specs.{Cards.Card, Laws.Edits.{Edited, IsWithinDue, IsUntouched, DoAgree}, Laws.Rebound.{rebound_front, rebound_tail, IsWithinDueCode}, Statements.Statement}
use Rattle.cards.{specs.Counts.count_after, specs.Edits.{edited, edited_by, fault_of, first_fault}, specs.declared.edits.Edit.Edit, specs.declared.edits.EditFault.EditFault, proofs.FaultLaws.{applies-in, edited-length}}
use Rattle.deck_assembler.{specs.Joins.Formers.known_in, proofs.CutLaws.known-cards}
use Rattle.edit_core.{specs.Edited.{front_of, count_behind, AreDecksOf, RisesWithinDue, RisesWithinDueCode, StandBehind, StandUnchanged}, specs.Faults.{against_all, record_fault}, specs.Sums.{Ends, AtEnd, Agreeing, in_front, rebound_behind, DueFor, DueForEach, fronts_sum, ends_sum, rebound_sum, apart, between_from, cards_between, RisesWithinSum, RisesWithinSumCode}, proofs.EndLaws.apart-one, proofs.JoinLaws.HaveCards, proofs.JoinedEdits.{decks_of, front-ordered, join, IsDueAtOnce}}

-- the numbers that are stated of edits may be stated otherwise
told-otherwise : (old new : List Statement) (old_count new_count before behind fronts ends between others f e b o : ℕ) → fronts ≡ f → ends ≡ e → between ≡ b → others ≡ o →
    IsDueAtOnce old new old_count new_count before behind fronts ends between others → IsDueAtOnce old new old_count new_count before behind f e b o
told-otherwise old new old_count new_count before behind fronts ends between others f e b o first second third fourth is =
    let within = is.within in
    let ordered = is.ordered in
    let rebound = is.rebound in
    record {
      few_old = is.few_old;
      few_new = is.few_new;
      front = is.front;
      untouched = is.untouched;
      ends = is.ends;
      within = omega (arith, within, first, second, third);
      ordered = omega (arith, ordered, first, second);
      rebound = omega (arith, rebound, fourth);
    }

-- what is stated of an edit's decks is so of those with all cards that stand before its own, and all behind it
record HasEnds (decks other : Edited) (ends : Ends decks) (front : List Statement) : Type 0 where
  ends_at : Ends other
  same : in_front other ends_at ≡ in_front decks ends
  rebound : rebound_front other front + rebound_behind other ends_at ≡ rebound_front decks front + rebound_behind decks ends

same-front : (decks other : Edited) (front : List Statement) → decks.old ≡ other.old → decks.new ≡ other.new → rebound_front other front ≡ rebound_front decks front
same-front decks other front of_old of_new = λ i. rebound_front (record { old = sym of_old i; new = sym of_new i; before = 0; old_behind = 0; new_behind = 0 }) front

same-tail : (decks other : Edited) (front tail : List Statement) → decks.old ≡ other.old → decks.new ≡ other.new → rebound_tail other front tail ≡ rebound_tail decks front tail
same-tail decks other front tail of_old of_new = λ i. rebound_tail (record { old = sym of_old i; new = sym of_new i; before = 0; old_behind = 0; new_behind = 0 }) front tail

move-ends : (decks other : Edited) (front : List Statement) (more : ℕ) → decks.old ≡ other.old → decks.new ≡ other.new → other.old_behind + more ≡ decks.old_behind → other.new_behind + more ≡ decks.new_behind →
    (ends : Ends decks) → HasEnds decks other ends front
move-ends decks other front more of_old of_new old_more new_more AtEnd = record {
  ends_at = AtEnd;
  same = ap length (sym of_new);
  rebound = ap (λ n. n + 0) (same-front decks other front of_old of_new);
}
move-ends decks other front more of_old of_new old_more new_more (Agreeing split agree) =
    let moved = subst (λ (both : List Statement × List Statement). DoAgree (record { old = both.0; new = both.1; before = decks.before; old_behind = decks.old_behind; new_behind = decks.new_behind }) split)
    (λ i. (of_old i, of_new i)) agree in
    let old_reaches = agree.tail.old_reaches in
    let new_reaches = agree.tail.new_reaches in
    let place = agree.tail.same_place in
    record {
      ends_at = Agreeing split (record {
        tail = record {
          of_old = moved.tail.of_old;
          of_new = moved.tail.of_new;
          old_reaches = omega (arith, old_reaches, old_more);
          new_reaches = omega (arith, new_reaches, new_more);
          same_place = omega (arith, place, old_more, new_more);
          same_cards = agree.tail.same_cards;
        };
        kinds = moved.kinds;
        states = moved.states;
        early = moved.early;
      });
      same = refl;
      rebound = ap₂ (λ (a b : ℕ). a + b) (same-front decks other front of_old of_new) (same-tail decks other split.new_front split.new_tail of_old of_new);
    }

-- one edit
pub single : (edit : Edit) (cards : List Card) → fault_of edit cards ≡ None → (due : DueFor edit cards) →
    IsDueAtOnce (known_in cards) (known_in (edited cards edit)) (length cards) (length (edited cards edit)) (front_of edit) (count_behind edit (length cards)) (length due.front) (in_front due.decks due.ends) 0
    (rebound_front due.decks due.front + rebound_behind due.decks due.ends)
single edit cards none due =
    let behind = due.stand.behind in
    let most = due.stand.stand.0 in
    let old_behind = due.stand.of_old in
    let new_behind = due.stand.of_new in
    let before = All-head (λ e. due.decks.before ≤ front_of e) edit [] due.are.before in
    let apart_one = apart-one edit cards (front_of edit) (count_behind edit (length cards)) none (omega arith) (omega arith) in
    let old_room = apart_one.0 in
    let new_room = apart_one.1 in
    let found = move-ends due.decks decks due.front (count_behind edit (length cards) - behind) due.are.old due.are.new (omega (arith, most, old_behind, old_room)) (omega (arith, most, new_behind, new_room)) due.ends in
    let same = found.same in
    let rebound = found.rebound in
    let unchanged = due.untouched.unchanged in
    let ordered = front-ordered due.decks due.front (front_of edit) due.ends (subst HaveCards (sym due.are.new) (known-cards (edited cards edit))) due.untouched.of_new (omega (arith, unchanged, before))
    (omega (arith, most, new_behind, new_room)) in
    record {
      few_old = old_room;
      few_new = new_room;
      front = due.front;
      untouched = record {
        of_old = (due.untouched.of_old.0, sym due.are.old ∙ due.untouched.of_old.1);
        of_new = (due.untouched.of_new.0, sym due.are.new ∙ due.untouched.of_new.1);
        unchanged = omega (arith, unchanged, before);
      };
      ends = found.ends_at;
      within = omega (arith, same);
      ordered = ordered;
      rebound = omega (arith, rebound);
    }
  where
    decks : Edited
    decks = decks_of (known_in cards) (known_in (edited cards edit)) (length cards) (length (edited cards edit)) (front_of edit) (count_behind edit (length cards))

-- the fewest cards before those that edits are of, and behind them
abbrev least_before : ℕ → List Edit → ℕ
least_before before [] = before
least_before before (edit ∷ edits) = least_before (min before (front_of edit)) edits

abbrev least_behind : ℕ → List Edit → List Card → ℕ
least_behind behind [] cards = behind
least_behind behind (edit ∷ edits) cards = least_behind (min behind (count_behind edit (length cards))) edits (edited cards edit)

-- edits, and others behind them
walk : (edits : List Edit) (old cards : List Card) (before behind fronts ends between others : ℕ) → first_fault edits cards ≡ None →
    IsDueAtOnce (known_in old) (known_in cards) (length old) (length cards) before behind fronts ends between others → (each : DueForEach edits cards) →
    IsDueAtOnce (known_in old) (known_in (edited_by edits cards)) (length old) (length (edited_by edits cards)) (least_before before edits) (least_behind behind edits cards)
    (fronts + fronts_sum edits cards each) (ends + ends_sum edits cards each) (between + between_from before behind edits (length cards)) (others + rebound_sum edits cards each)
walk [] old cards before behind fronts ends between others none is each =
    told-otherwise (known_in old) (known_in cards) (length old) (length cards) before behind fronts ends between others (fronts + 0) (ends + 0) (between + 0) (others + 0) (omega arith) (omega arith) (omega arith) (omega arith) is
walk (edit ∷ edits) old cards before behind fronts ends between others none is each =
    let next = edited cards edit in
    let applies = applies-in (edit ∷ edits) 0 edit cards (omega arith) refl none in
    let due = each.0 in
    let front = length due.front in
    let end = in_front due.decks due.ends in
    let other = rebound_front due.decks due.front + rebound_behind due.decks due.ends in
    let far = apart (length cards) before behind (front_of edit) (count_behind edit (length cards)) in
    let first = min before (front_of edit) in
    let last = min behind (count_behind edit (length cards)) in
    let both = join (known_in old) (known_in cards) (known_in next) (length old) (length cards) (length next) before behind fronts ends between others (front_of edit) (count_behind edit (length cards)) front end 0 other
    (known-cards cards) is (single edit cards applies.0 due) in
    let rest = walk edits old next first last (fronts + front) (ends + end) (between + 0 + far) (others + other) applies.1 both each.1 in
    let count = ap (λ (n : ℕ). between_from first last edits n) (edited-length edit cards applies.0) in
    told-otherwise (known_in old) (known_in (edited_by edits next)) (length old) (length (edited_by edits next)) (least_before first edits) (least_behind last edits next)
    (fronts + front + fronts_sum edits next each.1) (ends + end + ends_sum edits next each.1) (between + 0 + far + between_from first last edits (length next)) (others + other + rebound_sum edits next each.1)
    (fronts + (front + fronts_sum edits next each.1)) (ends + (end + ends_sum edits next each.1)) (between + (far + between_from first last edits (count_after edit (length cards)))) (others + (other + rebound_sum edits next each.1))
    (omega arith) (omega arith) (omega (arith, count)) (omega arith) rest

-- they are so few before each, and behind each
least-before : (before : ℕ) (edits : List Edit) → (least_before before edits ≤ before) × All (λ edit. least_before before edits ≤ front_of edit) edits
least-before before [] = (omega arith, All-nil (λ edit. before ≤ front_of edit))
least-before before (edit ∷ edits) =
    let rest = least-before (min before (front_of edit)) edits in
    let few = rest.0 in
    (omega (arith, few), All-cons (λ e. least_before (min before (front_of edit)) edits ≤ front_of e) edit edits (omega (arith, few)) rest.1)

least-behind : (behind : ℕ) (edits : List Edit) (cards : List Card) → first_fault edits cards ≡ None → (least_behind behind edits cards ≤ behind) × StandBehind (least_behind behind edits cards) edits (length cards)
least-behind behind [] cards none = (omega arith, tt)
least-behind behind (edit ∷ edits) cards none =
    let applies = applies-in (edit ∷ edits) 0 edit cards (omega arith) refl none in
    let last = min behind (count_behind edit (length cards)) in
    let rest = least-behind last edits (edited cards edit) applies.1 in
    let few = rest.0 in
    (omega (arith, few), (omega (arith, few), subst (StandBehind (least_behind last edits (edited cards edit)) edits) (edited-length edit cards applies.0) rest.1))

-- both decks of some edits, with all cards before those that they are of, and all behind them
record AreWhole (edits : List Edit) (cards : List Card) (decks : Edited) : Type 0 where
  are : AreDecksOf edits cards decks
  stand : StandUnchanged edits cards decks

-- what is due for them at once, whatever is stated of each
record AreAtOnce (edits : List Edit) (cards : List Card) (each : DueForEach edits cards) : Type 0 where
  decks : Edited
  whole : AreWhole edits cards decks
  front : List Statement
  untouched : IsUntouched decks front
  ends : Ends decks
  within : in_front decks ends + fronts_sum edits cards each ≤ length front + ends_sum edits cards each + cards_between edits (length cards)
  rebound : rebound_front decks front + rebound_behind decks ends ≤ rebound_sum edits cards each

at-once : (edit : Edit) (edits : List Edit) (cards : List Card) → first_fault (edit ∷ edits) cards ≡ None → (each : DueForEach (edit ∷ edits) cards) → AreAtOnce (edit ∷ edits) cards each
at-once edit edits cards none each =
    let next = edited cards edit in
    let applies = applies-in (edit ∷ edits) 0 edit cards (omega arith) refl none in
    let due = each.0 in
    let first = front_of edit in
    let last = count_behind edit (length cards) in
    let all = walk edits cards next first last (length due.front) (in_front due.decks due.ends) 0 (rebound_front due.decks due.front + rebound_behind due.decks due.ends) applies.1 (single edit cards applies.0 due) each.1 in
    let before = least-before first edits in
    let behind = least-behind last edits next applies.1 in
    let few_before = before.0 in
    let few_behind = behind.0 in
    let old_room = all.few_old in
    let new_room = all.few_new in
    let within = all.within in
    let rebound = all.rebound in
    let count = ap (λ (n : ℕ). between_from first last edits n) (edited-length edit cards applies.0) in
    record {
      decks = decks_of (known_in cards) (known_in (edited_by edits next)) (length cards) (length (edited_by edits next)) (least_before first edits) (least_behind last edits next);
      whole = record {
        are = record {
          old = refl;
          new = refl;
          before = All-cons (λ e. least_before first edits ≤ front_of e) edit edits few_before before.1;
          within = omega (arith, old_room);
        };
        stand = record {
          behind = least_behind last edits next;
          few = omega (arith, old_room);
          stand = (few_behind, subst (StandBehind (least_behind last edits next) edits) (edited-length edit cards applies.0) behind.1);
          of_old = omega (arith, old_room);
          of_new = omega (arith, new_room);
        };
      };
      front = all.front;
      untouched = all.untouched;
      ends = all.ends;
      within = omega (arith, within, count);
      rebound = rebound;
    }

-- what is within due is so in front of the end of what is due
due-at-end : (decks : Edited) (front : List Statement) (count : ℕ) (ends : Ends decks) → IsUntouched decks front → IsWithinDue decks 128 count → length front + count ≤ in_front decks ends + 128
due-at-end decks front count AtEnd untouched is = is.to_end front untouched
due-at-end decks front count (Agreeing split agree) untouched is = is.to_agreement front split untouched agree

due-code-at-end : (decks : Edited) (front : List Statement) (count : ℕ) (ends : Ends decks) → IsUntouched decks front → IsWithinDueCode decks 128 count →
    length front + count ≤ in_front decks ends + (rebound_front decks front + rebound_behind decks ends) + 128
due-code-at-end decks front count AtEnd untouched is = let bound = is.to_end front untouched in omega (arith, bound)
due-code-at-end decks front count (Agreeing split agree) untouched is = let bound = is.to_agreement front split untouched agree in omega (arith, bound)

-- edits made at once
pub within-sum : (edits : List Edit) (cards : List Card) (count now : ℕ) → first_fault edits cards ≡ None → count ≤ now → RisesWithinDue edits cards count now → RisesWithinSum (128 + cards_between edits (length cards)) edits cards count now
within-sum [] cards count now none rises due = λ each. omega (arith, due)
within-sum (edit ∷ edits) cards count now none rises due = λ each.
    let once = at-once edit edits cards none each in
    let bound = due-at-end once.decks once.front (now - count) once.ends once.untouched (due once.decks once.whole.are once.whole.stand) in
    let within = once.within in
    omega (arith, bound, within, rises)

pub within-sum-code : (edits : List Edit) (cards : List Card) (count now : ℕ) → first_fault edits cards ≡ None → count ≤ now → RisesWithinDueCode edits cards count now → RisesWithinSumCode (128 + cards_between edits (length cards)) edits cards count now
within-sum-code [] cards count now none rises due = λ each. omega (arith, due)
within-sum-code (edit ∷ edits) cards count now none rises due = λ each.
    let once = at-once edit edits cards none each in
    let bound = due-code-at-end once.decks once.front (now - count) once.ends once.untouched (due once.decks once.whole.are once.whole.stand) in
    let within = once.within in
    let rebound = once.rebound in
    omega (arith, bound, within, rebound, rises)

-- where nothing is against them
pub applies-all : (edits : List Edit) (is_spent : Bool) (cards : List Card) → against_all edits is_spent cards ≡ None → first_fault edits cards ≡ None
applies-all edits true cards none = cc
applies-all edits false cards none = absent (first_fault edits cards) none
  where
    absent : (found : Option (ℕ × EditFault)) → option_map (λ (f : ℕ × EditFault). record_fault f.1) found ≡ None → found ≡ None
    absent None e = refl
    absent (Some fault) e = cc

pub sum-of-accepted : (edits : List Edit) (is_spent : Bool) (cards : List Card) (count now : ℕ) → count ≤ now → RisesWithinDue edits cards count now → against_all edits is_spent cards ≡ None →
    RisesWithinSum (128 + cards_between edits (length cards)) edits cards count now
sum-of-accepted edits is_spent cards count now rises due none = within-sum edits cards count now (applies-all edits is_spent cards none) rises due

pub sum-of-accepted-code : (edits : List Edit) (is_spent : Bool) (cards : List Card) (count now : ℕ) → count ≤ now → RisesWithinDueCode edits cards count now → against_all edits is_spent cards ≡ None →
    RisesWithinSumCode (128 + cards_between edits (length cards)) edits cards count now
sum-of-accepted-code edits is_spent cards count now rises due none = within-sum-code edits cards count now (applies-all edits is_spent cards none) rises due
