-- What is due of coding is within due code, with those in front of the tail.
use Rattle.std.{proofs.Common.{◌≡◌, ◌∙◌, ℕ, ◌+◌, ◌-◌, ◌<◌, ◌≤◌, ◌⊎◌, inl, inr, Bool, true, false, nat_lt, nat_le, List, [], ◌∷◌, ◌++◌, min, cond, length, length-append, refl, ap, sym, subst, arith}, specs.Prelude.{not, ◌||◌}, specs.List.count_by, proofs.lemmas.Bool.{cases_lt, lt-ltb, le-leb}, proofs.lemmas.List.Recursion.is_count_by}
use Rattle.definitions.{specs.Cards.Card, specs.DeckKinds.kind_of_statements, specs.Laws.Edits.{DoAgree, Edited, IsUntouched, IsWithinDue, Split}, specs.Objects.context_of, specs.Laws.Rebound.{context_from, is_rebound, IsWithinDueCode}, specs.Settled.Settled, specs.Settling.{settle, settled_all}, specs.StatementItems.Context, specs.Statements.Statement, specs.Laws.Agreement.settled_tail, specs.declared.deck_kind.DeckKind.DeckKind, proofs.TailLaws.settled_all-append}
use Rattle.deck_assembler.{specs.Joins.DueCodes.{bound_otherwise, one_where, has_line, one_due, code_due, code_due_in, code_due_of, CodePlan, IsPlanOf, RisesRebound, RisesReboundOf}, specs.Joins.Formers.known_in, specs.Joins.Meetings.StandApart, specs.Joins.Tails.{HasTailIfAny, HasTailWithin, StandBeforeTail}, specs.Joins.Walks.{Whole, IsWhole}, specs.declared.former.Former.Former, proofs.AgreementLaws.{between, untouched-before}, proofs.DueCodeLaws.settled-length, proofs.PartLaws.context-same}

pub bound-counted : (old new : Context) (settled : List Settled) → bound_otherwise old new settled ≡ count_by (is_rebound old new) settled
bound-counted old new settled = is_count_by (bound_otherwise old new) (is_rebound old new) refl (λ x xs. one (is_rebound old new x) (bound_otherwise old new xs)) settled
  where
    one : (b : Bool) (n : ℕ) → n + one_where b ≡ cond b (1 + n) n
    one true n = omega arith
    one false n = omega arith

one-few : (b : Bool) → one_where b ≤ 1
one-few true = omega arith
one-few false = omega arith

or-true : (b : Bool) → b || true ≡ true
or-true true = refl
or-true false = refl

-- one that has a line is due where it is bound otherwise
line-due : (old new : Context) (front from : ℕ) (settled : Settled) (place : ℕ) → has_line front from place ≡ true → one_due old new front from settled place ≡ one_where (is_rebound old new settled)
line-due old new front from settled place e = ap (λ line. one_where (not line || is_rebound old new settled)) e

line-in-front : (front from place : ℕ) → place < front → has_line front from place ≡ true
line-in-front front from place less = ap (λ b. b || nat_le from place) (lt-ltb place front less)

line-in-tail : (front from place : ℕ) → from ≤ place → has_line front from place ≡ true
line-in-tail front from place more = ap (λ b. nat_lt place front || b) (le-leb from place more) ∙ or-true (nat_lt place front)

-- all of a front has lines
due-in-front : (old new : Context) (front from : ℕ) (settled : List Settled) → length settled ≤ front → code_due old new front from settled ≤ bound_otherwise old new settled
due-in-front old new front from [] few = omega arith
due-in-front old new front from (latest ∷ earlier) few =
    let rest = due-in-front old new front from earlier (omega (arith, few)) in
    let one = line-due old new front from latest (length earlier) (line-in-front front from (length earlier) (omega (arith, few))) in
    omega (arith, rest, one)

-- behind it at most all are due
pub due-front : (old new : Context) (from : ℕ) (kind : DeckKind) (middle front : List Statement) →
    code_due old new (length front) from (settled_all kind (middle ++ front)) + length front ≤ length (middle ++ front) + count_by (is_rebound old new) (settled_all kind front)
due-front old new from kind [] front =
    let own = settled-length kind front in
    let due = due-in-front old new (length front) from (settled_all kind front) (omega (arith, own)) in
    let counted = bound-counted old new (settled_all kind front) in
    omega (arith, due, counted)
due-front old new from kind (statement ∷ middle) front =
    let rest = due-front old new from kind middle front in
    let one = one-few (not (has_line (length front) from (length (settled_all kind (middle ++ front)))) || is_rebound old new (settle kind (settled_all kind (middle ++ front)) statement)) in
    omega (arith, rest, one)

-- behind a place where both decks agree: those that are bound otherwise, and those in front of the tail
pub due-tail : (old new : Context) (front from : ℕ) (kind : DeckKind) (tail earlier : List Statement) →
    code_due old new front from (settled_all kind (tail ++ earlier)) ≤
    code_due old new front from (settled_all kind earlier) + count_by (is_rebound old new) (settled_tail kind (settled_all kind earlier) tail) + min (length tail) (from - length earlier)
due-tail old new front from kind tail earlier =
    let counted = bound-counted old new (settled_tail kind (settled_all kind earlier) tail) in
    let due = by tail in
    omega (arith, counted, due)
  where
    by : (tail : List Statement) → code_due old new front from (settled_all kind (tail ++ earlier)) ≤
        code_due old new front from (settled_all kind earlier) + bound_otherwise old new (settled_tail kind (settled_all kind earlier) tail) + min (length tail) (from - length earlier)
    by [] = omega arith
    by (statement ∷ tail) =
        let all = settled_all kind (tail ++ earlier) in
        let latest = settle kind all statement in
        let same = ap (λ (l : List Settled). one_where (is_rebound old new (settle kind l statement))) (settled_all-append kind tail earlier) in
        let rest = by tail in
        let place = settled-length kind (tail ++ earlier) in
        let parts = length-append tail earlier in
        elim (cases_lt (length all) from) [
          | inl less ↦
              let one = one-few (not (has_line front from (length all)) || is_rebound old new latest) in
              omega (arith, rest, place, parts, less, one)
          | inr more ↦
              let one = line-due old new front from latest (length all) (line-in-tail front from (length all) more) in
              omega (arith, rest, place, parts, one, same)
        ]

-- what is due of a walk is what is due of its deck
pub due-of-deck : (whole : Whole) (plan : CodePlan) → IsWhole whole → whole.known ≡ known_in whole.cards → code_due_in whole plan whole.known ≡ code_due_of whole.cards plan
due-of-deck whole plan is e =
    let front = length plan.front in
    ap (λ (context : Context). code_due plan.old context front plan.from (settled_all whole.deck.kind whole.known)) (context-same whole is)
    ∙ ap (λ (kind : DeckKind). code_due plan.old (context_of kind (settled_all kind whole.known)) front plan.from (settled_all kind whole.known)) is.sized.kind
    ∙ ap (λ (known : List Statement). code_due plan.old (context_from known) front plan.from (settled_all (kind_of_statements known) known)) e

-- what is counted of a walk is counted of its deck
pub anew-of-deck : (whole : Whole) (old : List Card) (base coded : ℕ) → IsWhole whole → whole.known ≡ known_in whole.cards → RisesRebound whole (context_from (known_in old)) base whole.known coded → RisesReboundOf old whole.cards base coded
anew-of-deck whole old base coded is e rises = λ room.
    let past = context_from (known_in old) in
    let same =
    ap (λ (context : Context). bound_otherwise past context (settled_all whole.deck.kind whole.known)) (context-same whole is)
    ∙ ap (λ (kind : DeckKind). bound_otherwise past (context_of kind (settled_all kind whole.known)) (settled_all kind whole.known)) is.sized.kind
    ∙ ap (λ (known : List Statement). bound_otherwise past (context_from known) (settled_all (kind_of_statements known) known)) e in
    let own = ap length e in
    let there = rises (omega (arith, room, own)) in
    omega (arith, there, same)

-- where a tail begins
record BeginsWithin (kind : DeckKind) (old cards : List Card) (count : ℕ) (earlier : List Statement) (limit : ℕ) : Type 0 where
  from : ℕ
  begins : StandBeforeTail kind old cards count earlier from
  few : from ≤ limit

begins-somewhere : (kind : DeckKind) (old cards : List Card) (count : ℕ) (earlier : List Statement) → HasTailIfAny kind old cards count earlier → BeginsWithin kind old cards count earlier (length earlier)
begins-somewhere kind old cards count earlier (inl none) = record { from = length earlier; begins = inl (none, refl); few = omega arith }
begins-somewhere kind old cards count earlier (inr tail) =
    let whole = ap length tail.tail.of_new in
    let parts = length-append tail.tail.split.new_tail tail.tail.split.new_front in
    record { from = length tail.tail.split.new_front; begins = inr (tail, refl); few = omega (arith, whole, parts) }

begins-within : (kind : DeckKind) (old cards : List Card) (count : ℕ) (earlier : List Statement) (limit : ℕ) → HasTailIfAny kind old cards count earlier → (limit < length earlier → HasTailWithin kind old cards count earlier limit) →
    BeginsWithin kind old cards count earlier limit
begins-within kind old cards count earlier limit tail within = elim (cases_lt limit (length earlier)) [
  | inl more ↦ let there = within more in record { from = length there.tail.tail.split.new_front; begins = inr (there.tail, refl); few = there.within }
  | inr enough ↦
      let there = begins-somewhere kind old cards count earlier tail in
      let few = there.few in
      record { from = there.from; begins = there.begins; few = omega (arith, few, enough) }
]

-- what is coded in an edited deck is within due code, with those of a piece
pub within-due-code : (old cards : List Card) (before behind : ℕ) (former : Former) (decks : Edited) (count : ℕ) → StandApart old cards before behind decks → decks.before ≤ before → former.before ≡ before →
    (former.kind ≡ kind_of_statements (known_in cards)) ⊎ (former.tail ≡ 0) → HasTailIfAny (kind_of_statements (known_in cards)) old cards former.tail (known_in cards) →
    ((front : List Statement) (split : Split) → IsUntouched decks front → DoAgree decks split → length split.new_front + 128 < length (known_in cards) →
    HasTailWithin (kind_of_statements (known_in cards)) old cards former.tail (known_in cards) (length split.new_front + 128)) →
    ((plan : CodePlan) → IsPlanOf (kind_of_statements (known_in cards)) old cards former plan → count ≤ code_due_of cards plan) → IsWithinDueCode decks 128 count
within-due-code old cards before behind former decks count apart few same_before same tail within due = record {
  to_end = λ front is.
      let found = begins-somewhere kind old cards former.tail (known_in cards) tail in
      let bound = counted front is found.from found.begins in
      let there = front-due front is found.from in
      omega (arith, bound, there);
  to_agreement = λ front split is agree.
      let limit = length split.new_front + 128 in
      let found = begins-within kind old cards former.tail (known_in cards) limit tail (within front split is agree) in
      let from = found.from in
      let bound = counted front is from found.begins in
      let longer = untouched-before old cards before behind decks front split apart few is agree in
      let whole = ap length (sym is.of_new.1 ∙ agree.tail.of_new) in
      let parts = length-append is.of_new.0 front in
      let other = length-append split.new_tail split.new_front in
      let middle = between is.of_new.0 front split.new_tail split.new_front (sym is.of_new.1 ∙ agree.tail.of_new) (omega (arith, longer, whole, parts, other)) in
      let there = subst (λ (l : List Statement). code_due past now (length front) from (settled_all own l) + length front ≤ length l + count_by (is_rebound past now) (settled_all own front)) (sym middle.of_earlier)
      (due-front past now from own middle.middle front) in
      let behind_it = subst (λ (l : List Statement). code_due past now (length front) from (settled_all own l) ≤
      code_due past now (length front) from (settled_all own split.new_front) + count_by (is_rebound past now) (settled_tail own (settled_all own split.new_front) split.new_tail) + min (length split.new_tail) (from - length split.new_front))
      (sym agree.tail.of_new) (due-tail past now (length front) from own split.new_tail split.new_front) in
      let in_time = found.few in
      omega (arith, bound, there, behind_it, in_time);
}
  where
    kind : DeckKind
    kind = kind_of_statements (known_in cards)

    own : DeckKind
    own = kind_of_statements decks.new

    past : Context
    past = context_from decks.old

    now : Context
    now = context_from decks.new

    counted : (front : List Statement) → IsUntouched decks front → (from : ℕ) → StandBeforeTail kind old cards former.tail (known_in cards) from → count ≤ code_due past now (length front) from (settled_all own decks.new)
    counted front is from begins =
        let plan : CodePlan = record { decks = decks; old = context_from (known_in old); front = front; from = from } in
        subst (λ (both : List Statement × List Statement). count ≤ code_due (context_from both.0) (context_from both.1) (length front) from (settled_all (kind_of_statements both.1) both.1))
        (λ i. (sym apart.of_old i, sym apart.of_new i))
        (due plan (record {
          same = same;
          of_old = apart.of_old;
          of_new = record { untouched = is; of_new = apart.of_new };
          known = refl;
          few = subst (λ n. decks.before ≤ n) (sym same_before) few;
          begins = begins;
        }))

    front-due : (front : List Statement) → IsUntouched decks front → (from : ℕ) →
        code_due past now (length front) from (settled_all own decks.new) + length front ≤ length decks.new + count_by (is_rebound past now) (settled_all own front)
    front-due front is from =
        subst (λ (l : List Statement). code_due past now (length front) from (settled_all own l) + length front ≤ length l + count_by (is_rebound past now) (settled_all own front)) (sym is.of_new.1) (due-front past now from own is.of_new.0 front)

-- what is within due is within due code
pub due-code-weaker : (decks : Edited) (more count : ℕ) → IsWithinDue decks more count → IsWithinDueCode decks more count
due-code-weaker decks more count is = record {
  to_end = λ front untouched. let bound = is.to_end front untouched in omega (arith, bound);
  to_agreement = λ front split untouched agree. let bound = is.to_agreement front split untouched agree in omega (arith, bound);
}
