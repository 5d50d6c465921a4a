-- A walk over an edited deck codes no more statements than are due, one after the other.
use Rattle.std.{proofs.Common.{◌≡◌, ◌∙◌, ℕ, suc, ◌+◌, ◌<◌, ◌≤◌, ◌⊎◌, inl, inr, Bool, true, false, nat_lt, nat_le, List, [], ◌∷◌, ◌++◌, Option, Some, None, drop, length, length-append, reverse, refl, ap, sym, subst, arith}, specs.Prelude.{not, ◌||◌}, proofs.lemmas.Bool.{leb-true, ltb-true}, proofs.lemmas.List.{drop-drop, length-drop, reverse-reverse}}
use Rattle.definitions.specs.{Cards.Card, Laws.Rebound.is_rebound, Settling.{settle, settled_all}, Statements.{Statement, cards_in}, declared.deck_kind.DeckKind.DeckKind}
use Rattle.deck_assembler.{specs.Joins.DeckParts.sized_in, specs.Joins.DueCodes.{one_where, has_line, one_due, code_due_in, CodePlan, IsPlanned, IsBesideFront, IsBesideTail, HasNoTail, IsDueBeside, IsWalkedDue}, specs.Joins.FormerLines.{IsSameTail, IsMissedInFront, IsMissedInTail, IsNextInFront, IsNextInTail, IsNextLine, AreBeside}, specs.Joins.Rebindings.AreBindings, specs.Joins.SizedDecks.{AreSizedFrom, IsSizedStatement}, specs.Joins.Sizers.stood, specs.Joins.Walks.{Whole, IsWhole, context_in}, specs.declared.former_lines.FormerLine.FormerLine, specs.declared.former_lines.FormerLines.FormerLines, specs.declared.sized_statement.SizedStatement.SizedStatement, proofs.FormerLaws.{at-or-not, at-tail, before-tail, missed-in-front, missed-of-tail, next-line, next-of-tail, same-tail, sized-cards}, proofs.ForwardLaws.stood-more, proofs.FrontLaws.{next-untouched, untouched-few}, proofs.OntoLaws.{append-none, reverse-onto}}

pub settled-length : (kind : DeckKind) (statements : List Statement) → length (settled_all kind statements) ≡ length statements
settled-length kind [] = refl
settled-length kind (statement ∷ earlier) = ap suc (settled-length kind earlier)

-- what is due of one statement more
pub due-more : (whole : Whole) (plan : CodePlan) (given : Statement) (earlier : List Statement) →
    code_due_in whole plan (given ∷ earlier) ≡ code_due_in whole plan earlier + one_due plan.old (context_in whole) (length plan.front) plan.from (settle whole.deck.kind (settled_all whole.deck.kind earlier) given) (length earlier)
due-more whole plan given earlier =
    ap (λ n. code_due_in whole plan earlier + one_due plan.old (context_in whole) (length plan.front) plan.from (settle whole.deck.kind (settled_all whole.deck.kind earlier) given) n) (settled-length whole.deck.kind earlier)

due-behind : (whole : Whole) (plan : CodePlan) (behind earlier : List Statement) → code_due_in whole plan earlier ≤ code_due_in whole plan (behind ++ earlier)
due-behind whole plan [] earlier = omega arith
due-behind whole plan (given ∷ behind) earlier = let rest = due-behind whole plan behind earlier in let more = due-more whole plan given (behind ++ earlier) in omega (arith, rest, more)

-- no more are counted so far than are due in all
pub due-all : (whole : Whole) (plan : CodePlan) (base : ℕ) (left : List SizedStatement) (standing : ℕ) (former : FormerLines) (coded : ℕ) → IsWalkedDue whole plan base left standing former coded → coded ≤ base + code_due_in whole plan whole.known
due-all whole plan base left standing former coded is =
    let more = due-behind whole plan (reverse is.coming) is.earlier in
    let within = is.within in
    subst (λ (l : List Statement). coded ≤ base + code_due_in whole plan l) is.all (omega (arith, more, within))

-- a statement that has a line, and is not bound otherwise, is not counted
one-counted : (line rebound : Bool) (coded more : ℕ) → (line ≡ true → rebound ≡ false → more ≡ coded) → more ≤ coded + 1 → more ≤ coded + one_where (not line || rebound)
one-counted true true coded more same few = few
one-counted true false coded more same few = let e = same refl refl in omega (arith, e)
one-counted false true coded more same few = few
one-counted false false coded more same few = few

or-split : (a b : Bool) → a || b ≡ true → (a ≡ true) ⊎ (b ≡ true)
or-split true b e = inl refl
or-split false b e = inr e

line-split : (front from place : ℕ) → has_line front from place ≡ true → (place < front) ⊎ (from ≤ place)
line-split front from place e = elim (or-split (nat_lt place front) (nat_le from place) e) [
  | inl less ↦ inl (ltb-true place front less)
  | inr more ↦ inr (leb-true from place more)
]

-- a line was found, and what its names meant
pub record IsFoundOf (plan : CodePlan) (found : Option FormerLine) : Type 0 where
  pub one : FormerLine
  pub is : found ≡ Some one
  pub bindings : AreBindings one.bindings plan.old

record FrontGoesOn (kind : DeckKind) (cards : List Card) (plan : CodePlan) (earlier : List Statement) (given : Statement) (standing count : ℕ) (found : Option FormerLine) (after : FormerLines) : Type 0 where
  found_is : IsFoundOf plan found
  beside : IsBesideFront kind cards plan (given ∷ earlier) (standing + count) after

-- in an untouched front there is a line
found-in-front : (kind : DeckKind) (cards : List Card) (plan : CodePlan) (known earlier coming : List Statement) (given : Statement) (standing : ℕ) (sized : SizedStatement) (found : Option FormerLine) (old after : FormerLines) →
    IsPlanned known plan → known ≡ reverse coming ++ given ∷ earlier → standing ≡ stood earlier → IsBesideFront kind cards plan earlier standing old → length earlier < length plan.front →
    IsNextInFront old after standing sized.cards found → IsMissedInFront old standing sized.cards found → IsSizedStatement kind earlier standing (drop standing cards) sized given → FrontGoesOn kind cards plan earlier given standing sized.cards found after
found-in-front kind cards plan known earlier coming given standing sized (Some one) old after planned all stands is less next missed statement =
    let goes = next-line kind cards plan.old earlier is.coming given standing sized one old after is.beside next statement in
    record {
      found_is = record { one = one; is = refl; bindings = subst (λ b. AreBindings b plan.old) (sym next.one.bindings) is.beside.bindings };
      beside = record {
        coming = goes.later;
        all = reverse-onto given goes.later earlier ∙ ap (λ (l : List Statement). reverse l ++ earlier) (sym goes.all) ∙ is.all;
        few = subst (λ n. plan.decks.before ≤ n) (sym next.same_before) is.few;
        beside = goes.beside;
      };
    }
found-in-front kind cards plan known earlier coming given standing sized None old after planned all stands is less next missed statement = absurd (by is.coming is.all is.beside)
  where
    by : (ahead : List Statement) → reverse ahead ++ earlier ≡ plan.decks.old → AreBeside kind cards plan.old earlier ahead standing old → ⊥
    by [] e beside = let few = (untouched-few plan.decks plan.front planned.untouched).0 in let same = ap length e in omega (arith, few, same, less)
    by (first ∷ later) e beside =
        let both = next-untouched plan.decks plan.front earlier (reverse later) (reverse coming) first given planned.untouched (sym (reverse-onto first later earlier ∙ e)) (planned.of_new ∙ all) less in
        let moved = subst (λ (s : Statement). AreBeside kind cards plan.old earlier (s ∷ later) standing old) both.0 beside in
        let own = sized-cards kind earlier standing (drop standing cards) sized given statement in
        let its = ap (λ (s : Statement). length s.cards) both.0 in
        let parts = length-append (cards_in earlier) first.cards in
        let few = both.1 in
        let before = is.few in
        missed-in-front kind cards plan.old earlier later given standing sized.cards old moved own (omega (arith, own, its, parts, few, before, stands)) missed

record TailGoesOn (kind : DeckKind) (plan : CodePlan) (earlier coming : List Statement) (given : Statement) (standing count : ℕ) (found : Option FormerLine) (after : FormerLines) : Type 0 where
  found_is : IsFoundOf plan found
  beside : IsBesideTail kind plan (given ∷ earlier) coming (standing + count) after
  begun : plan.from ≤ length earlier

-- and so in the tail
found-in-tail : (kind : DeckKind) (cards : List Card) (plan : CodePlan) (earlier coming : List Statement) (given : Statement) (standing : ℕ) (sized : SizedStatement) (found : Option FormerLine) (old after : FormerLines) →
    IsBesideTail kind plan earlier (given ∷ coming) standing old → standing ≡ old.tail.at → IsNextInTail old after standing sized.cards found → IsMissedInTail old found → IsSizedStatement kind earlier standing (drop standing cards) sized given →
    length cards ≤ 20000 → TailGoesOn kind plan earlier coming given standing sized.cards found after
found-in-tail kind cards plan earlier coming given standing sized found old after is at_place next missed statement few = by found next missed
  where
    none : is.between ≡ []
    none =
        let own = sized-cards kind earlier standing (drop standing cards) sized given statement in
        let some = statement.some in
        at-tail kind plan.old earlier coming is.between given standing old is.of at_place (omega (arith, own, some))

    begun : plan.from ≤ length earlier
    begun = elim is.place [
      | inl e ↦ let empty = ap length none in omega (arith, e, empty)
      | inr both ↦ both.1
    ]

    by : (found : Option FormerLine) → IsNextInTail old after standing sized.cards found → IsMissedInTail old found → TailGoesOn kind plan earlier coming given standing sized.cards found after
    by None next missed = absurd (missed-of-tail kind plan.old earlier coming is.between given standing old is.of none missed)
    by (Some one) next missed =
        let goes = next-of-tail kind cards plan.old earlier coming is.between given standing sized one old after is.of none next statement few in
        record {
          found_is = record { one = one; is = refl; bindings = subst (λ b. AreBindings b plan.old) (sym next.one.bindings) is.of.bindings };
          beside = record { between = []; of = goes.of; place = inr (refl, (omega (arith, begun))) };
          begun = begun;
        }

-- before the tail that is still to come
record TailToCome (kind : DeckKind) (cards : List Card) (plan : CodePlan) (earlier coming : List Statement) (given : Statement) (standing count : ℕ) (after : FormerLines) : Type 0 where
  tail : HasNoTail cards plan (given ∷ earlier) coming after ⊎ IsBesideTail kind plan (given ∷ earlier) coming (standing + count) after
  less : length earlier < plan.from

tail-to-come : (kind : DeckKind) (cards : List Card) (plan : CodePlan) (earlier coming : List Statement) (given : Statement) (standing : ℕ) (sized : SizedStatement) (old after : FormerLines) →
    HasNoTail cards plan earlier (given ∷ coming) old ⊎ IsBesideTail kind plan earlier (given ∷ coming) standing old → (standing ≡ old.tail.at → ⊥) → IsSameTail old after →
    IsSizedStatement kind earlier standing (drop standing cards) sized given → TailToCome kind cards plan earlier coming given standing sized.cards after
tail-to-come kind cards plan earlier coming given standing sized old after (inl without) other same statement =
    let from = without.from in
    record { tail = inl (record { from = omega (arith, from); at_end = ap (λ t. t.at) same.tail ∙ without.at_end }); less = omega (arith, from) }
tail-to-come kind cards plan earlier coming given standing sized old after (inr is) other same statement = by is.place
  where
    comes : (of : IsBesideTail kind plan earlier (given ∷ coming) standing old) → length of.between ≡ 0 → ⊥
    comes of empty = let next = before-tail kind cards plan.old earlier coming of.between given standing sized old after of.of other same statement in let whole = ap length next.all in omega (arith, whole, empty)

    by : (length earlier + length is.between ≡ plan.from) ⊎ ((is.between ≡ []) × (plan.from ≤ length earlier)) → TailToCome kind cards plan earlier coming given standing sized.cards after
    by (inr both) = absurd (comes is (ap length both.0))
    by (inl e) =
        let next = before-tail kind cards plan.old earlier coming is.between given standing sized old after is.of other same statement in
        let whole = ap length next.all in
        record { tail = inr (record { between = next.rest; of = next.of; place = inl (omega (arith, e, whole)) }); less = omega (arith, e, whole) }

-- one step of a walk beside the lines that there are
record DueNext (kind : DeckKind) (cards : List Card) (plan : CodePlan) (earlier coming : List Statement) (given : Statement) (standing count : ℕ) (found : Option FormerLine) (after : FormerLines) : Type 0 where
  line : has_line (length plan.front) plan.from (length earlier) ≡ true → IsFoundOf plan found
  beside : IsDueBeside kind cards plan (given ∷ earlier) coming (standing + count) after

due-next : (kind : DeckKind) (cards : List Card) (plan : CodePlan) (known earlier coming : List Statement) (given : Statement) (standing : ℕ) (sized : SizedStatement) (found : Option FormerLine) (old after : FormerLines) →
    IsPlanned known plan → known ≡ reverse coming ++ given ∷ earlier → IsDueBeside kind cards plan earlier (given ∷ coming) standing old → IsNextLine old after standing sized.cards found →
    IsSizedStatement kind earlier standing (drop standing cards) sized given → length cards ≤ 20000 → DueNext kind cards plan earlier coming given standing sized.cards found after
due-next kind cards plan known earlier coming given standing sized found old after planned all is next statement few = by (at-or-not standing old.tail.at)
  where
    stands : standing + sized.cards ≡ stood (given ∷ earlier)
    stands = ap (λ n. n + sized.cards) is.stands ∙ stood-more earlier given (drop standing cards) sized.cards statement.cards statement.within

    in-tail : HasNoTail cards plan earlier (given ∷ coming) old ⊎ IsBesideTail kind plan earlier (given ∷ coming) standing old → standing ≡ old.tail.at → DueNext kind cards plan earlier coming given standing sized.cards found after
    in-tail (inl without) at_place =
        let at_end = without.at_end in
        let some = statement.some in
        let within = statement.within in
        let left = length-drop standing cards in
        absurd (omega (arith, at_place, at_end, some, within, left))
    in-tail (inr of) at_place =
        let goes = found-in-tail kind cards plan earlier coming given standing sized found old after of at_place (next.tail at_place) (next.missed_tail at_place) statement few in
        let begun = goes.begun in
        record {
          line = λ e. goes.found_is;
          beside = record { stands = stands; front = λ first second. absurd (omega (arith, begun, second)); tail = inr goes.beside };
        }

    in-front : (standing ≡ old.tail.at → ⊥) → DueNext kind cards plan earlier coming given standing sized.cards found after
    in-front other =
        let same = same-tail old after standing sized.cards found (next.front other) in
        let comes = tail-to-come kind cards plan earlier coming given standing sized old after is.tail other same statement in
        let less = comes.less in
        let goes : length earlier < length plan.front → FrontGoesOn kind cards plan earlier given standing sized.cards found after =
        λ first. found-in-front kind cards plan known earlier coming given standing sized found old after planned all is.stands (is.front first less) first (next.front other) (next.missed_front other) statement in
        record {
          line = λ e. elim (line-split (length plan.front) plan.from (length earlier) e) [
            | inl first ↦ (goes first).found_is
            | inr more ↦ absurd (omega (arith, less, more))
          ];
          beside = record { stands = stands; front = λ first second. (goes (omega (arith, first))).beside; tail = comes.tail };
        }

    by : (standing ≡ old.tail.at) ⊎ (standing ≡ old.tail.at → ⊥) → DueNext kind cards plan earlier coming given standing sized.cards found after
    by (inl at_place) = in-tail is.tail at_place
    by (inr other) = in-front other

-- a step of a walk that is counted: one that has a line, and is not bound otherwise, counts nothing
pub due-step : (whole : Whole) (plan : CodePlan) (base : ℕ) (left : List SizedStatement) (sized : SizedStatement) (standing now : ℕ) (found : Option FormerLine) (old after : FormerLines) (coded more : ℕ) → IsWhole whole → IsPlanned whole.known plan →
    IsWalkedDue whole plan base (sized ∷ left) standing old coded → IsNextLine old after standing sized.cards found → more ≤ coded + 1 →
    ((earlier : List Statement) (given : Statement) (one : FormerLine) → IsSizedStatement whole.deck.kind earlier standing (drop standing whole.cards) sized given → found ≡ Some one → AreBindings one.bindings plan.old →
    is_rebound plan.old (context_in whole) (settle whole.deck.kind (settled_all whole.deck.kind earlier) given) ≡ false → more ≡ coded) →
    (0 < sized.cards → sized.cards ≤ length (drop standing whole.cards) → now ≡ standing + sized.cards) → IsWalkedDue whole plan base left now after more
due-step whole plan base left sized standing now found old after coded more is planned walked next few same moved = step walked.coming walked.all walked.sized walked.beside
  where
    kind : DeckKind
    kind = whole.deck.kind

    step : (coming : List Statement) → reverse coming ++ walked.earlier ≡ whole.known → AreSizedFrom kind walked.earlier standing (drop standing whole.cards) (sized ∷ left) coming whole.deck.behind (reverse whole.others) →
        IsDueBeside kind whole.cards plan walked.earlier coming standing old → IsWalkedDue whole plan base left now after more
    step [] all h beside = absurd h
    step (given ∷ coming) all h beside =
        let onto = reverse-onto given coming walked.earlier in
        let goes = due-next kind whole.cards plan whole.known walked.earlier coming given standing sized found old after planned (sym (onto ∙ all)) beside next h.0 is.few in
        let settled = settle kind (settled_all kind walked.earlier) given in
        let count = one-counted (has_line (length plan.front) plan.from (length walked.earlier)) (is_rebound plan.old (context_in whole) settled) coded more
        (λ line bound. let there = goes.line line in same walked.earlier given there.one h.0 there.is there.bindings bound) few in
        let due = due-more whole plan given walked.earlier in
        let within = walked.within in
        let place = moved h.0.some h.0.within in
        record {
          earlier = given ∷ walked.earlier;
          coming = coming;
          all = onto ∙ all;
          sized = subst (λ n. AreSizedFrom kind (given ∷ walked.earlier) n (drop n whole.cards) left coming whole.deck.behind (reverse whole.others)) (sym place)
              (subst (λ (ahead : List Card). AreSizedFrom kind (given ∷ walked.earlier) (standing + sized.cards) ahead left coming whole.deck.behind (reverse whole.others)) (drop-drop sized.cards standing whole.cards) h.1);
          beside = subst (λ n. IsDueBeside kind whole.cards plan (given ∷ walked.earlier) coming n after) (sym place) goes.beside;
          within = omega (arith, count, due, within);
        }

-- before the first statement
pub due-begins : (whole : Whole) (plan : CodePlan) (former : FormerLines) (coded : ℕ) → IsWhole whole → IsDueBeside whole.deck.kind whole.cards plan [] (reverse whole.known) 0 former →
    IsWalkedDue whole plan coded (sized_in whole.deck.pieces) 0 former coded
due-begins whole plan former coded is beside = record {
  earlier = [];
  coming = reverse whole.known;
  all = append-none (reverse (reverse whole.known)) ∙ reverse-reverse whole.known;
  sized = is.sized.sized;
  beside = beside;
  within = omega arith;
}
