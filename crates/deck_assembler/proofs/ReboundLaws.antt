-- A walk over an edited deck counts each statement that is bound otherwise, one after the other.
use Rattle.std.proofs.{Common.{◌≡◌, ◌∙◌, ℕ, ◌+◌, ◌-◌, ◌^◌, ◌<◌, ◌≤◌, inl, inr, Bool, true, false, List, [], ◌∷◌, ◌++◌, Option, Some, None, drop, length, min, reverse, refl, sym, subst, arith}, lemmas.List.{drop-drop, reverse-reverse}}
use Rattle.definitions.specs.{Cards.Card, Laws.Rebound.is_rebound, Settling.{settle, settled_all}, StatementItems.Context, Statements.Statement, declared.deck_kind.DeckKind.DeckKind}
use Rattle.statement_coder.specs.Meters.{RisesBy}
use Rattle.deck_assembler.{specs.Joins.DeckParts.sized_in, specs.Joins.DueCodes.{one_where, IsWalkedAnew, RisesRebound}, specs.Joins.FormerLines.{IsNextInFront, IsNextInTail, IsNextLine}, specs.Joins.Rebindings.AreBindings, specs.Joins.SizedDecks.{AreSizedFrom, IsSizedStatement}, specs.Joins.Walks.{Whole, IsWhole, context_in}, specs.declared.former_lines.FormerLine.FormerLine, specs.declared.former_lines.FormerLines.FormerLines, specs.declared.sized_statement.SizedStatement.SizedStatement, proofs.FormerLaws.at-or-not, proofs.OntoLaws.{append-none, reverse-onto}}

-- the names of a line that is found mean what those of all lines do
in-front-bound : (old after : FormerLines) (stood count : ℕ) (found : Option FormerLine) → IsNextInFront old after stood count found → (context : Context) → AreBindings old.bindings context → (one : FormerLine) → found ≡ Some one → AreBindings one.bindings context
in-front-bound old after stood count None next context are one e = absurd cc
in-front-bound old after stood count (Some found) next context are one e =
    let same : found ≡ one = cc in
    subst (λ (f : FormerLine). AreBindings f.bindings context) same (subst (λ b. AreBindings b context) (sym next.one.bindings) are)

in-tail-bound : (old after : FormerLines) (stood count : ℕ) (found : Option FormerLine) → IsNextInTail old after stood count found → (context : Context) → AreBindings old.bindings context → (one : FormerLine) → found ≡ Some one → AreBindings one.bindings context
in-tail-bound old after stood count None next context are one e = absurd cc
in-tail-bound old after stood count (Some found) next context are one e =
    let same : found ≡ one = cc in
    subst (λ (f : FormerLine). AreBindings f.bindings context) same (subst (λ b. AreBindings b context) (sym next.one.bindings) are)

pub line-bound : (old after : FormerLines) (stood count : ℕ) (found : Option FormerLine) → IsNextLine old after stood count found → (context : Context) → AreBindings old.bindings context → (one : FormerLine) → found ≡ Some one → AreBindings one.bindings context
line-bound old after stood count found next context are one e = elim (at-or-not stood old.tail.at) [
  | inl place ↦ in-tail-bound old after stood count found (next.tail place) context are one e
  | inr other ↦ in-front-bound old after stood count found (next.front other) context are one e
]

-- a statement is counted that has no line, or is bound otherwise
one-anew : (rebound : Bool) (found : Option FormerLine) (coded more : ℕ) → coded ≤ more → coded + 1 < 2 ^ 64 → (found ≡ None → RisesBy 1 coded more) → ((one : FormerLine) → found ≡ Some one → rebound ≡ true → more ≡ min (coded + 1) (2 ^ 64 - 1)) →
    coded + one_where rebound ≤ more
one-anew false found coded more rises room none some = omega (arith, rises)
one-anew true None coded more rises room none some = let there = none refl room in omega (arith, there)
one-anew true (Some one) coded more rises room none some = let there = some one refl refl in omega (arith, there, room)

-- one statement more
pub anew-step : (whole : Whole) (old : Context) (base : ℕ) (left : List SizedStatement) (sized : SizedStatement) (standing now : ℕ) (found : Option FormerLine) (coded more : ℕ) → IsWhole whole →
    IsWalkedAnew whole old base (sized ∷ left) standing coded → coded ≤ more → more ≤ coded + 1 → (found ≡ None → RisesBy 1 coded more) → ((one : FormerLine) → found ≡ Some one → AreBindings one.bindings old) →
    ((earlier : List Statement) (given : Statement) (one : FormerLine) → IsSizedStatement whole.deck.kind earlier standing (drop standing whole.cards) sized given → found ≡ Some one → AreBindings one.bindings old →
    is_rebound old (context_in whole) (settle whole.deck.kind (settled_all whole.deck.kind earlier) given) ≡ true → more ≡ min (coded + 1) (2 ^ 64 - 1)) →
    (0 < sized.cards → sized.cards ≤ length (drop standing whole.cards) → now ≡ standing + sized.cards) → IsWalkedAnew whole old base left now more
anew-step whole old base left sized standing now found coded more is walked rises few none bound some moved = step walked.coming walked.all walked.sized
  where
    kind : DeckKind
    kind = whole.deck.kind

    step : (coming : List Statement) → reverse coming ++ walked.earlier ≡ whole.known → AreSizedFrom kind walked.earlier standing (drop standing whole.cards) (sized ∷ left) coming whole.deck.behind (reverse whole.others) →
        IsWalkedAnew whole old base left now more
    step [] all h = absurd h
    step (given ∷ coming) all h =
        let settled = settle kind (settled_all kind walked.earlier) given in
        let place = moved h.0.some h.0.within in
        let so_far = walked.few in
        record {
          earlier = given ∷ walked.earlier;
          coming = coming;
          all = reverse-onto given coming walked.earlier ∙ all;
          sized = subst (λ n. AreSizedFrom kind (given ∷ walked.earlier) n (drop n whole.cards) left coming whole.deck.behind (reverse whole.others)) (sym place)
              (subst (λ (ahead : List Card). AreSizedFrom kind (given ∷ walked.earlier) (standing + sized.cards) ahead left coming whole.deck.behind (reverse whole.others)) (drop-drop sized.cards standing whole.cards) h.1);
          few = omega (arith, so_far, few);
          anew = λ room.
              let there = walked.anew (omega (arith, room)) in
              let one = one-anew (is_rebound old (context_in whole) settled) found coded more rises (omega (arith, room, so_far)) none (λ line e rebound. some walked.earlier given line h.0 e (bound line e) rebound) in
              omega (arith, there, one);
        }

-- before the first statement
pub anew-begins : (whole : Whole) (old : Context) (coded : ℕ) → IsWhole whole → IsWalkedAnew whole old coded (sized_in whole.deck.pieces) 0 coded
anew-begins whole old coded is = record {
  earlier = [];
  coming = reverse whole.known;
  all = append-none (reverse (reverse whole.known)) ∙ reverse-reverse whole.known;
  sized = is.sized.sized;
  few = omega arith;
  anew = λ room. omega arith;
}

-- and behind the last
pub anew-ends : (whole : Whole) (old : Context) (base standing coded : ℕ) → IsWalkedAnew whole old base [] standing coded → RisesRebound whole old base whole.known coded
anew-ends whole old base standing coded walked = by walked.coming walked.all walked.sized
  where
    by : (coming : List Statement) → reverse coming ++ walked.earlier ≡ whole.known → AreSizedFrom whole.deck.kind walked.earlier standing (drop standing whole.cards) [] coming whole.deck.behind (reverse whole.others) → RisesRebound whole old base whole.known coded
    by [] all h = subst (λ (l : List Statement). RisesRebound whole old base l coded) all walked.anew
    by (given ∷ coming) all h = absurd h
