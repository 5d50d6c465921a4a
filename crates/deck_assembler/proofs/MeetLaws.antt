-- Where an old deck and an edited one agree, all that is left of the old one stays.
use Rattle.std.{proofs.Common.{◌≡◌, ℕ, ◌+◌, ◌-◌, ◌<◌, ◌≤◌, ◌⊎◌, inl, inr, Bool, true, false, List, [], ◌∷◌, ◌++◌, drop, length, refl, sym, ap, ◌∙◌, subst, arith, length-append}, specs.Prelude.{Option, Some, None, reverse}, proofs.lemmas.List.length-drop}
use Rattle.cards.specs.{Joins.Spans.statement_at, declared.statement_list.Span.Span}
use Rattle.definitions.specs.{Cards.Card, Settling.{View, settled_all}, Statements.Statement, declared.deck_kind.DeckKind.DeckKind}
use Rattle.deck_assembler.{specs.Joins.Agreements.{left, AreAlikeFrom, HasFront, HaveSameEnd, IsAgreeing, IsOfSameDeck}, specs.Joins.Formers.known_in, specs.Joins.Meetings.{GoesBehind, IsNextKnown, IsSoon, KeepsIf, WillAgree, WillAgreeAt}, specs.Joins.OldDecks.{AreKeptFrom, IsAtStage, IsInTail, IsKeptOn, IsOnSpan}, specs.Joins.SizedDecks.{IsSizedStatement, AreSizedFrom}, specs.Joins.Sizers.{stood, ahead, IsNext, IsSizer}, specs.Joins.Tails.{AreKeptAlike, HasTailIfAny, HasTailWithin, HaveOneTail, IsSettledAlike}, specs.Stays.IsAsBefore, specs.declared.old_deck.OldDeck.OldDeck, specs.declared.old_deck.Stage.Stage, specs.declared.sized_statement.SizedStatement.SizedStatement, specs.declared.sizer.Sizer.Sizer, proofs.AgreeLaws.tail-kept, proofs.ForwardLaws.stood-more, proofs.OldLaws.same-ahead, proofs.OntoLaws.{reverse-onto, rest-of}}
use Rattle.deck_assembler.specs.declared.old_deck.Stage.TheVariants as stages

pub meet-kept : (kind : DeckKind) (old cards : List Card) (earlier : List Statement) (sizer : Sizer) (deck : OldDeck) →
    IsSizer kind cards earlier sizer → deck.kind ≡ kind → (has : HasFront old (left deck) deck) → HaveSameEnd deck.behind old cards → stood earlier ≤ length cards →
    length deck.ahead.now ≡ length cards - stood earlier → length cards - stood earlier ≤ deck.behind → deck.state ≡ sizer.state → IsAgreeing deck sizer.symbols →
    AreKeptFrom kind cards earlier (stood earlier) (left deck) × AreKeptAlike kind cards earlier (stood earlier) has.front (left deck) has.later
meet-kept kind old cards earlier sizer deck sizer_is kinds has same here many few state agrees =
    let k = deck.kind in
    let is = subst (λ (k : DeckKind). IsSizer k cards earlier sizer) (sym kinds) sizer_is in
    let there = same-ahead deck.behind has.stood (stood earlier) old cards same has.within here (sym (length-drop has.stood old) ∙ ap length (sym has.ahead) ∙ many) few in
    let rest = subst (λ (l : List Card). AreSizedFrom k has.front has.stood l (left deck) has.later has.behind has.others) (sym has.ahead) has.rest in
    let alike = subst (λ (both : View × View). AreAlikeFrom k both.0 both.1 has.front (left deck) has.later) (λ i. (has.symbols i, is.symbols i))
    (agrees has.front has.stood has.later has.behind has.others rest) in
    subst (λ (k : DeckKind). AreKeptFrom k cards earlier (stood earlier) (left deck) × AreKeptAlike k cards earlier (stood earlier) has.front (left deck) has.later) kinds
    (tail-kept k cards (settled_all k has.front) (settled_all k earlier) [] [] has.front earlier has.stood (stood earlier) (drop has.stood old) (left deck) has.later has.behind has.others
    refl refl refl (sym has.state ∙ state ∙ is.state) there has.rest alike)

-- the next statement of a tail stays, and the others behind it
pub next-in-tail : (kind : DeckKind) (cards : List Card) (earlier : List Statement) (span : Span) (sized : SizedStatement) (later : List SizedStatement) →
    IsNext cards earlier span.count (statement_at cards span) → AreKeptFrom kind cards earlier (stood earlier) (sized ∷ later) → sized.cards ≡ span.count →
    let now = statement_at cards span ∷ earlier in
    IsSizedStatement kind earlier (stood earlier) (ahead cards earlier) sized (statement_at cards span) × AreKeptFrom kind cards now (stood now) later
next-in-tail kind cards earlier span sized later next kept count =
    let there : IsSizedStatement kind earlier (stood earlier) (ahead cards earlier) sized (statement_at cards span) × AreKeptFrom kind cards (statement_at cards span ∷ earlier) (stood earlier + span.count) later =
    subst (λ (s : Span). IsSizedStatement kind earlier (stood earlier) (ahead cards earlier) sized (statement_at cards s) × AreKeptFrom kind cards (statement_at cards s ∷ earlier) (stood earlier + s.count) later)
    (λ i. record { start = sym next.before i; count = count i }) kept in
    let more = stood-more earlier (statement_at cards span) (ahead cards earlier) span.count next.cards next.within in
    (there.0, subst (λ n. AreKeptFrom kind cards (statement_at cards span ∷ earlier) n later) more there.1)

-- and each since the decks agree is settled as it was
pub tail-next : (kind : DeckKind) (old cards : List Card) (earlier : List Statement) (span : Span) (deck new : OldDeck) (sized : SizedStatement) →
    IsNext cards earlier span.count (statement_at cards span) → IsInTail kind old cards earlier deck → left deck ≡ sized ∷ left new → new.ahead.now ≡ deck.ahead.now → sized.cards ≡ span.count →
    IsInTail kind old cards (statement_at cards span ∷ earlier) new
tail-next kind old cards earlier span deck new sized next is e same count = by is.later is.all (subst (λ l. AreKeptAlike kind cards earlier (stood earlier) is.passed l is.later) e is.alike)
  where
    given : Statement
    given = statement_at cards span

    here : IsSizedStatement kind earlier (stood earlier) (ahead cards earlier) sized given × AreKeptFrom kind cards (given ∷ earlier) (stood (given ∷ earlier)) (left new)
    here = next-in-tail kind cards earlier span sized (left new) next (subst (AreKeptFrom kind cards earlier (stood earlier)) e is.kept) count

    by : (later : List Statement) → reverse later ++ is.passed ≡ known_in old → AreKeptAlike kind cards earlier (stood earlier) is.passed (sized ∷ left new) later → IsInTail kind old cards (given ∷ earlier) new
    by [] all h = absurd h
    by (other ∷ later) all h =
        let moved : IsSettledAlike kind is.passed other earlier given × AreKeptAlike kind cards (given ∷ earlier) (stood earlier + span.count) (other ∷ is.passed) (left new) later =
        subst (λ (s : Span). IsSettledAlike kind is.passed other earlier (statement_at cards s) × AreKeptAlike kind cards (statement_at cards s ∷ earlier) (stood earlier + s.count) (other ∷ is.passed) (left new) later)
        (λ i. record { start = sym next.before i; count = count i }) h in
        let more = stood-more earlier given (ahead cards earlier) span.count next.cards next.within in
        let split = is.tail.split in
        record {
          kept = here.1;
          passed = other ∷ is.passed;
          later = later;
          all = reverse-onto other later is.passed ∙ all;
          tail = record {
            split = record { old_front = split.old_front; old_tail = other ∷ split.old_tail; new_front = split.new_front; new_tail = given ∷ split.new_tail };
            of_old = ap (λ l. other ∷ l) is.tail.of_old;
            of_new = ap (λ l. given ∷ l) is.tail.of_new;
            old_place = ap (λ (l : List Card). stood split.old_front + length l) same ∙ is.tail.old_place;
            new_place = ap (λ (l : List Card). stood split.new_front + length l) same ∙ is.tail.new_place;
            some = subst (λ (l : List Card). 0 < length l) (sym same) is.tail.some;
            alike = (subst (λ (both : List Statement × List Statement). IsSettledAlike kind both.0 other both.1 given) (λ i. (is.tail.of_old i, is.tail.of_new i)) moved.0, is.tail.alike);
          };
          alike = subst (λ n. AreKeptAlike kind cards (given ∷ earlier) n (other ∷ is.passed) (left new) later) more moved.1;
        }

-- it is settled as one of the old deck
pub tail-stays : (kind : DeckKind) (old cards : List Card) (earlier : List Statement) (span : Span) (deck : OldDeck) (sized : SizedStatement) (left' : List SizedStatement) →
    IsNext cards earlier span.count (statement_at cards span) → IsInTail kind old cards earlier deck → left deck ≡ sized ∷ left' → sized.cards ≡ span.count →
    IsSizedStatement kind earlier (stood earlier) (ahead cards earlier) sized (statement_at cards span) × IsAsBefore kind (known_in old) earlier (statement_at cards span)
tail-stays kind old cards earlier span deck sized left' next is e count = ((next-in-tail kind cards earlier span sized left' next (subst (AreKeptFrom kind cards earlier (stood earlier)) e is.kept) count).0, by is.later is.all (subst (λ l. AreKeptAlike kind cards earlier (stood earlier) is.passed l is.later) e is.alike))
  where
    by : (later : List Statement) → reverse later ++ is.passed ≡ known_in old → AreKeptAlike kind cards earlier (stood earlier) is.passed (sized ∷ left') later → IsAsBefore kind (known_in old) earlier (statement_at cards span)
    by [] all h = absurd h
    by (other ∷ later) all h = record {
      before = is.passed;
      other = other;
      behind = reverse later;
      of_old = reverse-onto other later is.passed ∙ all;
      alike = subst (λ (s : Span). IsSettledAlike kind is.passed other earlier (statement_at cards s)) (λ i. record { start = sym next.before i; count = count i }) h.0;
    }

-- the same deck goes on behind a statement
pub goes-on : (kind : DeckKind) (old cards : List Card) (earlier now : List Statement) (span : Span) (sizer : Sizer) (deck new : OldDeck) → IsOnSpan kind old cards earlier span sizer deck →
    IsOfSameDeck deck new → IsAtStage kind old cards now new new.stage → IsKeptOn kind old cards now new
goes-on kind old cards earlier now span sizer deck new on same standing = record {
  standing = standing;
  kinds = same.kind ∙ on.kept_on.kinds;
  same = subst (λ n. HaveSameEnd n old cards) (sym same.behind) on.kept_on.same;
}

-- where it agrees the old deck goes on with its tail
pub on-tail : (kind : DeckKind) (old cards : List Card) (earlier : List Statement) (span : Span) (sizer : Sizer) (deck passed new : OldDeck) → IsOnSpan kind old cards earlier span sizer deck →
    span.start + span.count ≤ length cards → HasFront old (left passed) passed → IsOfSameDeck deck passed → IsOfSameDeck passed new → left new ≡ left passed → new.ahead.now ≡ passed.ahead.now →
    length passed.ahead.now ≡ length cards - span.start → length cards - span.start ≤ passed.behind → passed.state ≡ sizer.state → IsAgreeing passed sizer.symbols → new.stage ≡ stages.Tail →
    IsOnSpan kind old cards earlier span sizer new
on-tail kind old cards earlier span sizer deck passed new on within has same there rest same_ahead many few state agrees stage =
    let start = on.next.before in
    let before = has.within in
    let own = ap length same_ahead ∙ ap length has.ahead ∙ length-drop has.stood old in
    let its = ap length same_ahead ∙ many in
    let place = has.place in
    let some = on.next.some in
    let kept = meet-kept kind old cards earlier sizer passed on.sizer_is (same.kind ∙ on.kept_on.kinds) has (subst (λ n. HaveSameEnd n old cards) (sym same.behind) on.kept_on.same) (omega (arith, start, within))
    (many ∙ ap (λ n. length cards - n) start) (subst (λ n. length cards - n ≤ passed.behind) start few) state agrees in
    record {
      sizer_is = on.sizer_is;
      next = on.next;
      kept_on = record {
        standing = subst (IsAtStage kind old cards earlier new) (sym stage) (record {
          kept = subst (AreKeptFrom kind cards earlier (stood earlier)) (sym rest) kept.0;
          passed = has.front;
          later = has.later;
          all = has.all;
          tail = record {
            split = record { old_front = has.front; old_tail = []; new_front = earlier; new_tail = [] };
            of_old = refl;
            of_new = refl;
            old_place = omega (arith, own, before, place);
            new_place = omega (arith, its, start, within);
            some = omega (arith, its, within, some);
            alike = tt;
          };
          alike = subst (λ l. AreKeptAlike kind cards earlier (stood earlier) has.front l has.later) (sym rest) kept.1;
        });
        kinds = there.kind ∙ same.kind ∙ on.kept_on.kinds;
        same = subst (λ n. HaveSameEnd n old cards) (sym (there.behind ∙ same.behind)) on.kept_on.same;
      };
    }

-- what is so behind a place where the decks meet is so of the deck between front and tail
pub stays-met : (cards : List Card) (span : Span) (sizer : Sizer) (deck tail new : OldDeck) (stays : Bool) → deck.stage ≡ stages.Between →
    ((kind : DeckKind) (old : List Card) (earlier : List Statement) → IsOnSpan kind old cards earlier span sizer deck → IsOnSpan kind old cards earlier span sizer tail) →
    ((kind : DeckKind) (old : List Card) (earlier : List Statement) (limit : ℕ) → IsOnSpan kind old cards earlier span sizer deck → IsNextKnown cards earlier span limit → WillAgree kind old cards limit earlier deck → WillAgree kind old cards limit earlier tail) →
    KeepsIf cards span sizer tail new stays → KeepsIf cards span sizer deck new stays
stays-met cards span sizer deck tail new stays between met agree keeps = by stays keeps
  where
    behind : (next : OldDeck) (found : Option SizedStatement) → GoesBehind cards span sizer tail next found → GoesBehind cards span sizer deck next found
    behind next found goes = record {
      on = λ kind old earlier on. goes.on kind old earlier (met kind old earlier on);
      front = λ kind old earlier on still.
          let front = still.stands.stage in
          absurd (cc);
      due = λ kind old earlier limit on known will. goes.due kind old earlier limit (met kind old earlier on) known (agree kind old earlier limit on known will);
    }

    by : (stays : Bool) → KeepsIf cards span sizer tail new stays → KeepsIf cards span sizer deck new stays
    by true first = record {
      some = first.some;
      that = λ sized rest e kind old earlier on. first.that sized rest e kind old earlier (met kind old earlier on);
      behind = λ sized next e pieces same. behind next (Some sized) (first.behind sized next e pieces same);
    }
    by false goes = behind new None goes

-- the tail that was kept, where the decks agree
pub tail-taken : (kind : DeckKind) (old cards : List Card) (earlier : List Statement) (deck : OldDeck) (count : ℕ) → IsKeptOn kind old cards earlier deck → (deck.stage ≡ stages.Tail → count ≡ length deck.ahead.now) →
    (count ≡ 0) ⊎ (deck.stage ≡ stages.Tail) → HasTailIfAny kind old cards count earlier
tail-taken kind old cards earlier deck count kept is either = elim either [
  | inl none ↦ inl none
  | inr stage ↦
      let there = subst (IsAtStage kind old cards earlier deck) stage kept.standing in
      inr (record { passed = there.passed; behind = reverse there.later; all = there.all; tail = subst (λ n. HaveOneTail kind old cards n there.passed earlier) (sym (is stage)) there.tail })
]

-- where the decks agree no more statements were taken than a limit
pub soon-begins : (cards : List Card) (limit : ℕ) (earlier : List Statement) (deck : OldDeck) → length earlier ≤ limit → stood earlier + length deck.ahead.now ≡ length cards → IsSoon cards limit earlier deck
soon-begins cards limit earlier deck few place = record {
  reached = omega (arith, place);
  soon = λ middle front e at. let whole = ap length e in let parts = length-append middle front in omega (arith, whole, parts, few);
}

pub soon-next : (cards : List Card) (limit : ℕ) (earlier : List Statement) (span : Span) (deck new : OldDeck) → IsNext cards earlier span.count (statement_at cards span) → new.ahead.now ≡ deck.ahead.now → IsSoon cards limit earlier deck →
    IsSoon cards limit (statement_at cards span ∷ earlier) new
soon-next cards limit earlier span deck new next same is =
    let more = stood-more earlier (statement_at cards span) (ahead cards earlier) span.count next.cards next.within in
    let some = next.some in
    let own = ap length same in
    let reached = is.reached in
    record { reached = omega (arith, more, own, reached); soon = by own more some reached }
  where
    by : length new.ahead.now ≡ length deck.ahead.now → stood earlier + span.count ≡ stood (statement_at cards span ∷ earlier) → 0 < span.count → length cards ≤ stood earlier + length deck.ahead.now →
        (middle front : List Statement) → statement_at cards span ∷ earlier ≡ middle ++ front → stood front + length new.ahead.now ≡ length cards → length front ≤ limit
    by own more some reached [] front e place = let all = ap (λ l. stood l) e in absurd (omega (arith, all, own, more, some, reached, place))
    by own more some reached (first ∷ middle) front e place = is.soon middle front (rest-of (statement_at cards span) first earlier (middle ++ front) e) (omega (arith, own, place))

-- the tail that was kept, where the decks agree in time
pub tail-within : (kind : DeckKind) (old cards : List Card) (earlier : List Statement) (deck : OldDeck) (count limit : ℕ) → IsKeptOn kind old cards earlier deck → deck.stage ≡ stages.Tail → count ≡ length deck.ahead.now →
    IsSoon cards limit earlier deck → HasTailWithin kind old cards count earlier limit
tail-within kind old cards earlier deck count limit kept stage is soon =
    let there = subst (IsAtStage kind old cards earlier deck) stage kept.standing in
    record {
      tail = record {
        passed = there.passed;
        behind = reverse there.later;
        all = there.all;
        tail = record {
          split = there.tail.split;
          of_old = there.tail.of_old;
          of_new = there.tail.of_new;
          old_place = ap (λ n. stood there.tail.split.old_front + n) is ∙ there.tail.old_place;
          new_place = ap (λ n. stood there.tail.split.new_front + n) is ∙ there.tail.new_place;
          some = subst (λ n. 0 < n) (sym is) there.tail.some;
          alike = there.tail.alike;
        };
      };
      within = soon.soon there.tail.split.new_tail there.tail.split.new_front there.tail.of_new there.tail.new_place;
    }

-- at the end the decks were found to agree, where they are in time
pub ends-in-tail : (kind : DeckKind) (old cards : List Card) (limit : ℕ) (earlier : List Statement) (deck : OldDeck) (stage : Stage) → earlier ≡ known_in cards → limit < length (known_in cards) → WillAgreeAt kind old cards limit earlier deck stage →
    (stage ≡ stages.Tail) × IsSoon cards limit earlier deck
ends-in-tail kind old cards limit earlier deck stages.Front all more will =
    let few = will.agree.new_front [] earlier (sym all) will.within in
    let is = will.limit_is in
    absurd (omega (arith, few, is, more))
ends-in-tail kind old cards limit earlier deck stages.Between all more will =
    let whole = ap length all in
    let reached = will.reached in
    let due = will.due in
    absurd (omega (arith, whole, reached, due, more))
ends-in-tail kind old cards limit earlier deck stages.Tail all more will = (refl, will.1)
ends-in-tail kind old cards limit earlier deck stages.Over all more will = absurd will
