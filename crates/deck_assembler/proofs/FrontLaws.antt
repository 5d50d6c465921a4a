-- Statements that stand untouched in front of two decks stay as they were sized, so that nothing is counted for them.
use Rattle.std.{proofs.Common.{◌≡◌, ℕ, suc, ◌+◌, ◌<◌, ◌≤◌, inl, inr, false, List, [], ◌∷◌, ◌++◌, drop, get_or, length, sym, ap, ◌∙◌, subst, arith, length-append, length-take-le}, specs.Prelude.reverse, proofs.lemmas.Bool.cases_lt}
use Rattle.cards.specs.{Joins.Spans.statement_at, declared.statement_list.Span.Span}
use Rattle.definitions.{specs.Cards.Card, specs.DeckKinds.{has_end, up_to_end}, specs.Laws.Edits.{Edited, IsUntouched}, specs.Statements.{Statement, cards_in, statements_of}, specs.declared.deck_kind.DeckKind.DeckKind, proofs.EditLaws.cards_in-append}
use Rattle.deck_assembler.{specs.Joins.Agreements.left, specs.Joins.FirstStatements.{first_statements, all_statements}, specs.Joins.Formers.known_in, specs.Joins.OldDecks.{IsAtStage, IsInFront, IsOnSpan, GoesOn, StandsInFront}, specs.Joins.SizedDecks.AreSizedFrom, specs.Joins.Sizers.{stood, ahead}, specs.declared.old_deck.OldDeck.OldDeck, specs.declared.sized_statement.SizedStatement.SizedStatement, specs.declared.sizer.Sizer.Sizer, proofs.EndLaws.{length-first, open-at}, proofs.ForwardLaws.stood-more, proofs.OldLaws.{all-next, has-next}}
use Rattle.deck_assembler.specs.declared.old_deck.Stage.TheVariants as stages

rest-same : (a b : Statement) (x y : List Statement) → a ∷ x ≡ b ∷ y → x ≡ y
rest-same a b x y e = cc

first-same : (a b : Statement) (x : List Statement) → a ∷ x ≡ b ∷ x → a ≡ b
first-same a b x e = cc

-- statements in front, and one more
record HasMore (front earlier : List Statement) (statement : Statement) : Type 0 where
  middle : List Statement
  is : front ≡ middle ++ statement ∷ earlier

-- a front that has more statements than these has the next one
has-more : (later behind front earlier : List Statement) (statement : Statement) → later ++ statement ∷ earlier ≡ behind ++ front → length earlier < length front → HasMore front earlier statement
has-more later [] front earlier statement e longer = record { middle = later; is = sym e }
has-more [] (first ∷ behind) front earlier statement e longer =
    let whole = ap length e in
    let parts = length-append behind front in
    absurd (omega (arith, whole, parts, longer))
has-more (last ∷ later) (first ∷ behind) front earlier statement e longer =
    has-more later behind front earlier statement (rest-same last first (later ++ statement ∷ earlier) (behind ++ front) e) longer

-- behind as many statements two are one
same-statement : (middle other earlier : List Statement) (a b : Statement) → middle ++ a ∷ earlier ≡ other ++ b ∷ earlier → a ≡ b
same-statement [] [] earlier a b e = first-same a b earlier e
same-statement [] (first ∷ other) earlier a b e =
    let whole = ap length e in
    let parts = length-append other (b ∷ earlier) in
    absurd (omega (arith, whole, parts))
same-statement (first ∷ middle) [] earlier a b e =
    let whole = ap length e in
    let parts = length-append middle (a ∷ earlier) in
    absurd (omega (arith, whole, parts))
same-statement (first ∷ middle) (last ∷ other) earlier a b e = same-statement middle other earlier a b (rest-same first last (middle ++ a ∷ earlier) (other ++ b ∷ earlier) e)

-- where an untouched front has more statements than these, the next one of both decks is one of it, and ends before the edited card
pub next-untouched : (decks : Edited) (front earlier later others : List Statement) (a b : Statement) → IsUntouched decks front → decks.old ≡ later ++ a ∷ earlier → decks.new ≡ others ++ b ∷ earlier →
    length earlier < length front → (a ≡ b) × (length (cards_in (a ∷ earlier)) ≤ decks.before)
next-untouched decks front earlier later others a b is old new longer =
    let first = has-more later is.of_old.0 front earlier a (sym old ∙ is.of_old.1) longer in
    let second = has-more others is.of_new.0 front earlier b (sym new ∙ is.of_new.1) longer in
    let few = is.unchanged in
    let whole = ap (λ (l : List Statement). length (cards_in l)) first.is in
    let parts = cards_in-append first.middle (a ∷ earlier) in
    (same-statement first.middle second.middle earlier a b (sym first.is ∙ second.is), omega (arith, few, whole, parts))

-- an untouched front has no more statements than the old deck, nor than the new one
pub untouched-few : (decks : Edited) (front : List Statement) → IsUntouched decks front → (length front ≤ length decks.old) × (length front ≤ length decks.new)
untouched-few decks front is =
    let old = ap length is.of_old.1 in
    let old_parts = length-append is.of_old.0 front in
    let new = ap length is.of_new.1 in
    let new_parts = length-append is.of_new.0 front in
    (omega (arith, old, old_parts), omega (arith, new, new_parts))

-- what is left of the old deck stands in front, where a front goes on
goes-in-front : (kind : DeckKind) (old cards : List Card) (earlier : List Statement) (span : Span) (sizer : Sizer) (deck : OldDeck) (sized : List SizedStatement) → IsOnSpan kind old cards earlier span sizer deck →
    GoesOn old cards earlier span deck → left deck ≡ sized → IsInFront old cards earlier sized deck
goes-in-front kind old cards earlier span sizer deck sized on goes e =
    subst (λ l. IsInFront old cards earlier l deck) e (subst (IsAtStage kind old cards earlier deck) goes.stands.stage on.kept_on.standing)

-- a front does not go on where nothing of the old deck is left
pub goes-no-more : (kind : DeckKind) (old cards : List Card) (earlier : List Statement) (span : Span) (sizer : Sizer) (deck : OldDeck) → IsOnSpan kind old cards earlier span sizer deck → GoesOn old cards earlier span deck → left deck ≡ [] → ⊥
goes-no-more kind old cards earlier span sizer deck on goes none = by here.later here.all here.rest
  where
    here : IsInFront old cards earlier [] deck
    here = goes-in-front kind old cards earlier span sizer deck [] on goes none

    by : (later : List Statement) → reverse later ++ earlier ≡ known_in old → AreSizedFrom deck.kind earlier (stood earlier) (drop (stood earlier) old) [] later here.behind here.others → ⊥
    by [] all are =
        let few = (untouched-few goes.stands.decks goes.front goes.stands.untouched).0 in
        let same = ap length goes.stands.of_old in
        let whole = ap length all in
        let longer = goes.longer in
        omega (arith, few, same, whole, longer)
    by (statement ∷ later) all are = are

-- where a front goes on, the next statement of the old deck has the cards of the span, and ends before the edited card
pub goes-within : (kind : DeckKind) (old cards : List Card) (earlier : List Statement) (span : Span) (sizer : Sizer) (deck : OldDeck) (sized : SizedStatement) (later : List SizedStatement) →
    IsOnSpan kind old cards earlier span sizer deck → GoesOn old cards earlier span deck → left deck ≡ sized ∷ later → (sized.cards ≡ span.count) × (span.start + span.count ≤ deck.before)
goes-within kind old cards earlier span sizer deck sized later on goes e =
    let stands = goes.stands in
    let given : Statement = statement_at cards span in
    let n = stood earlier in
    let here = goes-in-front kind old cards earlier span sizer deck (sized ∷ later) on goes e in
    let nx = has-next deck.kind earlier n (drop n old) sized later here.later here.behind here.others here.rest in
    let all = all-next deck.kind earlier n (drop n old) sized later here.later here.behind here.others here.rest ∙ here.all in
    let both = next-untouched stands.decks goes.front earlier (reverse nx.statements) goes.others nx.statement given stands.untouched (stands.of_old ∙ sym all) stands.of_new goes.longer in
    let own : length nx.statement.cards ≡ sized.cards = ap length (sym nx.is.cards) ∙ length-take-le sized.cards (drop n old) nx.is.within in
    let its : length given.cards ≡ span.count = ap length (sym on.next.cards) ∙ length-take-le span.count (ahead cards earlier) on.next.within in
    let same : length nx.statement.cards ≡ length given.cards = ap (λ (s : Statement). length s.cards) both.0 in
    let few = both.1 in
    let before = stands.before in
    let more = stood-more earlier nx.statement (drop n old) sized.cards nx.is.cards nx.is.within in
    let start : span.start ≡ n = on.next.before in
    (omega (arith, own, its, same), omega (arith, own, its, same, few, before, more, start))

-- so many statements of an edited deck were taken, of which those of an untouched front are not counted
pub record IsFrontTaken (count : ℕ) (front : List Statement) (deck now : OldDeck) (sized so_far : ℕ) : Type 0 where
  pub few : count ≤ length front → (now.stage ≡ stages.Front) × ((now.before ≡ deck.before) × (so_far ≡ sized))
  pub many : length front ≤ count → length front + so_far ≤ sized + count

-- the front goes on with the next statement as long as some of it are left
pub goes-at : (of cards : List Card) (spans : List Span) (count : ℕ) (span : Span) (front : List Statement) (deck now : OldDeck) (sized so_far : ℕ) → count < length spans → has_end (first_statements cards spans count) ≡ false →
    StandsInFront of (up_to_end (all_statements cards spans)) front deck → IsFrontTaken count front deck now sized so_far → count < length front → GoesOn of cards (first_statements cards spans count) (get_or spans count span) now
goes-at of cards spans count span front deck now sized so_far within unended stands taken less =
    let there = open-at cards spans count span within unended in
    let here = taken.few (omega (arith, less)) in
    let own = length-first cards spans count (omega (arith, within)) in
    record {
      others = there.0;
      front = front;
      stands = record {
        decks = stands.decks;
        untouched = stands.untouched;
        of_old = stands.of_old;
        of_new = stands.of_new ∙ there.1;
        before = subst (λ n. stands.decks.before ≤ n) (sym here.1.0) stands.before;
        stage = here.0;
      };
      longer = omega (arith, own, less);
    }

-- and is no longer than the edited deck
pub stands-few : (of : List Card) (new front : List Statement) (deck : OldDeck) → StandsInFront of new front deck → length front ≤ length new
stands-few of new front deck stands =
    let few = (untouched-few stands.decks front stands.untouched).1 in
    let same = ap length stands.of_new in
    omega (arith, few, same)

-- one statement more
pub front-more : (count : ℕ) (front : List Statement) (deck now next : OldDeck) (sized so_far more : ℕ) → IsFrontTaken count front deck now sized so_far → more ≤ so_far + 1 →
    (count < length front → (next.stage ≡ stages.Front) × ((next.before ≡ now.before) × (more ≡ so_far))) → IsFrontTaken (count + 1) front deck next sized more
front-more count front deck now next sized so_far more taken one step = record {
  few = λ h.
      let here = step (omega (arith, h)) in
      let there = taken.few (omega (arith, h)) in
      (here.0, (here.1.0 ∙ there.1.0, here.1.1 ∙ there.1.1));
  many = λ h. elim (cases_lt count (length front)) [
    | inl less ↦ let here = (step less).1.1 in let there = (taken.few (omega (arith, less))).1.1 in omega (arith, h, here, there)
    | inr enough ↦ let there = taken.many enough in omega (arith, one, there)
  ];
}

-- at any time no more is counted than the statements behind an untouched front
pub front-bound : (count all : ℕ) (front : List Statement) (deck now : OldDeck) (sized so_far more : ℕ) → IsFrontTaken count front deck now sized so_far → more ≤ so_far + 1 → (count < length front → more ≡ so_far) →
    suc count ≤ all → length front ≤ all → length front + more ≤ all + sized
front-bound count all front deck now sized so_far more taken one step within few = elim (cases_lt count (length front)) [
  | inl less ↦ let here = step less in let there = (taken.few (omega (arith, less))).1.1 in omega (arith, here, there, few)
  | inr enough ↦ let there = taken.many enough in omega (arith, one, there, within)
]

-- and so at the end
pub front-end : (count all : ℕ) (front : List Statement) (deck now : OldDeck) (sized so_far : ℕ) → IsFrontTaken count front deck now sized so_far → count ≡ all → length front ≤ all → length front + so_far ≤ all + sized
front-end count all front deck now sized so_far taken e few = let there = taken.many (omega (arith, e, few)) in omega (arith, e, there)

-- of the cards of an edited deck
pub front-in : (of cards : List Card) (spans : List Span) (front : List Statement) (deck : OldDeck) (now before : ℕ) → all_statements cards spans ≡ statements_of (reverse cards) →
    (StandsInFront of (up_to_end (all_statements cards spans)) front deck → length front + now ≤ length (up_to_end (all_statements cards spans)) + before) →
    StandsInFront of (known_in cards) front deck → length front + now ≤ length (known_in cards) + before
front-in of cards spans front deck now before e bound stands =
    subst (λ (l : List Statement). length front + now ≤ length (up_to_end l) + before) e (bound (subst (λ (l : List Statement). StandsInFront of (up_to_end l) front deck) (sym e) stands))

-- where nothing is counted
pub front-still : (decks : Edited) (front : List Statement) (count : ℕ) → IsUntouched decks front → length front + count ≤ length decks.new + count
front-still decks front count is = let few = (untouched-few decks front is).1 in omega (arith, few)

pub stands-still : (of : List Card) (new front : List Statement) (deck : OldDeck) (count : ℕ) → StandsInFront of new front deck → length front + count ≤ length new + count
stands-still of new front deck count stands = let few = stands-few of new front deck stands in omega (arith, few)

-- where the kinds are one, an untouched front stands in front of the old deck that is left
pub front-stands : (old cards : List Card) (decks : Edited) (front : List Statement) (deck : OldDeck) (now before : ℕ) → decks.old ≡ known_in old → decks.new ≡ known_in cards → decks.before ≤ deck.before → deck.stage ≡ stages.Front →
    IsUntouched decks front → (StandsInFront old (known_in cards) front deck → length front + now ≤ length (known_in cards) + before) → length front + now ≤ length decks.new + before
front-stands old cards decks front deck now before e f few stage is bound =
    let there = bound (record { decks = decks; untouched = is; of_old = e; of_new = f; before = few; stage = stage }) in
    let same = ap length f in
    omega (arith, there, same)
