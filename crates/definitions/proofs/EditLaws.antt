-- Where two decks agree, they agree behind as many statements more of both.
use Rattle.std.{proofs.Common.{◌≡◌, ◌+◌, ℕ, suc, List, [], ◌∷◌, ◌++◌, length, refl, sym, ap, ap₂, ◌∙◌, subst, arith, append_assoc, length-append}, specs.Prelude.map, specs.List.AllByRecursion}
use Rattle.definitions.{specs.Statements.{Statement, cards_in}, specs.DeckKinds.kind_of_statements, specs.Settled.{Settled, defined}, specs.Settling.{settle, settled_all}, specs.Laws.States.state_after, specs.Laws.Agreement.{early_symbols, Agree, unnumbered, settled_tail, HaveSameCards, AgreeOnTail}, specs.Laws.Edits.{Edited, Split, DoAgree}, specs.declared.deck_kind.DeckKind.DeckKind, proofs.NamesLaws.{all-front, all-behind}, proofs.StateSteps.settled_all-in_use, proofs.TailLaws.{views-agree, tails-agree, settled_all-append}}

-- tails of the same cards have as many statements
same_cards-lengths : (tail other : List Statement) → HaveSameCards tail other → length tail ≡ length other
same_cards-lengths [] [] h = refl
same_cards-lengths [] (second ∷ other) h = absurd h
same_cards-lengths (statement ∷ tail) [] h = absurd h
same_cards-lengths (statement ∷ tail) (second ∷ other) h = ap suc (same_cards-lengths tail other h.1)

-- and as many cards
same_cards-counts : (tail other : List Statement) → HaveSameCards tail other → length (cards_in tail) ≡ length (cards_in other)
same_cards-counts [] [] h = refl
same_cards-counts [] (second ∷ other) h = absurd h
same_cards-counts (statement ∷ tail) [] h = absurd h
same_cards-counts (statement ∷ tail) (second ∷ other) h =
    length-append (cards_in tail) statement.cards
    ∙ ap₂ (λ (a b : ℕ). a + b) (same_cards-counts tail other h.1) (ap length h.0)
    ∙ sym (length-append (cards_in other) second.cards)

-- the cards of statements, and of those before them
pub cards_in-append : (behind front : List Statement) → length (cards_in (behind ++ front)) ≡ length (cards_in behind) + length (cards_in front)
cards_in-append [] front = omega arith
cards_in-append (statement ∷ behind) front =
    let whole = length-append (cards_in (behind ++ front)) statement.cards in
    let more = length-append (cards_in behind) statement.cards in
    let rest = cards_in-append behind front in
    omega (arith, whole, more, rest)

-- tails of the same cards, cut behind as many statements
pub same_cards-cut : (tail middle other beyond : List Statement) → length middle ≡ length beyond → HaveSameCards (tail ++ middle) (other ++ beyond) →
    HaveSameCards tail other × HaveSameCards middle beyond
same_cards-cut [] middle [] beyond e h = (tt, h)
same_cards-cut [] middle (second ∷ other) beyond e h =
    let n = same_cards-lengths middle (second ∷ (other ++ beyond)) h in
    let m = length-append other beyond in
    absurd (omega (arith, e, n, m))
same_cards-cut (statement ∷ tail) middle [] beyond e h =
    let n = same_cards-lengths (statement ∷ (tail ++ middle)) beyond h in
    let m = length-append tail middle in
    absurd (omega (arith, e, n, m))
same_cards-cut (statement ∷ tail) middle (second ∷ other) beyond e h =
    let rest = same_cards-cut tail middle other beyond e h.1 in ((h.0, rest.0), rest.1)

-- the statements of a tail are those behind its first ones, and these
settled_tail-append : (kind : DeckKind) (earlier : List Settled) (middle tail : List Statement) →
    settled_tail kind earlier (tail ++ middle) ≡ settled_tail kind (settled_tail kind earlier middle ++ earlier) tail ++ settled_tail kind earlier middle
settled_tail-append kind earlier middle [] = refl
settled_tail-append kind earlier middle (statement ∷ tail) =
    let first = settled_tail kind earlier middle in
    let behind = settled_tail kind (first ++ earlier) tail in
    ap (λ list. settle kind (list ++ earlier) statement ∷ list) (settled_tail-append kind earlier middle tail)
    ∙ ap (λ list. settle kind list statement ∷ (behind ++ first)) (append_assoc behind first earlier)

-- behind the same statements lists go on to agree on what statements need early
early-later : (middle beyond earlier before statements : List Settled) → map unnumbered middle ≡ map unnumbered beyond →
    AllByRecursion (λ (settled : Settled). Agree (λ name. defined name earlier) (λ name. defined name before) (early_symbols settled.read)) statements →
    AllByRecursion (λ (settled : Settled). Agree (λ name. defined name (middle ++ earlier)) (λ name. defined name (beyond ++ before)) (early_symbols settled.read)) statements
early-later middle beyond earlier before [] same h = tt
early-later middle beyond earlier before (settled ∷ statements) same h =
    (views-agree (early_symbols settled.read) middle beyond earlier before same h.0, early-later middle beyond earlier before statements same h.1)

-- agreement behind so many statements more
pub agreement-lasts : (decks : Edited) (split : Split) (old_tail old_middle new_tail new_middle : List Statement) →
    split.old_tail ≡ old_tail ++ old_middle → split.new_tail ≡ new_tail ++ new_middle → length old_middle ≡ length new_middle → DoAgree decks split →
    DoAgree decks (record { old_front = old_middle ++ split.old_front; old_tail = old_tail; new_front = new_middle ++ split.new_front; new_tail = new_tail })
agreement-lasts decks split old_tail old_middle new_tail new_middle e f n agree =
    let kind = kind_of_statements decks.new in
    let earlier = settled_all kind split.old_front in
    let before = settled_all kind split.new_front in
    let first = settled_tail kind earlier old_middle in
    let second = settled_tail kind before new_middle in
    let P : Settled → Type 0 = λ (settled : Settled). Agree (λ name. defined name earlier) (λ name. defined name before) (early_symbols settled.read) in
    let cut = same_cards-cut old_tail old_middle new_tail new_middle n (subst (λ (both : List Statement × List Statement). HaveSameCards both.0 both.1) (λ i. (e i, f i)) agree.tail.same_cards) in
    let early : AllByRecursion P (settled_tail kind (first ++ earlier) old_tail ++ first) =
    subst (AllByRecursion P) (settled_tail-append kind earlier old_middle old_tail) (subst (AgreeOnTail kind earlier before) e agree.early) in
    let alike = tails-agree kind earlier before old_middle new_middle (settled_all-in_use kind split.old_front) (settled_all-in_use kind split.new_front) agree.states cut.1
    (all-behind P (settled_tail kind (first ++ earlier) old_tail) first early) in
    let ends = early-later first second earlier before (settled_tail kind (first ++ earlier) old_tail) alike.0 (all-front P (settled_tail kind (first ++ earlier) old_tail) first early) in
    let count = same_cards-counts old_middle new_middle cut.1 in
    let old_cards = cards_in-append old_middle split.old_front in
    let new_cards = cards_in-append new_middle split.new_front in
    let old_before = agree.tail.old_reaches in
    let new_before = agree.tail.new_reaches in
    let place = agree.tail.same_place in
    record {
      tail = record {
        of_old = agree.tail.of_old ∙ ap (λ list. list ++ split.old_front) e ∙ append_assoc old_tail old_middle split.old_front;
        of_new = agree.tail.of_new ∙ ap (λ list. list ++ split.new_front) f ∙ append_assoc new_tail new_middle split.new_front;
        old_reaches = omega (arith, old_cards, old_before);
        new_reaches = omega (arith, new_cards, new_before);
        same_place = omega (arith, old_cards, new_cards, count, place);
        same_cards = cut.0;
      };
      kinds = agree.kinds;
      states = ap state_after (settled_all-append kind old_middle split.old_front) ∙ alike.1 ∙ ap state_after (sym (settled_all-append kind new_middle split.new_front));
      early = subst (λ (both : List Settled × List Settled). AgreeOnTail kind both.0 both.1 old_tail)
          (λ i. (sym (settled_all-append kind old_middle split.old_front) i, sym (settled_all-append kind new_middle split.new_front) i)) ends;
    }
