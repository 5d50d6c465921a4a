-- Where the decks of two edits agree one after the other, the deck before both agrees with the one behind them.
use Rattle.std.{proofs.Common.{◌≡◌, ◌+◌, ◌-◌, ◌<◌, ◌≤◌, inl, inr, ℕ, List, [], ◌∷◌, ◌++◌, take, drop, min, length, refl, sym, ap, ◌∙◌, subst, arith, append_assoc, length-append, take-append-drop}, specs.Prelude.map, specs.List.AllByRecursion, proofs.lemmas.Bool.cases_lt, proofs.lemmas.List.length-drop}
use Rattle.definitions.{specs.Statements.{Statement, cards_in}, specs.DeckKinds.kind_of_statements, specs.Laws.Edits.{Edited, Split, DoAgree}, specs.Settled.{Settled, defined}, specs.Settling.{View, settled_all}, specs.Laws.States.state_after, specs.Laws.Agreement.{Agree, early_symbols, settled_tail, unnumbered, AgreeOnTail, HaveSameCards}, proofs.EditLaws.{agreement-lasts, cards_in-append}, proofs.NamesLaws.{all-front, all-behind}, proofs.StateSteps.settled_all-in_use, proofs.TailLaws.tails-agree}
use Rattle.deck_assembler.proofs.AgreementLaws.{between}

-- the same cards as the same cards
same-cards : (first second third : List Statement) → HaveSameCards first second → HaveSameCards second third → HaveSameCards first third
same-cards [] [] [] h g = tt
same-cards [] [] (three ∷ third) h g = absurd g
same-cards [] (two ∷ second) third h g = absurd h
same-cards (one ∷ first) [] third h g = absurd h
same-cards (one ∷ first) (two ∷ second) [] h g = absurd g
same-cards (one ∷ first) (two ∷ second) (three ∷ third) h g = (h.0 ∙ g.0, same-cards first second third h.1 g.1)

-- tails of the same cards have as many statements
pub same-count : (tail other : List Statement) → HaveSameCards tail other → length tail ≡ length other
same-count [] [] h = refl
same-count [] (second ∷ other) h = absurd h
same-count (first ∷ tail) [] h = absurd h
same-count (first ∷ tail) (second ∷ other) h = let more = same-count tail other h.1 in omega (arith, more)

-- views that agree with the same view
agree-both : (u v w : View) (names : List (List ℕ)) → Agree u v names → Agree v w names → Agree u w names
agree-both u v w [] h g = tt
agree-both u v w (name ∷ names) h g = (h.0 ∙ g.0, agree-both u v w names h.1 g.1)

-- two views agree on what a settled statement needs early
abbrev AgreesEarly : View → View → Settled → Type 0
AgreesEarly v w settled = Agree v w (early_symbols settled.read)

-- of all statements that are the same but for their numbers
early-both : (u v w : View) (first second : List Settled) → map unnumbered first ≡ map unnumbered second → AllByRecursion (AgreesEarly u v) first → AllByRecursion (AgreesEarly v w) second → AllByRecursion (AgreesEarly u w) first
early-both u v w [] second e h g = tt
early-both u v w (one ∷ first) [] e h g = cc
early-both u v w (one ∷ first) (two ∷ second) e h g =
    let here : unnumbered one ≡ unnumbered two = cc in
    let rest : map unnumbered first ≡ map unnumbered second = cc in
    (agree-both u v w (early_symbols one.read) h.0 (subst (AgreesEarly v w) (sym here) g.0), early-both u v w first second rest h.1 g.1)

-- the decks before two edits and behind them: so many cards stand before the cards that they are of, and so many behind
pub record AreJoined (first second both : Edited) : Type 0 where
  pub of_old : both.old ≡ first.old
  pub between : first.new ≡ second.old
  pub of_new : both.new ≡ second.new

-- where the decks agree behind one front of the deck between, they agree behind the fronts before it and behind it
pub agree-joined : (first second both : Edited) (old_front old_tail front tail new_front new_tail : List Statement) → AreJoined first second both →
    DoAgree first (record { old_front = old_front; old_tail = old_tail; new_front = front; new_tail = tail }) →
    DoAgree second (record { old_front = front; old_tail = tail; new_front = new_front; new_tail = new_tail }) →
    both.old_behind ≤ length (cards_in old_front) → both.new_behind ≤ length (cards_in new_front) →
    length (cards_in old_front) + both.new_behind ≡ length (cards_in new_front) + both.old_behind →
    DoAgree both (record { old_front = old_front; old_tail = old_tail; new_front = new_front; new_tail = new_tail })
agree-joined first second both old_front old_tail front tail new_front new_tail are one two old_reaches new_reaches place =
    let kind = kind_of_statements both.new in
    let last : kind_of_statements second.new ≡ kind = ap kind_of_statements (sym are.of_new) in
    let middle : kind_of_statements first.new ≡ kind = ap kind_of_statements are.between ∙ two.kinds ∙ last in
    let states = subst (λ k. state_after (settled_all k old_front) ≡ state_after (settled_all k front)) middle one.states in
    let early = subst (λ k. AgreeOnTail k (settled_all k old_front) (settled_all k front) old_tail) middle one.early in
    let alike = tails-agree kind (settled_all kind old_front) (settled_all kind front) old_tail tail (settled_all-in_use kind old_front) (settled_all-in_use kind front) states one.tail.same_cards early in
    record {
      tail = record {
        of_old = are.of_old ∙ one.tail.of_old;
        of_new = are.of_new ∙ two.tail.of_new;
        old_reaches = old_reaches;
        new_reaches = new_reaches;
        same_place = place;
        same_cards = same-cards old_tail tail new_tail one.tail.same_cards two.tail.same_cards;
      };
      kinds = ap kind_of_statements are.of_old ∙ one.kinds ∙ middle;
      states = states ∙ subst (λ k. state_after (settled_all k front) ≡ state_after (settled_all k new_front)) last two.states;
      early = early-both (λ name. defined name (settled_all kind old_front)) (λ name. defined name (settled_all kind front)) (λ name. defined name (settled_all kind new_front))
          (settled_tail kind (settled_all kind old_front) old_tail) (settled_tail kind (settled_all kind front) tail) alike.0 early
          (subst (λ k. AgreeOnTail k (settled_all k front) (settled_all k new_front) tail) last two.early);
    }

-- each statement has a card
abbrev pub HaveCards : List Statement → Type 0
HaveCards statements = AllByRecursion (λ (statement : Statement). 0 < length statement.cards) statements

-- so there are no more of them than cards
few-cards : (statements : List Statement) → HaveCards statements → length statements ≤ length (cards_in statements)
few-cards [] h = omega arith
few-cards (statement ∷ earlier) h =
    let rest = few-cards earlier h.1 in
    let own = h.0 in
    let parts = length-append (cards_in earlier) statement.cards in
    omega (arith, rest, own, parts)

-- of two fronts of a deck one has no more statements than the other and the cards between
pub fronts-apart : (deck behind front later other : List Statement) → HaveCards deck → deck ≡ behind ++ front → deck ≡ later ++ other →
    length front ≤ length other + (length (cards_in front) - length (cards_in other))
fronts-apart deck behind front later other have e f = elim (cases_lt (length other) (length front)) [
  | inr few ↦ omega (arith, few)
  | inl more ↦
      let whole = ap length (sym e ∙ f) in
      let parts = length-append behind front in
      let others = length-append later other in
      let found = between later other behind front (sym f ∙ e) (omega (arith, more, whole, parts, others)) in
      let front_is = found.of_earlier in
      let own = few-cards found.middle (all-front (λ (statement : Statement). 0 < length statement.cards) found.middle other
      (subst HaveCards front_is (all-behind (λ (statement : Statement). 0 < length statement.cards) behind front (subst HaveCards e have)))) in
      let count = ap length front_is in
      let count_parts = length-append found.middle other in
      let cards = ap (λ (l : List Statement). length (cards_in l)) front_is in
      let cards_parts = cards_in-append found.middle other in
      omega (arith, own, count, count_parts, cards, cards_parts)
]

-- decks agree behind this front of the new deck
pub record AgreesBehindNew (decks : Edited) (split : Split) (front later : List Statement) : Type 0 where
  pub old_front : List Statement
  pub old_tail : List Statement
  pub agree : DoAgree decks (record { old_front = old_front; old_tail = old_tail; new_front = front; new_tail = later })

-- as they do behind one that is no longer
pub lasts-in-new : (decks : Edited) (split : Split) (later front : List Statement) → DoAgree decks split → decks.new ≡ later ++ front → length split.new_front ≤ length front → AgreesBehindNew decks split front later
lasts-in-new decks split later front agree is longer =
    let whole = ap length (sym agree.tail.of_new ∙ is) in
    let parts = length-append split.new_tail split.new_front in
    let others = length-append later front in
    let found = between split.new_tail split.new_front later front (sym agree.tail.of_new ∙ is) (omega (arith, longer, whole, parts, others)) in
    let n = length split.old_tail - length found.middle in
    let same = same-count split.old_tail split.new_tail agree.tail.same_cards in
    let count = ap length found.of_first in
    let count_parts = length-append later found.middle in
    let rest = length-drop n split.old_tail in
    let lasts = agreement-lasts decks split (take n split.old_tail) (drop n split.old_tail) later found.middle (sym (take-append-drop n split.old_tail)) found.of_first (omega (arith, same, count, count_parts, rest)) agree in
    record {
      old_front = drop n split.old_tail ++ split.old_front;
      old_tail = take n split.old_tail;
      agree = subst (λ (l : List Statement). DoAgree decks (record { old_front = drop n split.old_tail ++ split.old_front; old_tail = take n split.old_tail; new_front = l; new_tail = later })) (sym found.of_earlier) lasts;
    }

-- decks agree behind this front of the old deck, and in the new one that is as much longer
pub record AgreesBehindOld (decks : Edited) (split : Split) (front later : List Statement) : Type 0 where
  pub new_front : List Statement
  pub new_tail : List Statement
  pub agree : DoAgree decks (record { old_front = front; old_tail = later; new_front = new_front; new_tail = new_tail })
  pub longer : length new_front + length split.old_front ≡ length front + length split.new_front

pub lasts-in-old : (decks : Edited) (split : Split) (later front : List Statement) → DoAgree decks split → decks.old ≡ later ++ front → length split.old_front ≤ length front → AgreesBehindOld decks split front later
lasts-in-old decks split later front agree is longer =
    let whole = ap length (sym agree.tail.of_old ∙ is) in
    let parts = length-append split.old_tail split.old_front in
    let others = length-append later front in
    let found = between split.old_tail split.old_front later front (sym agree.tail.of_old ∙ is) (omega (arith, longer, whole, parts, others)) in
    let n = length split.new_tail - length found.middle in
    let same = same-count split.old_tail split.new_tail agree.tail.same_cards in
    let count = ap length found.of_first in
    let count_parts = length-append later found.middle in
    let rest = length-drop n split.new_tail in
    let lasts = agreement-lasts decks split later found.middle (take n split.new_tail) (drop n split.new_tail) found.of_first (sym (take-append-drop n split.new_tail)) (omega (arith, same, count, count_parts, rest)) agree in
    let front_count = ap length found.of_earlier in
    let front_parts = length-append found.middle split.old_front in
    let new_parts = length-append (drop n split.new_tail) split.new_front in
    record {
      new_front = drop n split.new_tail ++ split.new_front;
      new_tail = take n split.new_tail;
      agree = subst (λ (l : List Statement). DoAgree decks (record { old_front = l; old_tail = later; new_front = drop n split.new_tail ++ split.new_front; new_tail = take n split.new_tail })) (sym found.of_earlier) lasts;
      longer = omega (arith, front_count, front_parts, new_parts, same, count, count_parts, rest);
    }

-- the shorter of two fronts of a deck, which is a front of what one of them is a front of
pub record HasShorter (first second third : List Statement) (front other : List Statement) : Type 0 where
  pub shorter : List Statement
  pub of_first : (behind : List Statement) × (first ≡ behind ++ shorter)
  pub of_third : (behind : List Statement) × (third ≡ behind ++ shorter)
  pub in_front : (behind : List Statement) × (front ≡ behind ++ shorter)
  pub in_other : (behind : List Statement) × (other ≡ behind ++ shorter)
  pub least : length shorter ≡ min (length front) (length other)

pub shorter-of : (first second third front other : List Statement) →
    (behind : List Statement) × (first ≡ behind ++ front) → (behind : List Statement) × (second ≡ behind ++ front) →
    (behind : List Statement) × (second ≡ behind ++ other) → (behind : List Statement) × (third ≡ behind ++ other) → HasShorter first second third front other
shorter-of first second third front other one two three four = elim (cases_lt (length other) (length front)) [
  | inl more ↦
      let whole = ap length (sym two.1 ∙ three.1) in
      let parts = length-append two.0 front in
      let others = length-append three.0 other in
      let found = between three.0 other two.0 front (sym three.1 ∙ two.1) (omega (arith, more, whole, parts, others)) in
      record {
        shorter = other;
        of_first = (one.0 ++ found.middle, one.1 ∙ ap (λ (l : List Statement). one.0 ++ l) found.of_earlier ∙ sym (append_assoc one.0 found.middle other));
        of_third = four;
        in_front = (found.middle, found.of_earlier);
        in_other = ([], refl);
        least = omega (arith, more);
      }
  | inr enough ↦
      let whole = ap length (sym two.1 ∙ three.1) in
      let parts = length-append two.0 front in
      let others = length-append three.0 other in
      let found = between two.0 front three.0 other (sym two.1 ∙ three.1) (omega (arith, enough, whole, parts, others)) in
      record {
        shorter = front;
        of_first = one;
        of_third = (four.0 ++ found.middle, four.1 ∙ ap (λ (l : List Statement). four.0 ++ l) found.of_earlier ∙ sym (append_assoc four.0 found.middle front));
        in_front = ([], refl);
        in_other = (found.middle, found.of_earlier);
        least = omega (arith, enough);
      }
]
