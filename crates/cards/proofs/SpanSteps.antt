-- Steps over the cards of a deck, whose statements are spans.
use Rattle.std.{proofs.Common.{◌≡◌, ℕ, ◌+◌, ◌-◌, ◌≤◌, ◌<◌, zero, suc, List, [], ◌∷◌, ◌++◌, Bool, true, false, length, take, drop, get_or, refl, sym, ap, ◌∙◌, arith, reverse}, specs.Prelude.{nat_lt, nat_le, ◌&&◌, if◌then◌else◌}, specs.List.AllByRecursion, proofs.lemmas.Bool.{lt-ltb, leb-true, ltb-true}, proofs.lemmas.List.{map_push, reverse-append, take_more, get_or-drop, length-reverse, length-take-le, length-drop}}
use Rattle.definitions.specs.{Cards.{Card, is_comma_card}, Statements.{Statement, statements_of, onto_latest, continues}}
use Rattle.cards.{specs.declared.statement_list.Span.Span, specs.declared.statement_list.Before.Before, specs.Joins.Befores.{before_of, with_card, is_continued_by}, specs.Joins.Spans.{IsSpan, statement_at, statements_at, with_last}, proofs.BeforeSteps.{before_of-more, few-more}}

-- the first `k` cards, newest first
abbrev pub first_cards : List Card → ℕ → List Card
first_cards cards k = reverse (take k cards)

-- the spans, and the last one that began at `start`, are the statements of the first `k` cards
pub record IsSplit (cards : List Card) (spans : List Span) (start k : ℕ) (before : Before) : Type 0 where
  pub begun : 0 < k → start < k
  pub few : before.comma_cards ≤ k
  pub stands_before : before ≡ before_of (first_cards cards k)
  pub split : reverse (statements_at cards (with_last spans start k)) ≡ statements_of (first_cards cards k)

abbrev span_of : ℕ → ℕ → Span
span_of start end = record { start = start; count = end - start }

abbrev statement : ℕ → List Card → Statement
statement before cards = record { before = before; cards = cards }

-- a list that grows at its end, read from there
reverse-push : {X : Type 0} → (xs : List X) (x : X) → reverse (xs ++ x ∷ []) ≡ x ∷ reverse xs
reverse-push xs x = reverse-append xs (x ∷ [])

-- one card more
first_cards-more : (cards : List Card) (k : ℕ) (card : Card) → k < length cards → card ≡ get_or cards k card → first_cards cards (k + 1) ≡ card ∷ first_cards cards k
first_cards-more cards k card within is =
    ap reverse (take_more cards k card within ∙ ap (λ c. take k cards ++ c ∷ []) (sym is)) ∙ reverse-push (take k cards) card

-- the last span is the latest statement
split-with_last : (cards : List Card) (spans : List Span) (start end : ℕ) → start < end →
    reverse (statements_at cards (with_last spans start end)) ≡ statement_at cards (span_of start end) ∷ reverse (statements_at cards spans)
split-with_last cards spans start end some =
    ap (λ b. reverse (statements_at cards (if b then spans ++ span_of start end ∷ [] else spans))) (lt-ltb start end some)
    ∙ ap reverse (map_push (statement_at cards) spans (span_of start end))
    ∙ reverse-push (statements_at cards spans) (statement_at cards (span_of start end))

-- a span that grows by one card
taken-more : (cards : List Card) (start k : ℕ) (card : Card) → start ≤ k → k < length cards → card ≡ get_or cards k card →
    take (k + 1 - start) (drop start cards) ≡ take (k - start) (drop start cards) ++ card ∷ []
taken-more cards start k card begun within is =
    ap (λ n. take n (drop start cards)) (let e : k + 1 - start ≡ (k - start) + 1 = omega arith in e)
    ∙ take_more (drop start cards) (k - start) card (omega (arith, length-drop start cards))
    ∙ ap (λ c. take (k - start) (drop start cards) ++ c ∷ []) (get_or-drop start cards (k - start) card ∙ ap (λ n. get_or cards n card) (let e : start + (k - start) ≡ k = omega arith in e) ∙ sym is)

-- a statement of one card
taken-one : (cards : List Card) (k : ℕ) (card : Card) → k < length cards → card ≡ get_or cards k card → take (k + 1 - k) (drop k cards) ≡ card ∷ []
taken-one cards k card within is =
    taken-more cards k k card (omega arith) within is ∙ ap (λ n. take n (drop k cards) ++ card ∷ []) (let e : k - k ≡ 0 = omega arith in e)

length-first_cards : (cards : List Card) (k : ℕ) → k ≤ length cards → length (first_cards cards k) ≡ k
length-first_cards cards k within = length-reverse (take k cards) ∙ length-take-le k cards within

statements_of-begins : (earlier : List Card) (card : Card) → continues earlier card ≡ false → statements_of (card ∷ earlier) ≡ statement (length earlier) (card ∷ []) ∷ statements_of earlier
statements_of-begins earlier card is = rw is refl

statements_of-continues : (earlier : List Card) (card : Card) → continues earlier card ≡ true → statements_of (card ∷ earlier) ≡ onto_latest card (statements_of earlier)
statements_of-continues earlier card is = rw is refl

-- no card is continued where none is
some_before : (cards : List Card) (k : ℕ) (card : Card) (b : Bool) → is_comma_card card ≡ b → continues (first_cards cards k) card ≡ true → 0 < k
some_before cards zero card true is e = cc
some_before cards zero card false is e = cc
some_before cards (suc k) card b is e = omega arith

continues-is : (cards : List Card) (k : ℕ) (card : Card) (before : Before) (b : Bool) → before ≡ before_of (first_cards cards k) → is_continued_by before card ≡ b → continues (first_cards cards k) card ≡ b
continues-is cards k card before b stands is = ap (λ s. is_continued_by s card) (sym stands) ∙ is

stands-more : (cards : List Card) (k : ℕ) (card : Card) (before : Before) → k < length cards → card ≡ get_or cards k card → before ≡ before_of (first_cards cards k) → with_card card before ≡ before_of (first_cards cards (k + 1))
stands-more cards k card before within is stands =
    ap (with_card card) stands ∙ before_of-more (first_cards cards k) card ∙ ap before_of (sym (first_cards-more cards k card within is))

-- a card that begins a statement
pub IsSplit-begins : (cards : List Card) (spans : List Span) (start k : ℕ) (before : Before) (card : Card) → k < length cards → card ≡ get_or cards k card →
    is_continued_by before card ≡ false → IsSplit cards spans start k before → IsSplit cards (with_last spans start k) k (k + 1) (with_card card before)
IsSplit-begins cards spans start k before card within is alone so_far = record {
  begun = λ h. omega arith;
  few = few-more before card k so_far.few;
  stands_before = stands-more cards k card before within is so_far.stands_before;
  split =
      split-with_last cards (with_last spans start k) k (k + 1) (omega arith)
      ∙ ap (λ l. statement k l ∷ reverse (statements_at cards (with_last spans start k))) (taken-one cards k card within is)
      ∙ ap (λ l. statement k (card ∷ []) ∷ l) so_far.split
      ∙ ap (λ n. statement n (card ∷ []) ∷ statements_of (first_cards cards k)) (sym (length-first_cards cards k (omega arith)))
      ∙ sym (statements_of-begins (first_cards cards k) card (continues-is cards k card before false so_far.stands_before alone))
      ∙ ap statements_of (sym (first_cards-more cards k card within is));
}

-- a card that belongs to the statement before it
pub IsSplit-continues : (cards : List Card) (spans : List Span) (start k : ℕ) (before : Before) (card : Card) → k < length cards → card ≡ get_or cards k card →
    is_continued_by before card ≡ true → IsSplit cards spans start k before → IsSplit cards spans start (k + 1) (with_card card before)
IsSplit-continues cards spans start k before card within is continued so_far =
    let goes_on : continues (first_cards cards k) card ≡ true = continues-is cards k card before true so_far.stands_before continued in
    let some : start < k = so_far.begun (some_before cards k card (is_comma_card card) refl goes_on) in
    record {
      begun = λ h. omega arith;
      few = few-more before card k so_far.few;
      stands_before = stands-more cards k card before within is so_far.stands_before;
      split =
          split-with_last cards spans start (k + 1) (omega arith)
          ∙ ap (λ l. statement start l ∷ reverse (statements_at cards spans)) (taken-more cards start k card (omega arith) within is)
          ∙ ap (onto_latest card) (sym (split-with_last cards spans start k some) ∙ so_far.split)
          ∙ sym (statements_of-continues (first_cards cards k) card goes_on)
          ∙ ap statements_of (sym (first_cards-more cards k card within is));
    }

-- the spans so far are short, and so is the one that is open
pub record IsShort (spans : List Span) (start k : ℕ) (before : Before) : Type 0 where
  pub open_few : k - start ≤ 10
  pub open_comma : before.has_owner ≡ true → before.comma_cards ≤ 8 → k - start ≤ before.comma_cards + 1
  pub closed : AllByRecursion (IsSpan k) spans

more_cards : (k m : ℕ) (spans : List Span) → k ≤ m → AllByRecursion (IsSpan k) spans → AllByRecursion (IsSpan m) spans
more_cards k m [] h all = tt
more_cards k m (span ∷ spans) h all =
    (record { some = all.0.some; few = all.0.few; within = let w : span.start + span.count ≤ k = all.0.within in omega arith }, more_cards k m spans h all.1)

push_span : (limit : ℕ) (spans : List Span) (span : Span) → AllByRecursion (IsSpan limit) spans → IsSpan limit span → AllByRecursion (IsSpan limit) (spans ++ span ∷ [])
push_span limit [] span all one = (one, tt)
push_span limit (first ∷ spans) span all one = (all.0, push_span limit spans span all.1 one)

closed-with_last : (spans : List Span) (start k : ℕ) (b : Bool) → nat_lt start k ≡ b → k - start ≤ 10 → AllByRecursion (IsSpan k) spans → AllByRecursion (IsSpan k) (with_last spans start k)
closed-with_last spans start k true e few all =
    let some : start < k = ltb-true start k e in
    rw e (push_span k spans (span_of start k) all (record { some = omega arith; few = few; within = omega arith }))
closed-with_last spans start k false e few all = rw e all

pub IsShort-begins : (spans : List Span) (start k : ℕ) (before : Before) (card : Card) → IsShort spans start k before → IsShort (with_last spans start k) k (k + 1) (with_card card before)
IsShort-begins spans start k before card h = record {
  open_few = omega arith;
  open_comma = λ o c. omega arith;
  closed = more_cards k (k + 1) (with_last spans start k) (omega arith) (closed-with_last spans start k (nat_lt start k) refl h.open_few h.closed);
}

and_parts : (a b c : Bool) → (a && b && c) ≡ true → (a ≡ true) × (b ≡ true) × (c ≡ true)
and_parts true true c e = (refl, refl, e)
and_parts true false c e = cc
and_parts false b c e = cc

pub IsShort-continues : (spans : List Span) (start k : ℕ) (before : Before) (card : Card) → is_continued_by before card ≡ true → IsShort spans start k before → IsShort spans start (k + 1) (with_card card before)
IsShort-continues spans start k before card is h =
    let parts = and_parts (is_comma_card card) before.has_owner (nat_le before.comma_cards 8) is in
    let few : before.comma_cards ≤ 8 = leb-true before.comma_cards 8 parts.2 in
    let opened : k - start ≤ before.comma_cards + 1 = h.open_comma parts.1 few in
    let next : with_card card before ≡ record { comma_cards = before.comma_cards + 1; has_owner = before.has_owner } = rw parts.0 refl in
    rw next (record {
      open_few = omega arith;
      open_comma = λ o c. omega arith;
      closed = more_cards k (k + 1) spans (omega arith) h.closed;
    })
