-- An edited deck is found to agree with the old one in time: one statement after the other.
use Rattle.std.{proofs.Common.{◌≡◌, ℕ, suc, ◌+◌, ◌-◌, ◌<◌, ◌≤◌, inl, inr, ◌⊎◌, List, [], ◌∷◌, ◌++◌, drop, get_or, false, length, refl, sym, ap, ap₂, ◌∙◌, subst, arith, append_assoc, length-append, length-take-le}, specs.List.AllByRecursion, specs.Prelude.{reverse, map}, proofs.lemmas.Bool.cases_lt, proofs.lemmas.List.{length-drop, length-reverse, reverse-append, reverse-reverse, map-append}}
use Rattle.cards.specs.{Joins.Spans.statement_at, declared.statement_list.Span.Span}
use Rattle.definitions.{specs.Cards.Card, specs.DeckKinds.{has_end, up_to_end}, specs.Settled.defined, specs.Settling.{View, settled_all}, specs.Statements.{Statement, cards_in, statements_of}, specs.Laws.States.state_after, specs.Laws.Agreement.HaveSameCards, specs.declared.deck_kind.DeckKind.DeckKind, proofs.EditLaws.cards_in-append}
use Rattle.deck_assembler.{specs.Joins.Agreements.{left, DoesAgree, HasFront, StandAlike}, specs.Joins.DeckParts.{DeckPiece, sized_in}, specs.Joins.FirstSymbols.symbol_in, specs.Joins.FirstStatements.first_statements, specs.Joins.Formers.known_in, specs.Joins.Meetings.{cards_of, IsBounded, IsNextOf, IsShort, HasPiece, AreMeeting, AgreeFrom, WillAgreeLater, WillMeet, IsCutAlike, IsNextKnown}, specs.Joins.OldDecks.IsInFront, specs.Joins.SizedDecks.{AreFilled, AreSizedFrom}, specs.Joins.Sizers.{stood, ahead, IsNext, IsSizer}, specs.declared.old_deck.OldDeck.OldDeck, specs.declared.sized_statement.SizedStatement.SizedStatement, specs.declared.sizer.Sizer.Sizer, proofs.AlikeLaws.sized_in-append, proofs.CutLaws.{behind-same, cut-alike, known-open}, proofs.EndLaws.open-at, proofs.FrontLaws.IsFrontTaken, proofs.PieceMeetings.{at-piece, chosen, left-piece, sized-cut, sized-length, sized-some}}

-- so many statements of the edited deck are left behind these
pub next-count : (cards : List Card) (earlier : List Statement) (span : Span) (limit : ℕ) (next : IsNextKnown cards earlier span limit) → length (known_in cards) ≡ suc (length next.others) + length earlier
next-count cards earlier span limit next =
    let whole = ap length next.all in
    let parts = length-append next.others (statement_at cards span ∷ earlier) in
    omega (arith, whole, parts)

-- and these stand in front of them
pub next-all : (cards : List Card) (earlier : List Statement) (span : Span) (limit : ℕ) (next : IsNextKnown cards earlier span limit) → known_in cards ≡ (next.others ++ statement_at cards span ∷ []) ++ earlier
next-all cards earlier span limit next = next.all ∙ sym (append_assoc next.others (statement_at cards span ∷ []) earlier)

-- where an agreement is ahead, as many statements are left of the edited deck at least
rest-ahead : (kind : DeckKind) (old cards : List Card) (limit : ℕ) (earlier : List Statement) (span : Span) (deck : OldDeck) (will : WillAgreeLater kind old cards limit earlier deck) →
    IsNextKnown cards earlier span limit → length earlier + will.rest ≤ length (known_in cards)
rest-ahead kind old cards limit earlier span deck will next =
    let few = will.agree.new_front (next.others ++ statement_at cards span ∷ []) earlier (next-all cards earlier span limit next) will.within in
    let parts = length-append next.others (statement_at cards span ∷ []) in
    let whole = next-count cards earlier span limit next in
    omega (arith, few, parts, whole)

-- in the front there is time left
pub time-in-front : (kind : DeckKind) (old cards : List Card) (limit : ℕ) (earlier : List Statement) (span : Span) (deck : OldDeck) → WillAgreeLater kind old cards limit earlier deck →
    IsNextKnown cards earlier span limit → length earlier < limit
time-in-front kind old cards limit earlier span deck will next =
    let few = rest-ahead kind old cards limit earlier span deck will next in
    let is = will.limit_is in
    omega (arith, few, is)

-- some of the old deck is left
pub front-left-over : (kind : DeckKind) (old cards : List Card) (limit : ℕ) (earlier : List Statement) (span : Span) (deck : OldDeck) → WillAgreeLater kind old cards limit earlier deck → IsNextKnown cards earlier span limit →
    IsInFront old cards earlier [] deck → ⊥
front-left-over kind old cards limit earlier span deck will next front = by front.later front.all front.rest
  where
    by : (later : List Statement) → reverse later ++ earlier ≡ known_in old → AreSizedFrom deck.kind earlier (stood earlier) (drop (stood earlier) old) [] later front.behind front.others → ⊥
    by [] all are =
        let few = will.agree.old_front [] earlier (sym all) will.within in
        let is = will.limit_is in
        let more = next.more in
        omega (arith, few, is, more)
    by (statement ∷ later) all are = are

-- a front goes on behind a statement that ends before the edited card
pub front-due : (kind : DeckKind) (old cards : List Card) (limit : ℕ) (earlier : List Statement) (span : Span) (deck next new : OldDeck) (sized : SizedStatement) → WillAgreeLater kind old cards limit earlier deck →
    IsNextOf deck next sized → new.statements.items ≡ next.statements.items → new.pieces.items ≡ next.pieces.items → new.before ≡ deck.before → new.behind ≡ deck.behind →
    stood (statement_at cards span ∷ earlier) ≤ deck.before → WillAgreeLater kind old cards limit (statement_at cards span ∷ earlier) new
front-due kind old cards limit earlier span deck next new sized will is begun pieces before behind within = by is
  where
    made : length next.statements.items < 128 → AllByRecursion IsShort next.pieces.items → WillAgreeLater kind old cards limit (statement_at cards span ∷ earlier) new
    made few short = record {
      begun = subst (λ (l : List SizedStatement). length l < 128) (sym begun) few;
      short = subst (AllByRecursion IsShort) (sym pieces) short;
      within = subst (λ n. stood (statement_at cards span ∷ earlier) ≤ n) (sym before) within;
      rest = will.rest;
      agree = subst (λ (both : ℕ × ℕ). AgreeFrom kind old cards both.0 both.1 will.rest) (λ i. (sym before i, sym behind i)) will.agree;
      limit_is = will.limit_is;
    }

    by : IsNextOf deck next sized → WillAgreeLater kind old cards limit (statement_at cards span ∷ earlier) new
    by (inl both) = made (let few = will.begun in let whole = ap length both.0 in omega (arith, few, whole)) (subst (AllByRecursion IsShort) both.1 will.short)
    by (inr piece) =
        let short = subst (AllByRecursion IsShort) piece.1.1 will.short in
        made (let few = short.0 in let whole = ap length piece.1.2 in omega (arith, few, whole)) short.1

-- what is short of the old deck behind its next statement
pub record IsShortBehind (next : OldDeck) : Type 0 where
  pub begun : length next.statements.items < 128
  pub short : AllByRecursion IsShort next.pieces.items

pub short-behind : (kind : DeckKind) (old cards : List Card) (limit : ℕ) (earlier : List Statement) (deck next : OldDeck) (sized : SizedStatement) → WillAgreeLater kind old cards limit earlier deck → IsNextOf deck next sized → IsShortBehind next
short-behind kind old cards limit earlier deck next sized will (inl both) =
    record { begun = (let few = will.begun in let whole = ap length both.0 in omega (arith, few, whole)); short = subst (AllByRecursion IsShort) both.1 will.short }
short-behind kind old cards limit earlier deck next sized will (inr piece) =
    let short = subst (AllByRecursion IsShort) piece.1.1 will.short in
    record { begun = (let few = short.0 in let whole = ap length piece.1.2 in omega (arith, few, whole)); short = short.1 }

-- where the front is left, a piece of the old deck is ahead where the decks agree
pub meet-later : (kind : DeckKind) (old cards : List Card) (limit : ℕ) (earlier : List Statement) (span : Span) (deck new : OldDeck) → WillAgreeLater kind old cards limit earlier deck →
    IsNextKnown cards earlier span limit → IsShortBehind new → (sized : SizedStatement) → IsInFront old cards earlier (sized ∷ left new) deck → new.behind ≡ deck.behind → HasFront old (left new) new →
    WillMeet kind old cards limit (statement_at cards span ∷ earlier) new
meet-later kind old cards limit earlier span deck new will next short sized front behind has =
    let rest = will.rest in
    let more = next.more in
    let limit_is = will.limit_is in
    let ahead_of = rest-ahead kind old cards limit earlier span deck will next in
    let old_rest = will.agree.old_front (reverse front.later) earlier (sym front.all) will.within in
    let back = length-reverse front.later in
    let many = sized-length deck.kind earlier (stood earlier) (drop (stood earlier) old) (sized ∷ left new) front.later front.behind front.others front.rest in
    let parts = length-append new.statements.items (sized_in new.pieces.items) in
    let begun = short.begun in
    let choice = chosen new.pieces.items rest short.short (omega (arith, more, limit_is)) (omega (arith, old_rest, back, many, parts, begun)) in
    let tail = sized_in choice.others in
    let first = new.statements.items ++ sized_in choice.passed in
    let split : left new ≡ first ++ tail =
    ap (λ (l : List DeckPiece). new.statements.items ++ sized_in l) choice.split ∙ ap (λ (l : List SizedStatement). new.statements.items ++ l) (sized_in-append choice.passed choice.others)
    ∙ sym (append_assoc new.statements.items (sized_in choice.passed) tail) in
    let are = subst (λ (l : List SizedStatement). AreSizedFrom new.kind has.front has.stood (drop has.stood old) l has.later has.behind has.others) split has.rest in
    let cut = sized-cut new.kind has.front has.stood (drop has.stood old) first tail has.later has.behind has.others are in
    let count = length new.ahead.now - cards_of first in
    let in_cards = ap length has.ahead in
    let left_cards = length-drop has.stood old in
    let few_cards = cut.cards in
    let place = cut.place in
    let from = has.place in
    let within = has.within in
    let tail_length : length tail ≡ length (reverse cut.rest) =
    sized-length new.kind cut.front (has.stood + cards_of first) (drop (cards_of first) (drop has.stood old)) tail cut.rest has.behind has.others cut.are ∙ sym (length-reverse cut.rest) in
    let chosen_behind = choice.behind in
    let meets = will.agree.meets (reverse cut.rest) cut.front tail count (sym (cut.all ∙ has.all)) (omega (arith, tail_length, chosen_behind)) tail_length
    (omega (arith, in_cards, left_cards, few_cards, place, from, within)) in
    let whole = meets.whole in
    let near = choice.near in
    record {
      tail = tail;
      count = count;
      piece = record { passed = choice.passed; pieces = choice.others; split = choice.split; tail_is = refl; cards = omega (arith, in_cards, left_cards, few_cards) };
      has = record { front = meets.front; meeting = subst (λ n. AreMeeting kind old cards n tail count meets.front) (sym behind) meets.meeting; whole = whole };
      reached = omega (arith, whole, chosen_behind, ahead_of);
      due = omega (arith, whole, near, limit_is);
    }

-- of two fronts of one deck the longer one has the other
record IsLonger (front earlier : List Statement) : Type 0 where
  middle : List Statement
  is : front ≡ middle ++ earlier

first-of : {X : Type 0} (a b : X) (x y : List X) → a ∷ x ≡ b ∷ y → a ≡ b
first-of a b x y e = cc

rest-of : {X : Type 0} (a b : X) (x y : List X) → a ∷ x ≡ b ∷ y → x ≡ y
rest-of a b x y e = cc

longer : (later behind front earlier : List Statement) → later ++ front ≡ behind ++ earlier → length earlier ≤ length front → IsLonger front earlier
longer [] behind front earlier e few = record { middle = behind; is = e }
longer (last ∷ later) [] front earlier e few =
    let whole = ap length e in
    let parts = length-append later front in
    absurd (omega (arith, whole, parts, few))
longer (last ∷ later) (first ∷ behind) front earlier e few = longer later behind front earlier (rest-of last first (later ++ front) (behind ++ earlier) e) few

-- as long as the other it is that
longer-same : (front earlier : List Statement) → IsLonger front earlier → length front ≡ length earlier → front ≡ earlier
longer-same front earlier is e = by is.middle is.is
  where
    by : (middle : List Statement) → front ≡ middle ++ earlier → front ≡ earlier
    by [] e' = e'
    by (statement ∷ middle) e' =
        let whole = ap length e' in
        let parts = length-append middle earlier in
        absurd (omega (arith, whole, parts, e))

-- the front of a meeting that is not reached
meeting-longer : (kind : DeckKind) (old cards : List Card) (limit : ℕ) (earlier : List Statement) (span : Span) (deck : OldDeck) (will : WillMeet kind old cards limit earlier deck) → IsNextKnown cards earlier span limit →
    IsLonger will.has.front earlier
meeting-longer kind old cards limit earlier span deck will next =
    let stands = will.has.meeting.stands in
    longer stands.0 (next.others ++ statement_at cards span ∷ []) will.has.front earlier (sym stands.1 ∙ next-all cards earlier span limit next) will.reached

-- no fewer cards are left at the meeting than behind a span that comes before
pub meeting-ahead : (kind : DeckKind) (old cards : List Card) (limit : ℕ) (earlier : List Statement) (span : Span) (deck : OldDeck) (will : WillMeet kind old cards limit earlier deck) → IsNextKnown cards earlier span limit →
    will.count + stood earlier ≤ length cards
meeting-ahead kind old cards limit earlier span deck will next =
    let is = meeting-longer kind old cards limit earlier span deck will next in
    let whole = ap (λ (l : List Statement). length (cards_in l)) is.is in
    let parts = cards_in-append is.middle earlier in
    let cards_are = will.has.meeting.place in
    omega (arith, whole, parts, cards_are)

-- where as many statements are taken as stand in front of the meeting, it is here
pub meeting-here : (kind : DeckKind) (old cards : List Card) (limit : ℕ) (earlier : List Statement) (span : Span) (deck : OldDeck) (will : WillMeet kind old cards limit earlier deck) → IsNextKnown cards earlier span limit →
    length will.has.front ≡ length earlier → will.has.front ≡ earlier
meeting-here kind old cards limit earlier span deck will next same =
    longer-same will.has.front earlier (meeting-longer kind old cards limit earlier span deck will next) same

-- some of the edited deck is left at the meeting, so some of the old one is, too
pub meeting-left : (kind : DeckKind) (old cards : List Card) (limit : ℕ) (earlier : List Statement) (span : Span) (deck : OldDeck) (will : WillMeet kind old cards limit earlier deck) → IsNextKnown cards earlier span limit →
    (passed : OldDeck) → HasPiece passed will.tail will.count → 0 < length (left passed)
meeting-left kind old cards limit earlier span deck will next passed piece =
    let more = next.more in
    let due = will.due in
    let whole = will.has.whole in
    let split = ap length (left-piece passed will.tail will.count piece) in
    let parts = length-append (passed.statements.items ++ sized_in piece.passed) will.tail in
    omega (arith, more, due, whole, split, parts)

abbrev count_of : Statement → ℕ
count_of statement = length statement.cards

abbrev sized_count : SizedStatement → ℕ
sized_count sized = sized.cards

-- statements that were sized, by their cards
sized-counts : (kind : DeckKind) (earlier : List Statement) (stood : ℕ) (ahead : List Card) (sized : List SizedStatement) (statements : List Statement) (behind : List ℕ) (others : List Statement) →
    AreSizedFrom kind earlier stood ahead sized statements behind others → map sized_count sized ≡ map count_of statements
sized-counts kind earlier stood ahead [] [] behind others are = refl
sized-counts kind earlier stood ahead [] (statement ∷ statements) behind others are = absurd are
sized-counts kind earlier stood ahead (sized ∷ later) [] behind others are = absurd are
sized-counts kind earlier stood ahead (sized ∷ later) (statement ∷ statements) behind others are =
    ap₂ (λ (n : ℕ) (l : List ℕ). n ∷ l) (sym (ap length (sym are.0.cards) ∙ length-take-le sized.cards ahead are.0.within))
    (sized-counts kind (statement ∷ earlier) (stood + sized.cards) (drop sized.cards ahead) later statements behind others are.1)

same-counts : (a b : List Statement) → HaveSameCards a b → map count_of a ≡ map count_of b
same-counts [] [] h = refl
same-counts [] (second ∷ b) h = absurd h
same-counts (first ∷ a) [] h = absurd h
same-counts (first ∷ a) (second ∷ b) h = ap₂ (λ (n : ℕ) (l : List ℕ). n ∷ l) (ap length h.0) (same-counts a b h.1)

map-back : (a : List Statement) → map count_of (reverse a) ≡ reverse (map count_of a)
map-back [] = refl
map-back (statement ∷ a) =
    ap (map count_of) (reverse-append (statement ∷ []) a) ∙ map-append count_of (reverse a) (statement ∷ []) ∙ ap (λ (l : List ℕ). l ++ count_of statement ∷ []) (map-back a)
    ∙ sym (reverse-append (count_of statement ∷ []) (map count_of a))

-- where the decks meet, what is left is cut alike
pub meet-cut : (old cards : List Card) (earlier : List Statement) (span : Span) (limit : ℕ) (passed : OldDeck) → IsNextKnown cards earlier span limit → HasFront old (left passed) passed → 0 < length (left passed) →
    passed.ahead.now ≡ ahead cards earlier → IsCutAlike cards earlier passed
meet-cut old cards earlier span limit passed next has some same = by has.later has.all has.rest
  where
    others : List Statement
    others = next.others ++ statement_at cards span ∷ []

    by : (later : List Statement) → reverse later ++ has.front ≡ known_in old → AreSizedFrom passed.kind has.front has.stood (drop has.stood old) (left passed) later has.behind has.others → IsCutAlike cards earlier passed
    by [] all are =
        let none = sized-length passed.kind has.front has.stood (drop has.stood old) (left passed) [] has.behind has.others are in absurd (omega (arith, none, some))
    by (statement ∷ later) all are =
        let unended = known-open (statements_of (reverse old)) (reverse later) has.front statement (sym all ∙ ap (λ (l : List Statement). l ++ has.front) (reverse-append (statement ∷ []) later)) in
        let cards_same = ap (λ n. drop n old) (sym has.place) ∙ sym has.ahead ∙ same in
        let alike = cut-alike old cards (reverse (statement ∷ later)) has.front others earlier (sym all) (next-all cards earlier span limit next) unended next.unended cards_same in
        record {
          later = reverse others;
          all = next-all cards earlier span limit next ∙ ap (λ (l : List Statement). l ++ earlier) (sym (reverse-reverse others));
          counts = sized-counts passed.kind has.front has.stood (drop has.stood old) (left passed) (statement ∷ later) has.behind has.others are
              ∙ ap (map count_of) (sym (reverse-reverse (statement ∷ later))) ∙ map-back (reverse (statement ∷ later))
              ∙ ap reverse (same-counts (reverse (statement ∷ later)) others alike) ∙ sym (map-back others);
        }

-- the next statement where what is left is cut alike
pub record IsNextAlike (cards : List Card) (earlier : List Statement) (span : Span) (sized : List SizedStatement) : Type 0 where
  pub later : List Statement
  pub all : known_in cards ≡ reverse later ++ statement_at cards span ∷ earlier
  pub counts : map (λ (s : SizedStatement). s.cards) sized ≡ length (statement_at cards span).cards ∷ map (λ (s : Statement). length s.cards) later

pub next-cut : (cards : List Card) (earlier : List Statement) (span : Span) (limit : ℕ) (deck : OldDeck) → IsNextKnown cards earlier span limit → IsCutAlike cards earlier deck → IsNextAlike cards earlier span (left deck)
next-cut cards earlier span limit deck next cut =
    let given : Statement = statement_at cards span in
    let others = next.others ++ given ∷ [] in
    let back : cut.later ≡ given ∷ reverse next.others =
    sym (reverse-reverse cut.later) ∙ ap reverse (behind-same (reverse cut.later) others earlier (sym cut.all ∙ next-all cards earlier span limit next)) ∙ reverse-append next.others (given ∷ []) in
    record {
      later = reverse next.others;
      all = next.all ∙ ap (λ (l : List Statement). l ++ given ∷ earlier) (sym (reverse-reverse next.others));
      counts = cut.counts ∙ ap (map count_of) back;
    }

-- there is one
pub next-some : (cards : List Card) (earlier : List Statement) (span : Span) → IsNextAlike cards earlier span [] → ⊥
next-some cards earlier span next = let none = ap length next.counts in omega (arith, none)

-- it has as many cards, and what is left behind it is cut alike
pub next-same : (cards : List Card) (earlier : List Statement) (span : Span) (sized : SizedStatement) (deck : OldDeck) → IsNextAlike cards earlier span (sized ∷ left deck) →
    (sized.cards ≡ length (statement_at cards span).cards) × IsCutAlike cards (statement_at cards span ∷ earlier) deck
next-same cards earlier span sized deck next = (
  first-of sized.cards (length (statement_at cards span).cards) (map sized_count (left deck)) (map count_of next.later) next.counts,
  record {
    later = next.later;
    all = next.all;
    counts = rest-of sized.cards (length (statement_at cards span).cards) (map sized_count (left deck)) (map count_of next.later) next.counts;
  },
)

-- it is the first of the piece that was begun
pub next-first : (cards : List Card) (earlier : List Statement) (span : Span) (limit : ℕ) (deck begun : OldDeck) → IsNext cards earlier span.count (statement_at cards span) → IsNextKnown cards earlier span limit → IsCutAlike cards earlier deck →
    left begun ≡ left deck → (begun.statements.items ≡ [] → left begun ≡ []) → ((sized : SizedStatement) (rest : List SizedStatement) → begun.statements.items ≡ sized ∷ rest → sized.cards ≡ span.count → ⊥) → ⊥
next-first cards earlier span limit deck begun is known cut same last other = by begun.statements.items refl
  where
    alike : IsNextAlike cards earlier span (left begun)
    alike = subst (IsNextAlike cards earlier span) (sym same) (next-cut cards earlier span limit deck known cut)

    by : (items : List SizedStatement) → begun.statements.items ≡ items → ⊥
    by [] e = next-some cards earlier span (subst (IsNextAlike cards earlier span) (last e) alike)
    by (sized ∷ rest) e =
        let here : IsNextAlike cards earlier span (sized ∷ (rest ++ sized_in begun.pieces.items)) = subst (IsNextAlike cards earlier span) (λ i. e i ++ sized_in begun.pieces.items) alike in
        let own = ap length (sym is.cards) ∙ length-take-le span.count (ahead cards earlier) is.within in
        other sized rest e (first-of sized.cards (length (statement_at cards span).cards) (map sized_count (rest ++ sized_in begun.pieces.items)) (map count_of here.later) here.counts ∙ own)

-- as short in a deck that has the same left
pub short-same : (next new : OldDeck) → new.statements.items ≡ next.statements.items → new.pieces.items ≡ next.pieces.items → IsShortBehind next → IsShortBehind new
short-same next new begun pieces short = record {
  begun = subst (λ (l : List SizedStatement). length l < 128) (sym begun) short.begun;
  short = subst (AllByRecursion IsShort) (sym pieces) short.short;
}

-- what the test asks, where the walk has come to the meeting
pub record IsMetHere (passed : OldDeck) (sizer : Sizer) (count : ℕ) : Type 0 where
  pub place : length passed.ahead.now ≡ count
  pub behind : count ≤ passed.behind
  pub begun : passed.statements.items ≡ []
  pub state : passed.state ≡ sizer.state
  pub agree : DoesAgree passed sizer.symbols

pub met-here : (kind : DeckKind) (old cards : List Card) (limit : ℕ) (earlier : List Statement) (span : Span) (sizer : Sizer) (deck passed : OldDeck) (will : WillMeet kind old cards limit earlier deck) → IsNextKnown cards earlier span limit →
    IsSizer kind cards earlier sizer → passed.kind ≡ kind → passed.behind ≡ deck.behind → HasFront old (left passed) passed → HasPiece passed will.tail will.count → length will.has.front ≡ length earlier →
    (length passed.ahead.now ≤ length cards - stood earlier) ⊎ (left passed ≡ []) → IsMetHere passed sizer (length cards - stood earlier)
met-here kind old cards limit earlier span sizer deck passed will next is kinds same has piece here (inr none) =
    let some = meeting-left kind old cards limit earlier span deck will next passed piece in
    let empty = ap length none in
    absurd (omega (arith, some, empty))
met-here kind old cards limit earlier span sizer deck passed will next is kinds same has piece here (inl reached) =
    let front = meeting-here kind old cards limit earlier span deck will next here in
    let meeting = will.has.meeting in
    let meeting_cards = meeting.place in
    let own = ap (λ (l : List Statement). length (cards_in l)) front in
    let some = sized-some passed.kind has.front has.stood (drop has.stood old) (left passed) has.later has.behind has.others has.rest in
    let at = at-piece passed will.tail will.count piece some (omega (arith, reached, meeting_cards, own)) in
    let cards_left = piece.cards in
    let few = meeting.few in
    let there = meeting.agree passed kinds (subst (λ (l : List SizedStatement). HasFront old l passed) at.1 has) in
    let w : View = λ name. defined name (settled_all kind will.has.front) in
    let symbols : w ≡ symbol_in sizer.symbols = ap {B = View} (λ (l : List Statement). λ name. defined name (settled_all kind l)) front ∙ sym is.symbols in
    record {
      place = omega (arith, reached, cards_left, meeting_cards, own);
      behind = omega (arith, few, same, meeting_cards, own);
      begun = at.0;
      state = there.0 ∙ ap (λ (l : List Statement). state_after (settled_all kind l)) front ∙ sym is.state;
      agree = subst (λ (all : (DeckKind × View) × List SizedStatement). StandAlike all.0.0 passed.ahead.now (symbol_in passed.symbols) all.0.1 all.1)
          (λ i. ((sym kinds i, symbols i), sym at.1 i)) there.1;
    }

-- a meeting that is not reached yet stays ahead
pub meet-still : (kind : DeckKind) (old cards : List Card) (limit : ℕ) (earlier : List Statement) (span : Span) (deck new : OldDeck) (will : WillMeet kind old cards limit earlier deck) →
    new.behind ≡ deck.behind → HasPiece new will.tail will.count → length earlier < length will.has.front → WillMeet kind old cards limit (statement_at cards span ∷ earlier) new
meet-still kind old cards limit earlier span deck new will behind piece less = record {
  tail = will.tail;
  count = will.count;
  piece = piece;
  has = record { front = will.has.front; meeting = subst (λ n. AreMeeting kind old cards n will.tail will.count will.has.front) (sym behind) will.has.meeting; whole = will.has.whole };
  reached = less;
  due = will.due;
}

-- the statement of a span is the next one of a deck of more statements than a limit
pub next-known : (cards : List Card) (spans : List Span) (count : ℕ) (span : Span) (limit : ℕ) (front : List Statement) → count < length spans → has_end (first_statements cards spans count) ≡ false → IsBounded cards spans front limit →
    IsNextKnown cards (first_statements cards spans count) (get_or spans count span) limit
next-known cards spans count span limit front within unended bounded =
    let there = open-at cards spans count span within unended in
    record {
      others = there.0;
      all = ap up_to_end (sym bounded.all) ∙ there.1;
      unended = unended;
      more = bounded.more;
    }

-- at any time no more is counted than a limit allows behind an untouched front, where nothing is sized beyond it
pub due-bound : (count limit own : ℕ) (front : List Statement) (deck now : OldDeck) (sized so_far more : ℕ) → own ≡ count → IsFrontTaken count front deck now sized so_far → length front + so_far ≤ limit + sized → more ≤ so_far + 1 →
    (count < length front → more ≡ so_far) → (more ≡ so_far) ⊎ (own < limit) → length front + more ≤ limit + sized
due-bound count limit own front deck now sized so_far more e taken bound one step (inl same) = omega (arith, bound, same)
due-bound count limit own front deck now sized so_far more e taken bound one step (inr less) = elim (cases_lt count (length front)) [
  | inl before ↦ let same = step before in omega (arith, bound, same)
  | inr enough ↦ let there = taken.many enough in omega (arith, one, there, less, e)
]

-- each piece of a deck is short
pub filled-short : (pieces : List DeckPiece) → AreFilled pieces → AllByRecursion IsShort pieces
filled-short [] filled = tt
filled-short (piece ∷ []) filled = (filled.1, tt)
filled-short (piece ∷ next ∷ pieces) filled = let whole = filled.0 in (omega (arith, whole), filled-short (next ∷ pieces) filled.1)
