-- One statement after the other of a deck that an edited one is made of.
use Rattle.std.{proofs.Common.{◌≡◌, ℕ, ◌+◌, ◌-◌, ◌≤◌, List, [], ◌∷◌, ◌++◌, drop, length, sym, ap, ap₂, ◌∙◌, subst, arith, append_assoc}, specs.Prelude.reverse, proofs.lemmas.List.{length-drop, reverse-append}}
use Rattle.definitions.{specs.Cards.Card, specs.Settled.defined, specs.Forms.Form, specs.Settling.{View, settle, settled_all}, specs.Statements.Statement, specs.Laws.States.{Effect, state_after, effect_of, advanced}, specs.declared.deck_kind.DeckKind.DeckKind, proofs.StateSteps.{state_after-step, settled_all-in_use}}
use Rattle.statement_coder.specs.Joins.Sizings.{defines_in}
use Rattle.deck_assembler.{specs.Joins.Agreements.{HasFront, HaveSameEnd, IsOfSameDeck, IsSameFront}, specs.Joins.FirstSymbols.{symbol_in, with_defined, IsLawfulOperand}, specs.Joins.Formers.known_in, specs.Joins.SizedDecks.{IsSizedStatement, AreSizedFrom}, specs.declared.old_deck.OldDeck.OldDeck, specs.declared.old_deck.Stage.Stage, specs.declared.sized_statement.SizedStatement.SizedStatement, proofs.DefinitionLaws.defined-step, proofs.ForwardLaws.stood-more, proofs.OntoLaws.drop-more}

-- a statement that was sized, and those behind it
pub record HasNext (kind : DeckKind) (front : List Statement) (stood : ℕ) (ahead : List Card) (sized : SizedStatement) (later : List SizedStatement) (behind : List ℕ) (others : List Statement) : Type 0 where
  pub statement : Statement
  pub statements : List Statement
  pub is : IsSizedStatement kind front stood ahead sized statement
  pub are : AreSizedFrom kind (statement ∷ front) (stood + sized.cards) (drop sized.cards ahead) later statements behind others

pub has-next : (kind : DeckKind) (front : List Statement) (stood : ℕ) (ahead : List Card) (sized : SizedStatement) (later : List SizedStatement) (statements : List Statement) (behind : List ℕ) (others : List Statement) →
    AreSizedFrom kind front stood ahead (sized ∷ later) statements behind others → HasNext kind front stood ahead sized later behind others
has-next kind front stood ahead sized later [] behind others are = absurd are
has-next kind front stood ahead sized later (statement ∷ statements) behind others are = record { statement = statement; statements = statements; is = are.0; are = are.1 }

-- the next statement, and those behind it
pub all-next : (kind : DeckKind) (earlier : List Statement) (stood : ℕ) (ahead : List Card) (sized : SizedStatement) (later : List SizedStatement) (statements : List Statement) (behind : List ℕ) (others : List Statement) →
    (are : AreSizedFrom kind earlier stood ahead (sized ∷ later) statements behind others) → let next = has-next kind earlier stood ahead sized later statements behind others are in
    reverse next.statements ++ next.statement ∷ earlier ≡ reverse statements ++ earlier
unfolding has-next
all-next kind earlier stood ahead sized later [] behind others are = absurd are
all-next kind earlier stood ahead sized later (statement ∷ statements) behind others are =
    sym (append_assoc (reverse statements) (statement ∷ []) earlier) ∙ ap (λ l. l ++ earlier) (sym (reverse-append (statement ∷ []) statements))

pub next-of : (cards : List Card) (sized : SizedStatement) (later : List SizedStatement) (deck : OldDeck) (has : HasFront cards (sized ∷ later) deck) →
    HasNext deck.kind has.front has.stood (drop has.stood cards) sized later has.behind has.others
next-of cards sized later deck has = has-next deck.kind has.front has.stood (drop has.stood cards) sized later has.later has.behind has.others has.rest

-- the next statement, and those behind it, of all of the deck
pub next-of-all : (cards : List Card) (sized : SizedStatement) (later : List SizedStatement) (deck : OldDeck) (has : HasFront cards (sized ∷ later) deck) → let next = next-of cards sized later deck has in
    reverse next.statements ++ next.statement ∷ has.front ≡ known_in cards
unfolding next-of
next-of-all cards sized later deck has = all-next deck.kind has.front has.stood (drop has.stood cards) sized later has.later has.behind has.others has.rest ∙ has.all

-- behind a statement its front has it too
pub front-step : (cards : List Card) (sized : SizedStatement) (later : List SizedStatement) (old new : OldDeck) (has : HasFront cards (sized ∷ later) old) (effect : Effect) →
    let next = next-of cards sized later old has in
    let settled = settle old.kind (settled_all old.kind has.front) next.statement in
    new.kind ≡ old.kind → new.ahead.now ≡ drop sized.cards old.ahead.now → effect ≡ effect_of old.kind settled → new.state ≡ advanced effect old.state →
    IsLawfulOperand settled.read.operand →
    symbol_in new.symbols ≡ with_defined settled.read.fields.location settled.read.operand (defines_in old.kind sized.sizing) (symbol_in old.symbols) → HasFront cards later new
front-step cards sized later old new has effect kind ahead made state lawful symbols =
    let next = next-of cards sized later old has in
    let all = settled_all old.kind has.front in
    let settled = settle old.kind all next.statement in
    let more : drop sized.cards (drop has.stood cards) ≡ drop (has.stood + sized.cards) cards = drop-more sized.cards has.stood cards in
    let left = length-drop has.stood cards in
    let few = next.is.within in
    record {
      front = next.statement ∷ has.front;
      later = next.statements;
      behind = has.behind;
      others = has.others;
      stood = has.stood + sized.cards;
      within = let within = has.within in omega (arith, left, few, within);
      place = ap (λ n. n + sized.cards) has.place ∙ stood-more has.front next.statement (drop has.stood cards) sized.cards next.is.cards next.is.within;
      all = next-of-all cards sized later old has;
      ahead = ahead ∙ ap (drop sized.cards) has.ahead ∙ more;
      rest = subst (λ (k : DeckKind). AreSizedFrom k (next.statement ∷ has.front) (has.stood + sized.cards) (drop (has.stood + sized.cards) cards) later next.statements has.behind has.others) (sym kind)
          (subst (λ (l : List Card). AreSizedFrom old.kind (next.statement ∷ has.front) (has.stood + sized.cards) l later next.statements has.behind has.others) more next.are);
      state = state ∙ ap₂ advanced made has.state ∙ sym (state_after-step old.kind settled all (settled_all-in_use old.kind (next.statement ∷ has.front)))
          ∙ ap (λ (k : DeckKind). state_after (settled_all k (next.statement ∷ has.front))) (sym kind);
      symbols = symbols ∙ ap (with_defined settled.read.fields.location settled.read.operand (defines_in old.kind sized.sizing)) has.symbols
          ∙ defined-step old.kind all next.statement (defines_in old.kind sized.sizing) lawful next.is.sizing.definitions
          ∙ ap {B = View} (λ (k : DeckKind). λ name. defined name (settled_all k (next.statement ∷ has.front))) (sym kind);
    }

-- decks of the same end, at places with as many cards left of it
pub same-ahead : (behind from there : ℕ) (old cards : List Card) → HaveSameEnd behind old cards → from ≤ length old → there ≤ length cards →
    length old - from ≡ length cards - there → length cards - there ≤ behind → drop from old ≡ drop there cards
same-ahead behind from there old cards e within here same few =
    let m = length old - behind in
    let n = length cards - behind in
    let first = length-drop m old in
    let second = length-drop n cards in
    let whole = ap length e in
    let at_old : from ≡ m + (from - m) = omega (arith, few, same, within) in
    let at_new : n + (there - n) ≡ there = omega (arith, few, here) in
    let gap : from - m ≡ there - n = omega (arith, first, second, whole, same, few, within, here) in
    ap (λ k. drop k old) at_old ∙ sym (drop-more (from - m) m old) ∙ ap (drop (from - m)) e ∙ ap (λ k. drop k (drop n cards)) gap ∙ drop-more (there - n) n cards ∙ ap (λ k. drop k cards) at_new

-- a deck at another stage
abbrev pub at_stage : Stage → OldDeck → OldDeck
at_stage stage deck = record { kind = deck.kind; ahead = deck.ahead; statements = deck.statements; pieces = deck.pieces; before = deck.before; behind = deck.behind; stage = stage; state = deck.state; symbols = deck.symbols; missed = deck.missed }

pub same-at : (stage : Stage) (old new : OldDeck) → IsOfSameDeck old new → IsOfSameDeck old (at_stage stage new)
same-at stage old new same = record { kind = same.kind; before = same.before; behind = same.behind }

-- the same deck twice
pub same-again : {first second third : OldDeck} → IsOfSameDeck first second → IsOfSameDeck second third → IsOfSameDeck first third
same-again a b = record { kind = b.kind ∙ a.kind; before = b.before ∙ a.before; behind = b.behind ∙ a.behind }

-- a front is that of a deck which has the same in front
pub front-same : (cards : List Card) (sized other : List SizedStatement) (old new : OldDeck) → sized ≡ other → IsSameFront old new → HasFront cards sized old → HasFront cards other new
front-same cards sized other old new e same has = record {
  front = has.front;
  later = has.later;
  behind = has.behind;
  others = has.others;
  stood = has.stood;
  within = has.within;
  place = has.place;
  all = has.all;
  ahead = same.ahead ∙ has.ahead;
  rest = subst (λ (k : DeckKind). AreSizedFrom k has.front has.stood (drop has.stood cards) other has.later has.behind has.others) (sym same.deck.kind)
      (subst (λ (l : List SizedStatement). AreSizedFrom old.kind has.front has.stood (drop has.stood cards) l has.later has.behind has.others) e has.rest);
  state = same.state ∙ has.state ∙ ap (λ (k : DeckKind). state_after (settled_all k has.front)) (sym same.deck.kind);
  symbols = ap (λ (t : List (ℕ × Form)). symbol_in t) same.symbols ∙ has.symbols ∙ ap {B = View} (λ (k : DeckKind). λ name. defined name (settled_all k has.front)) (sym same.deck.kind);
}
