-- Where two decks agree, as the definitions say it, the walk over them finds that they do.
use Rattle.std.{proofs.Common.{◌≡◌, ℕ, suc, ◌+◌, ◌<◌, ◌≤◌, inl, inr, List, [], ◌∷◌, ◌++◌, drop, take, length, refl, sym, ap, ap₂, ◌∙◌, subst, arith, append_assoc, length-append, length-take-le, take-append-drop}, specs.List.AllByRecursion, specs.Prelude.reverse, proofs.lemmas.Bool.cases_lt, proofs.lemmas.List.{length-drop, length-reverse, reverse-append}}
use Rattle.definitions.{specs.Cards.Card, specs.DeckKinds.kind_of_statements, specs.Laws.Edits.{Edited, IsUntouched, Split, DoAgree}, specs.Operands.{Operand, NamesOperand}, specs.Operations.Operation, specs.Settled.{Settled, defined}, specs.Settling.{View, settle, settled_all}, specs.Statements.{Statement, cards_in}, specs.Laws.States.state_after, specs.Laws.Agreement.{Agree, early_symbols, own_symbols, operand_symbols, settled_tail, AgreeOnTail, HaveSameCards}, specs.declared.deck_kind.DeckKind.DeckKind, proofs.EditLaws.{agreement-lasts, cards_in-append}, proofs.NamesLaws.all-behind, proofs.TailLaws.settled_all-append}
use Rattle.statement_coder.specs.Joins.{Definitions.{IsOfExt}, Sizings.{defines_in}}
use Rattle.statement_coder.specs.declared.definitions_made.Defines as code
use Rattle.statement_coder.specs.declared.definitions_made.Defines.TheVariants as defines
use Rattle.deck_assembler.{specs.Joins.Agreements.{AreAlikeFrom, AreExternalsAlike}, specs.Joins.FirstSymbols.symbol_in, specs.Joins.Formers.known_in, specs.Joins.Meetings.{AgreeFrom, AreMeeting, IsShort, StandApart, WillAgreeLater}, specs.Joins.SizedDecks.AreSizedFrom, specs.Joins.Sizers.stood, specs.declared.old_deck.OldDeck.OldDeck, specs.declared.sized_statement.SizedStatement.SizedStatement, proofs.CutLaws.known-cards, proofs.OntoLaws.append-none, proofs.PieceMeetings.sized-length}

-- the names that a statement defines are those of an EXT, which it needs early
names-alike : (v w : View) (operand : Operand) (operation : Operation) (what : code.Defines) → IsOfExt operation what → Agree v w (operand_symbols operand operation) → AreExternalsAlike v w operand what
names-alike v w (NamesOperand names) operation defines.Externals is h = subst (λ (operation : Operation). Agree v w (operand_symbols (NamesOperand names) operation)) is h
names-alike v w (NamesOperand names) operation defines.Nothing is h = tt
names-alike v w (NamesOperand names) operation (defines.Symbol form) is h = tt
names-alike v w operand operation what is h = tt

-- the statements of a tail are those behind its first ones, and these
tail-append : (kind : DeckKind) (earlier : List Settled) (middle tail : List Statement) →
    settled_tail kind earlier (tail ++ middle) ≡ settled_tail kind (settled_tail kind earlier middle ++ earlier) tail ++ settled_tail kind earlier middle
tail-append kind earlier middle [] = refl
tail-append kind earlier middle (statement ∷ tail) =
    let first = settled_tail kind earlier middle in
    let behind = settled_tail kind (first ++ earlier) tail in
    ap (λ list. settle kind (list ++ earlier) statement ∷ list) (tail-append kind earlier middle tail)
    ∙ ap (λ list. settle kind list statement ∷ (behind ++ first)) (append_assoc behind first earlier)

-- two views agree on what a settled statement needs early
abbrev AgreesEarly : View → View → Settled → Type 0
AgreesEarly v w settled = Agree v w (early_symbols settled.read)

-- two views that agree on all of a tail agree on its statements one after the other
alike-from : (kind : DeckKind) (v w : View) (front middle : List Statement) (stood : ℕ) (ahead : List Card) (sized : List SizedStatement) (later : List Statement) (behind : List ℕ) (others : List Statement) →
    AreSizedFrom kind (middle ++ front) stood ahead sized later behind others → AllByRecursion (AgreesEarly v w) (settled_tail kind (settled_all kind front) (reverse later ++ middle)) →
    AreAlikeFrom kind v w (middle ++ front) sized later
alike-from kind v w front middle stood ahead [] later behind others are all = tt
alike-from kind v w front middle stood ahead (sized ∷ rest) [] behind others are all = tt
alike-from kind v w front middle stood ahead (sized ∷ rest) (statement ∷ later) behind others are all =
    let E = settled_all kind front in
    let whole : reverse (statement ∷ later) ++ middle ≡ reverse later ++ (statement ∷ middle) =
    ap (λ (l : List Statement). l ++ middle) (reverse-append (statement ∷ []) later) ∙ append_assoc (reverse later) (statement ∷ []) middle in
    let split = subst (λ (l : List Statement). AllByRecursion (AgreesEarly v w) (settled_tail kind E l)) whole all in
    let here = all-behind (AgreesEarly v w) (settled_tail kind (settled_tail kind E (statement ∷ middle) ++ E) (reverse later)) (settled_tail kind E (statement ∷ middle))
    (subst (AllByRecursion (AgreesEarly v w)) (tail-append kind E (statement ∷ middle) (reverse later)) split) in
    let early = subst (λ (l : List Settled). AgreesEarly v w (settle kind l statement)) (sym (settled_all-append kind middle front)) here.0 in
    let read = (settle kind (settled_all kind (middle ++ front)) statement).read in (
      record {
        early = early;
        externals = names-alike v w read.operand read.operation (defines_in kind sized.sizing) are.0.sizing.externals
            (all-behind (λ name. v name ≡ w name) (own_symbols read.operation read.fields.location) (operand_symbols read.operand read.operation) early);
      },
      alike-from kind v w front (statement ∷ middle) (stood + sized.cards) (drop sized.cards ahead) rest later behind others are.1 split,
    )

first-of : {X : Type 0} (a b : X) (x y : List X) → a ∷ x ≡ b ∷ y → a ≡ b
first-of a b x y e = cc

rest-of : {X : Type 0} (a b : X) (x y : List X) → a ∷ x ≡ b ∷ y → x ≡ y
rest-of a b x y e = cc

-- a deck split at two places: what stands between
pub record IsBetween (first second front earlier : List Statement) : Type 0 where
  pub middle : List Statement
  pub of_first : first ≡ second ++ middle
  pub of_earlier : earlier ≡ middle ++ front

pub between : (first front second earlier : List Statement) → first ++ front ≡ second ++ earlier → length second ≤ length first → IsBetween first second front earlier
between first front [] earlier e few = record { middle = first; of_first = refl; of_earlier = sym e }
between [] front (last ∷ second) earlier e few = absurd (omega (arith, few))
between (one ∷ first) front (last ∷ second) earlier e few =
    let more = between first front second earlier (rest-of one last (first ++ front) (second ++ earlier) e) (omega (arith, few)) in
    record {
      middle = more.middle;
      of_first = ap₂ (λ (s : Statement) (l : List Statement). s ∷ l) (first-of one last (first ++ front) (second ++ earlier) e) more.of_first;
      of_earlier = more.of_earlier;
    }

-- split at one place
one-place : (first front second earlier : List Statement) → first ++ front ≡ second ++ earlier → length first ≡ length second → (first ≡ second) × (front ≡ earlier)
one-place [] front [] earlier e n = (refl, e)
one-place [] front (last ∷ second) earlier e n = absurd (omega (arith, n))
one-place (one ∷ first) front [] earlier e n = absurd (omega (arith, n))
one-place (one ∷ first) front (last ∷ second) earlier e n =
    let more = one-place first front second earlier (rest-of one last (first ++ front) (second ++ earlier) e) (omega (arith, n)) in
    (ap₂ (λ (s : Statement) (l : List Statement). s ∷ l) (first-of one last (first ++ front) (second ++ earlier) e) more.0, more.1)

-- statements that have fewer cards than a front stand in it
front-longer : (cards : List Card) (tail front later earlier : List Statement) → known_in cards ≡ tail ++ front → known_in cards ≡ later ++ earlier → stood earlier ≤ stood front → length tail ≤ length later
front-longer cards tail front later earlier e f few = elim (cases_lt (length later) (length tail)) [
  | inl less ↦ by (between tail front later earlier (sym e ∙ f) (omega (arith, less))) less
  | inr enough ↦ enough
]
  where
    some : AllByRecursion (λ (statement : Statement). 0 < length statement.cards) (tail ++ front)
    some = subst (AllByRecursion (λ (statement : Statement). 0 < length statement.cards)) e (known-cards cards)

    by : IsBetween tail later front earlier → length later < length tail → length tail ≤ length later
    by found less = at found.middle found.of_first found.of_earlier
      where
        at : (middle : List Statement) → tail ≡ later ++ middle → earlier ≡ middle ++ front → length tail ≤ length later
        at [] a b = let whole = ap length a in let parts = length-append later [] in absurd (omega (arith, less, whole, parts))
        at (statement ∷ middle) a b =
            let own = (all-behind (λ (s : Statement). 0 < length s.cards) later ((statement ∷ middle) ++ front)
            (subst (AllByRecursion (λ (s : Statement). 0 < length s.cards)) (ap (λ (l : List Statement). l ++ front) a ∙ append_assoc later (statement ∷ middle) front) some)).0 in
            let whole = ap (λ (l : List Statement). length (cards_in l)) b in
            let parts = length-append (cards_in (middle ++ front)) statement.cards in
            let more = cards_in-append middle front in
            absurd (omega (arith, few, own, whole, parts, more))

same-lengths : (tail other : List Statement) → HaveSameCards tail other → length tail ≡ length other
same-lengths [] [] h = refl
same-lengths [] (second ∷ other) h = absurd h
same-lengths (first ∷ tail) [] h = absurd h
same-lengths (first ∷ tail) (second ∷ other) h = ap suc (same-lengths tail other h.1)

-- the walk finds them to agree where they do
agree-here : (kind : DeckKind) (old cards : List Card) (before behind : ℕ) (decks : Edited) (split : Split) → StandApart old cards before behind decks → kind ≡ kind_of_statements decks.new → DoAgree decks split →
    (tail : List SizedStatement) (count : ℕ) → length tail ≡ length split.old_tail → stood split.old_front + count ≡ length old → AreMeeting kind old cards behind tail count split.new_front
agree-here kind old cards before behind decks split apart kinds agree tail count n m =
    let old_reaches = agree.tail.old_reaches in
    let place = agree.tail.same_place in
    let old_count = apart.old_count in
    let new_count = apart.new_count in
    let few = apart.few in
    let states : state_after (settled_all kind split.old_front) ≡ state_after (settled_all kind split.new_front) =
    subst (λ (k : DeckKind). state_after (settled_all k split.old_front) ≡ state_after (settled_all k split.new_front)) (sym kinds) agree.states in
    let early : AgreeOnTail kind (settled_all kind split.old_front) (settled_all kind split.new_front) split.old_tail =
    subst (λ (k : DeckKind). AgreeOnTail k (settled_all k split.old_front) (settled_all k split.new_front) split.old_tail) (sym kinds) agree.early in
    let w : View = λ name. defined name (settled_all kind split.new_front) in
    record {
      few = omega (arith, old_reaches, old_count, few, m);
      place = omega (arith, place, old_count, new_count, m);
      stands = (split.new_tail, sym apart.of_new ∙ agree.tail.of_new);
      agree = λ deck kind_is has.
          let v : View = λ name. defined name (settled_all kind split.old_front) in
          let sized = sized-length deck.kind has.front has.stood (drop has.stood old) tail has.later has.behind has.others has.rest in
          let back = length-reverse has.later in
          let both = one-place (reverse has.later) has.front split.old_tail split.old_front (has.all ∙ sym apart.of_old ∙ agree.tail.of_old) (omega (arith, sized, back, n)) in
          let symbols : symbol_in deck.symbols ≡ v = has.symbols ∙ ap₂ {C = View} (λ (k : DeckKind) (l : List Statement). λ name. defined name (settled_all k l)) kind_is both.1 in
          let are = subst (λ (all : DeckKind × List Statement). AreSizedFrom all.0 all.1 has.stood (drop has.stood old) tail has.later has.behind has.others) (λ i. (kind_is i, both.1 i)) has.rest in
          let tails = subst (λ (l : List Statement). AllByRecursion (AgreesEarly v w) (settled_tail kind (settled_all kind split.old_front) l)) (sym (append-none (reverse has.later) ∙ both.0)) early in (
            has.state ∙ ap₂ (λ (k : DeckKind) (l : List Statement). state_after (settled_all k l)) kind_is both.1 ∙ states,
            record {
              earlier = split.old_front;
              stood = has.stood;
              statements = has.later;
              behind = has.behind;
              others = has.others;
              are = subst (λ (l : List Card). AreSizedFrom kind split.old_front has.stood l tail has.later has.behind has.others) (sym has.ahead) are;
              alike = subst (λ (view : View). AreAlikeFrom kind view w split.old_front tail has.later) (sym symbols)
                  (alike-from kind v w split.old_front [] has.stood (drop has.stood old) tail has.later has.behind has.others are tails);
            },
          );
    }

pub agree-from : (kind : DeckKind) (old cards : List Card) (before behind : ℕ) (decks : Edited) (split : Split) → StandApart old cards before behind decks → kind ≡ kind_of_statements decks.new → DoAgree decks split →
    AgreeFrom kind old cards before behind (length split.old_tail)
agree-from kind old cards before behind decks split apart kinds agree =
    let both = same-lengths split.old_tail split.new_tail agree.tail.same_cards in
    record {
      old_front = λ later earlier e few.
          let before_old = apart.old_before in
          let reaches = agree.tail.old_reaches in
          front-longer old split.old_tail split.old_front later earlier (sym apart.of_old ∙ agree.tail.of_old) e (omega (arith, few, before_old, reaches));
      new_front = λ later earlier e few.
          let before_new = apart.new_before in
          let reaches = agree.tail.new_reaches in
          let longer = front-longer cards split.new_tail split.new_front later earlier (sym apart.of_new ∙ agree.tail.of_new) e (omega (arith, few, before_new, reaches)) in
          omega (arith, longer, both);
      meets = λ later earlier tail count e few n m.
          let cut = between split.old_tail split.old_front later earlier (sym agree.tail.of_old ∙ apart.of_old ∙ e) few in
          let new_tail = take (length later) split.new_tail in
          let new_middle = drop (length later) split.new_tail in
          let f = sym (take-append-drop (length later) split.new_tail) in
          let whole = ap length cut.of_first in
          let parts = length-append later cut.middle in
          let less = length-drop (length later) split.new_tail in
          let there : Split = record { old_front = cut.middle ++ split.old_front; old_tail = later; new_front = new_middle ++ split.new_front; new_tail = new_tail } in
          let lasts : DoAgree decks there = agreement-lasts decks split later cut.middle new_tail new_middle cut.of_first f (omega (arith, both, whole, parts, less)) agree in
          let meeting = agree-here kind old cards before behind decks there apart kinds lasts tail count n (subst (λ (l : List Statement). stood l + count ≡ length old) cut.of_earlier m) in
          let all = ap length (sym apart.of_new ∙ lasts.tail.of_new) in
          let new_parts = length-append new_tail (new_middle ++ split.new_front) in
          let full = length-take-le (length later) split.new_tail (omega (arith, both, few)) in
          record { front = new_middle ++ split.new_front; meeting = meeting; whole = omega (arith, all, new_parts, full, n) };
    }

-- an untouched front stands in front of each place where the decks agree
pub untouched-before : (old cards : List Card) (before behind : ℕ) (decks : Edited) (front : List Statement) (split : Split) → StandApart old cards before behind decks → decks.before ≤ before → IsUntouched decks front →
    DoAgree decks split → length front ≤ length split.new_front
untouched-before old cards before behind decks front split apart few is agree =
    let unchanged = is.unchanged in
    let before_new = apart.new_before in
    let reaches = agree.tail.new_reaches in
    let longer = front-longer cards split.new_tail split.new_front is.of_new.0 front (sym apart.of_new ∙ agree.tail.of_new) (sym apart.of_new ∙ is.of_new.1) (omega (arith, unchanged, few, before_new, reaches)) in
    let whole = ap length agree.tail.of_new in
    let parts = length-append split.new_tail split.new_front in
    let other = ap length is.of_new.1 in
    let other_parts = length-append is.of_new.0 front in
    omega (arith, longer, whole, parts, other, other_parts)

-- where nothing is taken yet, the decks will be found to agree
pub begins-due : (kind : DeckKind) (old cards : List Card) (decks : Edited) (split : Split) (deck : OldDeck) → StandApart old cards deck.before deck.behind decks → kind ≡ kind_of_statements decks.new → DoAgree decks split →
    deck.statements.items ≡ [] → AllByRecursion IsShort deck.pieces.items → WillAgreeLater kind old cards (length split.new_front + 128) [] deck
begins-due kind old cards decks split deck apart kinds agree none short = record {
  begun = let empty = ap length none in omega (arith, empty);
  short = short;
  within = omega arith;
  rest = length split.old_tail;
  agree = agree-from kind old cards deck.before deck.behind decks split apart kinds agree;
  limit_is =
      let both = same-lengths split.old_tail split.new_tail agree.tail.same_cards in
      let whole = ap length (sym apart.of_new ∙ agree.tail.of_new) in
      let parts = length-append split.new_tail split.new_front in
      omega (arith, both, whole, parts);
}
