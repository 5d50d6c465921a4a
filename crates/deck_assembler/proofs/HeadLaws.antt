-- The statements in front of an edited card are sized behind the same statements in both decks.
use Rattle.std.{proofs.Common.{◌≡◌, ℕ, ◌+◌, ◌-◌, ◌≤◌, List, [], ◌∷◌, ◌++◌, take, drop, length, refl, sym, ap, ◌∙◌, subst, arith, length-take-le}, specs.Prelude.reverse, proofs.lemmas.List.{take-take, drop-take, length-take, length-drop, reverse-reverse}}
use Rattle.cards.specs.{Joins.Spans.statement_at, declared.statement_list.Span.Span}
use Rattle.definitions.specs.{Cards.Card, DeckKinds.{up_to_end, behind_end}, Forms.Form, Settled.defined, Settling.{View, settled_all}, Statements.{Statement, statements_of}, Laws.States.state_after, declared.deck_kind.DeckKind.DeckKind}
use Rattle.deck_assembler.{specs.Joins.Agreements.{left, HasFront, IsSameFront}, specs.Joins.DeckParts.{DeckParts, sized_in}, specs.Joins.FirstSymbols.symbol_in, specs.Joins.OldDecks.{IsAtStage, IsInFront, IsOnSpan}, specs.Joins.SizedDecks.{IsSizedStatement, AreSizedFrom, IsSizedDeck}, specs.Joins.Sizers.{stood, ahead, IsNext, IsSizer}, specs.declared.old_deck.OldDeck.OldDeck, specs.declared.sized_statement.SizedStatement.SizedStatement, specs.declared.sizer.Sizer.Sizer, proofs.ForwardLaws.stood-more, proofs.OldLaws.{all-next, has-next}, proofs.OntoLaws.{append-none, drop-more}}
use Rattle.deck_assembler.specs.declared.old_deck.Stage.TheVariants as stages

-- the first cards of two decks are the same: so are those between
between : (count from before : ℕ) (cards : List Card) → from + count ≤ before → take count (drop from (take before cards)) ≡ take count (drop from cards)
between count from before cards h =
    let whole : before ≡ from + (before - from) = omega arith in
    ap (λ n. take count (drop from (take n cards))) whole ∙ ap (take count) (drop-take from (before - from) cards) ∙ take-take count (before - from) (drop from cards) (omega arith)

pub same-between : (count from before : ℕ) (old cards : List Card) → take before old ≡ take before cards → from + count ≤ before → take count (drop from old) ≡ take count (drop from cards)
same-between count from before old cards e h = sym (between count from before old h) ∙ ap (λ l. take count (drop from l)) e ∙ between count from before cards h

-- a statement that was sized in one deck is so in the other
pub same-sized : (kind : DeckKind) (earlier : List Statement) (stood : ℕ) (old cards : List Card) (sized : SizedStatement) (statement : Statement) →
    IsSizedStatement kind earlier stood (drop stood old) sized statement → take sized.cards (drop stood old) ≡ take sized.cards (drop stood cards) →
    IsSizedStatement kind earlier stood (drop stood cards) sized statement
same-sized kind earlier stood old cards sized statement is e =
    let longer = length-take sized.cards (drop stood cards) in
    let own = ap length e in
    let full = length-take-le sized.cards (drop stood old) is.within in
    record {
      before = is.before;
      cards = sym e ∙ is.cards;
      some = is.some;
      few = is.few;
      within = omega (arith, longer, own, full);
      sizing = is.sizing;
      number_base = is.number_base;
      operation = is.operation;
      label = is.label;
      kept = is.kept;
      bare = is.bare;
    }

-- the next statement in front stays, and what is left goes on behind it
pub next-in-front : (kind : DeckKind) (old cards : List Card) (earlier : List Statement) (span : Span) (deck new : OldDeck) (sized : SizedStatement) (later : List SizedStatement) →
    IsNext cards earlier span.count (statement_at cards span) → deck.kind ≡ kind → IsInFront old cards earlier (sized ∷ later) deck → sized.cards ≡ span.count → span.start + span.count ≤ deck.before →
    new.kind ≡ deck.kind → new.before ≡ deck.before → (sized.cards ≤ length deck.ahead.now → new.ahead.now ≡ drop sized.cards deck.ahead.now) →
    IsSizedStatement kind earlier (stood earlier) (ahead cards earlier) sized (statement_at cards span) × IsInFront old cards (statement_at cards span ∷ earlier) later new
next-in-front kind old cards earlier span deck new sized later next kinds front count within same_kind same_before moved =
    let n = stood earlier in
    let given : Statement = statement_at cards span in
    let nx = has-next deck.kind earlier n (drop n old) sized later front.later front.behind front.others front.rest in
    let start = next.before in
    let same = same-between sized.cards n deck.before old cards front.unchanged (omega (arith, start, count, within)) in
    let here = same-sized deck.kind earlier n old cards sized nx.statement nx.is same in
    let own : nx.statement.cards ≡ given.cards = sym here.cards ∙ ap (λ m. take m (drop n cards)) count ∙ next.cards in
    let is_given : nx.statement ≡ given = λ i. record { before = (here.before ∙ sym start) i; cards = own i } in
    let more : n + sized.cards ≡ stood (given ∷ earlier) = ap (λ m. n + m) count ∙ stood-more earlier given (ahead cards earlier) span.count next.cards next.within in
    let less : drop sized.cards (drop n old) ≡ drop (stood (given ∷ earlier)) old = drop-more sized.cards n old ∙ ap (λ m. drop m old) more in
    let left = length-drop n old in
    let few = nx.is.within in
    let some = front.within in (
      subst (λ (both : DeckKind × Statement). IsSizedStatement both.0 earlier n (drop n cards) sized both.1) (λ i. (kinds i, is_given i)) here,
      record {
        later = nx.statements;
        behind = front.behind;
        others = front.others;
        within = omega (arith, left, few, some, more);
        ahead = moved (subst (λ (l : List Card). sized.cards ≤ length l) (sym front.ahead) few) ∙ ap (drop sized.cards) front.ahead ∙ less;
        rest = subst (λ (all : (DeckKind × Statement) × (ℕ × List Card)). AreSizedFrom all.0.0 (all.0.1 ∷ earlier) all.1.0 all.1.1 later nx.statements front.behind front.others)
            (λ i. ((sym same_kind i, is_given i), (more i, less i))) nx.are;
        unchanged = subst (λ m. take m old ≡ take m cards) (sym same_before) front.unchanged;
        all = ap (λ s. reverse nx.statements ++ s ∷ earlier) (sym is_given) ∙ all-next deck.kind earlier n (drop n old) sized later front.later front.behind front.others front.rest ∙ front.all;
      },
    )

-- what was taken of both decks is what stands in front of the next statement of the old one
pub front-left : (old cards : List Card) (earlier : List Statement) (sized : List SizedStatement) (deck new : OldDeck) (sizer : Sizer) → IsSizer deck.kind cards earlier sizer → IsInFront old cards earlier sized deck →
    new.kind ≡ deck.kind → new.ahead.now ≡ deck.ahead.now → new.state ≡ sizer.state → new.symbols ≡ sizer.symbols → HasFront old sized new
front-left old cards earlier sized deck new sizer is front kind ahead state symbols = record {
  front = earlier;
  later = front.later;
  behind = front.behind;
  others = front.others;
  stood = stood earlier;
  within = front.within;
  place = refl;
  all = front.all;
  ahead = ahead ∙ front.ahead;
  rest = subst (λ (k : DeckKind). AreSizedFrom k earlier (stood earlier) (drop (stood earlier) old) sized front.later front.behind front.others) (sym kind) front.rest;
  state = state ∙ is.state ∙ ap (λ (k : DeckKind). state_after (settled_all k earlier)) (sym kind);
  symbols = ap (λ (t : List (ℕ × Form)). symbol_in t) symbols ∙ is.symbols ∙ ap {B = View} (λ (k : DeckKind). λ name. defined name (settled_all k earlier)) (sym kind);
}

-- the old deck stands in front where it is the same and the same is in front
in-front-same : (old cards : List Card) (earlier : List Statement) (sized other : List SizedStatement) (deck new : OldDeck) → sized ≡ other → IsSameFront deck new → IsInFront old cards earlier sized deck →
    IsInFront old cards earlier other new
in-front-same old cards earlier sized other deck new e same front = record {
  later = front.later;
  behind = front.behind;
  others = front.others;
  within = front.within;
  ahead = same.ahead ∙ front.ahead;
  rest = subst (λ (both : DeckKind × List SizedStatement). AreSizedFrom both.0 earlier (stood earlier) (drop (stood earlier) old) both.1 front.later front.behind front.others) (λ i. (sym same.deck.kind i, e i)) front.rest;
  unchanged = subst (λ n. take n old ≡ take n cards) (sym same.deck.before) front.unchanged;
  all = front.all;
}

-- its next statement is taken
pub front-next : (kind : DeckKind) (old cards : List Card) (earlier : List Statement) (span : Span) (sizer : Sizer) (deck next : OldDeck) (sized : SizedStatement) → IsOnSpan kind old cards earlier span sizer deck →
    deck.stage ≡ stages.Front → IsSameFront deck next → left deck ≡ sized ∷ left next → IsSizer next.kind cards earlier sizer × IsInFront old cards earlier (sized ∷ left next) next
front-next kind old cards earlier span sizer deck next sized on stage same e = (
  subst (λ (k : DeckKind). IsSizer k cards earlier sizer) (sym (same.deck.kind ∙ on.kept_on.kinds)) on.sizer_is,
  in-front-same old cards earlier (left deck) (sized ∷ left next) deck next e same (subst (IsAtStage kind old cards earlier deck) stage on.kept_on.standing),
)

-- a deck that is made of its cards stands in front of an edited one of the same first cards
pub deck-in-front : (old cards : List Card) (parts : DeckParts) (deck : OldDeck) → IsSizedDeck old parts → deck.kind ≡ parts.kind → deck.ahead.now ≡ old → left deck ≡ sized_in parts.pieces →
    take deck.before old ≡ take deck.before cards → IsInFront old cards [] (left deck) deck
deck-in-front old cards parts deck is kind ahead all unchanged =
    let statements = statements_of (reverse old) in
    record {
      later = reverse (up_to_end statements);
      behind = parts.behind;
      others = reverse (behind_end statements);
      within = omega arith;
      ahead = ahead;
      rest = subst (λ (both : DeckKind × List SizedStatement). AreSizedFrom both.0 [] 0 old both.1 (reverse (up_to_end statements)) parts.behind (reverse (behind_end statements))) (λ i. (sym kind i, sym all i)) is.sized;
      unchanged = unchanged;
      all = append-none (reverse (reverse (up_to_end statements))) ∙ reverse-reverse (up_to_end statements);
    }
