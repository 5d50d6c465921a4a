-- What is kept of a deck is what its cards make.
use Rattle.std.{proofs.Common.{◌≡◌, ℕ, zero, suc, List, [], ◌∷◌, length, drop, sym, ap, ◌∙◌, subst, arith, map, All}, specs.Prelude.reverse, specs.List.AllByRecursion, proofs.lemmas.List.{reverse-reverse, drop_all}, proofs.lemmas.List.Elements.{All-from_recursion, recursion_from_All}}
use Rattle.cards.specs.{Joins.Spans.{IsSpan, statement_at, statements_at}, declared.statement_list.Span.Span}
use Rattle.definitions.{specs.Cards.Card, specs.DeckKinds.{up_to_end, behind_end, kind_of_statements}, specs.Statements.{Statement, statements_of, cards_in, AreNumbered}, specs.declared.deck_kind.DeckKind.DeckKind, proofs.StatementLaws.{cards_in-statements_of, numbered-statements_of}}
use Rattle.deck_assembler.{specs.Joins.DeckParts.DeckParts, specs.Joins.FirstStatements.{first_statements, all_statements, IsEnding}, specs.Joins.SizedDecks.{AreListedFrom, IsSizedUp, IsSizedDeck}, specs.Joins.Sizers.{stood, ahead, IsSizer}, specs.declared.sizer.Sizer.Sizer, proofs.EndLaws.{all-split, next-span}, proofs.ForwardLaws.{stood-more, ahead-less, all-forward, sized-count}, proofs.OntoLaws.{onto, onto-reverse}, proofs.StateForward.{all-states, all-filled}}

-- how many cards each span has
abbrev pub counts_of : List Span → List ℕ
counts_of spans = map (λ (span : Span). span.count) spans

spans-behind : (P : Span → Type 0) (count : ℕ) (spans : List Span) → AllByRecursion P spans → AllByRecursion P (drop count spans)
spans-behind P zero spans h = h
spans-behind P (suc count) [] h = tt
spans-behind P (suc count) (span ∷ spans) h = spans-behind P count spans h.1

-- the spans behind some are spans
pub all-behind : (cards count : ℕ) (spans : List Span) → All (IsSpan cards) spans → All (IsSpan cards) (drop count spans)
all-behind cards count spans h = All-from_recursion (IsSpan cards) (drop count spans) (spans-behind (IsSpan cards) count spans (recursion_from_All (IsSpan cards) spans h))

numbered-onto : (later earlier : List Statement) → AreNumbered (onto later earlier) → AreNumbered earlier
numbered-onto [] earlier h = h
numbered-onto (statement ∷ later) earlier h = (numbered-onto later (statement ∷ earlier) h).1

-- the statements behind some are listed
listed-forward : (cards : List Card) (spans : List Span) (earlier : List Statement) → AllByRecursion (IsSpan (length cards)) spans → AreNumbered (onto (statements_at cards spans) earlier) →
    cards_in (onto (statements_at cards spans) earlier) ≡ cards → AreListedFrom (stood earlier) (ahead cards earlier) (counts_of spans) (statements_at cards spans)
listed-forward cards [] earlier is numbered whole = drop_all (stood earlier) cards (let n = ap length whole in omega (arith, n))
listed-forward cards (span ∷ spans) earlier is numbered whole =
    let statement = statement_at cards span in
    let before = (numbered-onto (statements_at cards spans) (statement ∷ earlier) numbered).0 in
    let here = next-span cards earlier span is.0 before in
    let more = stood-more earlier statement (ahead cards earlier) span.count here.cards here.within in
    let rest = listed-forward cards spans (statement ∷ earlier) is.1 numbered whole in
    (here, subst (λ (both : ℕ × List Card). AreListedFrom both.0 both.1 (counts_of spans) (statements_at cards spans)) (λ i. (sym more i, sym (ahead-less cards earlier statement span.count more) i)) rest)

-- all statements of spans are those of the cards
pub all-statements : (cards : List Card) (spans : List Span) → statements_at cards spans ≡ reverse (statements_of (reverse cards)) → all_statements cards spans ≡ statements_of (reverse cards)
all-statements cards spans e = ap reverse e ∙ reverse-reverse (statements_of (reverse cards))

pub all-numbered : (cards : List Card) (spans : List Span) → statements_at cards spans ≡ reverse (statements_of (reverse cards)) → AreNumbered (all_statements cards spans)
all-numbered cards spans e = subst AreNumbered (sym (all-statements cards spans e)) (numbered-statements_of (reverse cards))

-- what is kept of a deck
abbrev pub kept_of : DeckKind → Sizer → List ℕ → DeckParts
kept_of kind sizer behind = record { kind = kind; pieces = sizer.pieces.items; behind = behind; symbols = sizer.symbols; externals = sizer.externals.items; literals = sizer.literals; lengths = sizer.lengths }

-- and it is what the cards make
pub deck-made : (cards : List Card) (spans : List Span) (count : ℕ) (kind : DeckKind) (sizer : Sizer) (behind : List ℕ) →
    statements_at cards spans ≡ reverse (statements_of (reverse cards)) → All (IsSpan (length cards)) spans → kind ≡ kind_of_statements (up_to_end (all_statements cards spans)) →
    IsEnding cards spans count → IsSizer kind cards (first_statements cards spans count) sizer → behind ≡ counts_of (drop count spans) → IsSizedDeck cards (kept_of kind sizer behind)
deck-made cards spans count kind sizer behind e are made ending is b =
    let first = first_statements cards spans count in
    let left = drop count spans in
    let whole = all-statements cards spans e in
    let onto-all : onto (statements_at cards left) first ≡ all_statements cards spans = onto-reverse (statements_at cards left) first ∙ sym (all-split cards spans count) in
    let listed : AreListedFrom (stood first) (ahead cards first) (counts_of left) (statements_at cards left) =
    listed-forward cards left first (spans-behind (IsSpan (length cards)) count spans (recursion_from_All (IsSpan (length cards)) spans are))
    (subst AreNumbered (sym onto-all) (all-numbered cards spans e))
    (ap cards_in (onto-all ∙ whole) ∙ cards_in-statements_of (reverse cards) ∙ reverse-reverse cards) in
    let deck = kept_of kind sizer behind in
    let others = reverse (reverse (statements_at cards left)) in
    let listed' : AreListedFrom (stood first) (ahead cards first) behind others =
    subst (λ (both : List ℕ × List Statement). AreListedFrom (stood first) (ahead cards first) both.0 both.1) (λ i. (sym b i, sym (reverse-reverse (statements_at cards left)) i)) listed in
    let told : IsSizedUp cards first (reverse (statements_at cards left)) deck = record {
      kind = made ∙ ap kind_of_statements ending.front;
      symbols = is.symbols;
      externals = is.externals;
      literals = is.literals;
      lengths = is.lengths;
      sized = all-forward kind cards first sizer.pieces.items behind others is.sized listed';
      states = all-states kind first sizer.pieces.items (sized-count kind cards first _ is.sized) is.states;
      filled = all-filled sizer.pieces.items is.filled;
    } in
    subst (λ (both : List Statement × List Statement). IsSizedUp cards both.0 both.1 deck)
    (λ i. ((sym ending.front ∙ ap up_to_end whole) i, (sym ending.behind ∙ ap behind_end whole) i)) told
