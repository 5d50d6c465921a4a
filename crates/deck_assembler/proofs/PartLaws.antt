-- What a walk over a deck made are the parts of its object.
use Rattle.std.{proofs.Common.{◌≡◌, ◌∙◌, ℕ, ◌+◌, List, [], ◌∷◌, ◌++◌, Option, Some, None, map, drop, reverse, refl, ap, ap₂, sym, subst, append-nil}, specs.Prelude.filter_map, proofs.lemmas.List.reverse-append, proofs.lemmas.List.Elements.filter_map-append}
use Rattle.deck_objects.specs.{Joins.CodedLines.{IsCoded, IsStored, AreShown, AreCoded}, Joins.PartsOf.ArePartsOf, declared.lines.CodedLine.CodedLine, declared.lines.Line.Line, declared.object.ObjectParts.ObjectParts}
use Rattle.deck_assembler.{proofs.ReverseLaws.map-reverse, specs.Joins.SizedDecks.AreListedFrom, specs.Joins.SharedNames.entries_to, specs.Joins.Walks.{Whole, IsWhole, all_settled, context_in, AreShownTo, AreLinedAs}, specs.Joins.DeckWalks.{IsDone, IsListing, shown_with}, specs.declared.deck_lines.DeckLines.DeckLines, specs.declared.deck_walk.Making.Making}
use Rattle.definitions.{specs.Cards.Card, specs.DeckInput.Deck, specs.DeckKinds.{up_to_end, behind_end, kind_of_statements}, specs.Entries.entries_of, specs.Lengths.BlockRow, specs.Objects.{Shown, shown_of, only_listed, coded_of, context_of, object_in, object_of}, specs.Settled.Settled, specs.Settling.settled_all, specs.StatementItems.Context, specs.Statements.{Statement, statements_of}, specs.Words.Coded, specs.declared.deck_kind.DeckKind.DeckKind, specs.declared.deck_kind.DeckKind.TheVariants.{Rel, Abs, Periph}, proofs.ReachLaws.statements-reach, proofs.RiseLaws.statements-laid_out}
use Rattle.deck_objects.specs.declared.lines.FieldLists.{FieldLists}

-- lines behind which no card is left
shown-all : (kind : DeckKind) (rows : List BlockRow) (lists : FieldLists) (before : ℕ) (cards : List Card) (lines : List Line) (shown : List Shown) (stood : ℕ) (ahead : List Card) →
    AreShownTo kind rows lists before cards lines shown stood ahead → ahead ≡ [] → AreShown kind rows lists before cards lines shown
shown-all kind rows lists before cards [] [] stood ahead h e = h.1 ∙ e
shown-all kind rows lists before cards [] (one ∷ shown) stood ahead h e = h
shown-all kind rows lists before cards (line ∷ lines) [] stood ahead h e = h
shown-all kind rows lists before cards (line ∷ lines) (one ∷ shown) stood ahead h e = (h.0, shown-all kind rows lists (before + line.cards) (drop line.cards cards) lines shown stood ahead h.1 e)

-- the statements up to END among those that are shown
abbrev coded_among : List Shown → List Coded
coded_among shown = filter_map (λ (one : Shown). one.coded) shown

-- a line more, by what it stores
abbrev MoreCoded : DeckKind → List BlockRow → FieldLists → List Line → Option CodedLine → List Coded → Type 0
MoreCoded kind rows lists lines stored all = elim stored [
  | None ↦ AreCoded kind rows lists lines all
  | Some line ↦ elim all [ [] ↦ ⊥ | coded ∷ others ↦ IsCoded kind rows lists line coded × AreCoded kind rows lists lines others ]
]

abbrev with_coded : Option Coded → List Coded → List Coded
with_coded None others = others
with_coded (Some coded) others = coded ∷ others

more-coded : (kind : DeckKind) (rows : List BlockRow) (lists : FieldLists) (lines : List Line) (stored : Option CodedLine) (coded : Option Coded) (others : List Coded) → IsStored kind rows lists stored coded →
    AreCoded kind rows lists lines others → MoreCoded kind rows lists lines stored (with_coded coded others)
more-coded kind rows lists lines None None others h rest = rest
more-coded kind rows lists lines None (Some coded) others h rest = absurd h
more-coded kind rows lists lines (Some line) None others h rest = absurd h
more-coded kind rows lists lines (Some line) (Some coded) others h rest = (h, rest)

coded-among : (one : Shown) (shown : List Shown) → coded_among (one ∷ shown) ≡ with_coded one.coded (coded_among shown)
coded-among one shown = step one.coded
  where
    step : (coded : Option Coded) → (let other : Shown = record { statement = one.statement; letters = one.letters; coded = coded } in coded_among (other ∷ shown)) ≡ with_coded coded (coded_among shown)
    step None = refl
    step (Some coded) = refl

coded-shown : (kind : DeckKind) (rows : List BlockRow) (lists : FieldLists) (before : ℕ) (cards : List Card) (lines : List Line) (shown : List Shown) → AreShown kind rows lists before cards lines shown →
    AreCoded kind rows lists lines (coded_among shown)
coded-shown kind rows lists before cards [] [] h = tt
coded-shown kind rows lists before cards [] (one ∷ shown) h = absurd h
coded-shown kind rows lists before cards (line ∷ lines) [] h = absurd h
coded-shown kind rows lists before cards (line ∷ lines) (one ∷ shown) h =
    subst (MoreCoded kind rows lists lines line.coded) (sym (coded-among one shown))
    (more-coded kind rows lists lines line.coded one.coded (coded_among shown) h.0.stored (coded-shown kind rows lists (before + line.cards) (drop line.cards cards) lines shown h.1))

among-up_to_end : (context : Context) (settled : List Settled) → coded_among (map (shown_of context) settled) ≡ map (coded_of context) settled
among-up_to_end context [] = refl
among-up_to_end context (first ∷ settled) = ap (λ l. coded_of context first ∷ l) (among-up_to_end context settled)

among-behind : (statements : List Statement) → coded_among (map only_listed statements) ≡ []
among-behind [] = refl
among-behind (first ∷ statements) = among-behind statements

-- the statements of the listing in order
pub shown-object : (context : Context) (settled : List Settled) (others : List Statement) → reverse (map only_listed others ++ map (shown_of context) settled) ≡ reverse (map (shown_of context) settled) ++ map only_listed (reverse others)
shown-object context settled others = reverse-append (map only_listed others) (map (shown_of context) settled) ∙ ap (λ l. reverse (map (shown_of context) settled) ++ l) (sym (map-reverse only_listed others))

coded-object : (context : Context) (settled : List Settled) (others : List Statement) → coded_among (reverse (map (shown_of context) settled) ++ map only_listed (reverse others)) ≡ reverse (map (coded_of context) settled)
coded-object context settled others =
    filter_map-append (λ (one : Shown). one.coded) (reverse (map (shown_of context) settled)) (map only_listed (reverse others))
    ∙ ap₂ (λ (a b : List Coded). a ++ b) (ap coded_among (sym (map-reverse (shown_of context) settled)) ∙ among-up_to_end context (reverse settled) ∙ map-reverse (coded_of context) settled) (among-behind (reverse others))
    ∙ append-nil (reverse (map (coded_of context) settled))

entries-all : (kind : DeckKind) (settled : List Settled) → entries_to kind settled settled ≡ entries_of kind settled
entries-all Rel settled = refl
entries-all Abs settled = refl
entries-all Periph settled = refl

-- all lines of a deck
done-shown : (whole : Whole) (lines : DeckLines) → IsListing whole [] lines →
    AreShown whole.deck.kind whole.rows lines.fields 0 whole.cards lines.lines.items (shown_with whole (reverse whole.others))
done-shown whole lines listing = step listing.coming listing.all listing.listed
  where
    step : (coming : List Statement) → listing.passed ++ coming ≡ reverse whole.others → AreListedFrom lines.stood (drop lines.stood whole.cards) [] coming →
        AreShown whole.deck.kind whole.rows lines.fields 0 whole.cards lines.lines.items (shown_with whole (reverse whole.others))
    step [] all h =
        let passed : listing.passed ≡ reverse whole.others = sym (append-nil listing.passed) ∙ all in
        let lined = subst (λ (l : List Statement). AreLinedAs whole (shown_with whole l) lines) passed listing.lined in
        shown-all whole.deck.kind whole.rows lines.fields 0 whole.cards lines.lines.items (shown_with whole (reverse whole.others)) lines.stood (drop lines.stood whole.cards) lined h
    step (given ∷ coming) all h = absurd h

-- what the statements were coded with is what the definitions have
pub context-same : (whole : Whole) → IsWhole whole → context_in whole ≡ context_of whole.deck.kind (all_settled whole)
context-same whole is =
    let settled = all_settled whole in
    ap₂ (λ (rows : List BlockRow) (literals : List ℕ). let context : Context = record { kind = whole.deck.kind; settled = settled; rows = rows; literals = literals } in context) is.rows is.sized.literals

-- the parts of what was made
pub record AreMade (whole : Whole) (made : Making) (parts : ObjectParts) : Type 0 where
  pub kind : parts.kind ≡ whole.deck.kind
  pub rows : parts.bases ≡ whole.rows
  pub literals : parts.literals.items ≡ whole.deck.literals
  pub lines : parts.lines.items ≡ made.lines.lines.items
  pub fields : parts.fields ≡ made.lines.fields
  pub entries : parts.entries.items ≡ made.names
  pub externals : parts.externals.items ≡ whole.deck.externals

made-parts : (name : List ℕ) (whole : Whole) (made : Making) (parts : ObjectParts) → IsWhole whole → IsDone whole made → AreMade whole made parts →
    ArePartsOf whole.cards parts (object_in name (context_of whole.deck.kind (all_settled whole)) whole.others)
made-parts name whole made parts is done are =
    let kind = whole.deck.kind in
    let settled = all_settled whole in
    let context = context_of kind settled in
    let same = context-same whole is in
    let shown = done-shown whole made.lines done.listing in
    let listing : shown_with whole (reverse whole.others) ≡ reverse (map only_listed whole.others ++ map (shown_of context) settled) =
    ap (λ (c : Context). reverse (map (shown_of c) settled) ++ map only_listed (reverse whole.others)) same ∙ sym (shown-object context settled whole.others) in
    let moved = λ (P : DeckKind → List BlockRow → FieldLists → List Line → Type 0) (h : P kind whole.rows made.lines.fields made.lines.lines.items).
    subst (λ (k : DeckKind). P k parts.bases parts.fields parts.lines.items) (sym are.kind)
    (subst (λ (r : List BlockRow). P kind r parts.fields parts.lines.items) (sym are.rows)
    (subst (λ (i : FieldLists). P kind whole.rows i parts.lines.items) (sym are.fields)
    (subst (λ (l : List Line). P kind whole.rows made.lines.fields l) (sym are.lines) h))) in
    record {
      kind = are.kind;
      rows = are.rows ∙ is.rows;
      literals = are.literals ∙ is.sized.literals;
      entries = are.entries ∙ done.noted ∙ entries-all kind settled;
      externals = are.externals ∙ is.sized.externals;
      shown = moved (λ k r i l. AreShown k r i 0 whole.cards l (reverse (map only_listed whole.others ++ map (shown_of context) settled)))
          (subst (AreShown kind whole.rows made.lines.fields 0 whole.cards made.lines.lines.items) listing shown);
      coded = moved (λ k r i l. AreCoded k r i l (reverse (map (coded_of context) settled)))
          (subst (AreCoded kind whole.rows made.lines.fields made.lines.lines.items)
          (ap coded_among (listing ∙ shown-object context settled whole.others) ∙ coded-object context settled whole.others)
          (coded-shown kind whole.rows made.lines.fields 0 whole.cards made.lines.lines.items (shown_with whole (reverse whole.others)) shown));
      laid = statements-laid_out kind whole.known context refl;
      reach = statements-reach kind whole.known context;
      few = is.few;
    }

-- the parts of the object of a deck
pub parts-of : (name : List ℕ) (whole : Whole) (made : Making) (parts : ObjectParts) → IsWhole whole → IsDone whole made → AreMade whole made parts →
    whole.known ≡ up_to_end (statements_of (reverse whole.cards)) → whole.others ≡ behind_end (statements_of (reverse whole.cards)) → (let deck : Deck = record { name = name; cards = whole.cards } in ArePartsOf whole.cards parts (object_of deck))
parts-of name whole made parts is done are known others =
    let all = statements_of (reverse whole.cards) in
    subst (λ (o : List Statement). let statements = up_to_end all in ArePartsOf whole.cards parts (object_in name (context_of (kind_of_statements statements) (settled_all (kind_of_statements statements) statements)) o)) others
    (subst (λ (s : List Statement). ArePartsOf whole.cards parts (object_in name (context_of (kind_of_statements s) (settled_all (kind_of_statements s) s)) whole.others)) known
    (subst (λ (k : DeckKind). ArePartsOf whole.cards parts (object_in name (context_of k (settled_all k whole.known)) whole.others)) is.sized.kind (made-parts name whole made parts is done are)))
