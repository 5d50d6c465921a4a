-- The lines of the object before an edit go beside a walk over the edited deck; what was not bound otherwise keeps its line.
use Rattle.std.{proofs.Common.{◌≡◌, ◌∙◌, ℕ, ◌+◌, ◌-◌, ◌≤◌, ◌⊎◌, inl, inr, Bool, true, false, Result, Ok, Err, List, [], ◌∷◌, ◌++◌, Option, Some, None, zero, suc, ◌<◌, length, get_or, arith, map, take, drop, reverse, refl, ap, ap₂, sym, subst, append_assoc, length-append, length-take-le}, specs.Prelude.{IfSome, not, ◌||◌}, specs.List.list_any, proofs.lemmas.Bool.cases_lt, proofs.lemmas.List.{drop-drop, length-reverse, reverse-append, reverse-reverse}}
use Rattle.definitions.{specs.Cards.Card, specs.DeckInput.Deck, specs.DeckKinds.{behind_end, kind_of_statements}, specs.Forms.{Form, element_form}, specs.Literals.literal_words, specs.Letters.in_order, specs.Objects.{Shown, shown_of, only_listed, coded_of, object_of}, specs.Laws.Rebound.{coded_elements, context_from, is_rebound, same_value}, specs.Settled.{Settled, defined}, specs.Settling.{View, settle, settled_all}, specs.StatementItems.{Context, Item, final_names, items_of}, specs.Statements.{Statement, cards_in, statements_of}, specs.Laws.Agreement.unnumbered, specs.Words.Coded, specs.declared.deck_kind.DeckKind.DeckKind, specs.declared.letter.Letter.Letter, specs.Lengths.BlockRow, proofs.EditLaws.cards_in-append, proofs.ReboundLaws.{letters-enough, fields-enough}}
use Rattle.deck_objects.specs.declared.lines.FieldLists.{FieldLists}
use Rattle.deck_objects.specs.{Joins.CodedLines.{IsCoded, IsShown, IsStored, AreShown}, Joins.PartsOf.ArePartsOf, declared.lines.CodedLine.CodedLine, declared.lines.Line.Line, declared.object.ObjectParts.ObjectParts}
use Rattle.deck_assembler.{specs.Joins.DeckParts.sized_in, specs.Joins.DeckWalks.IsWalked, specs.Joins.FormerLines.{IsSameTail, IsOneOf, IsMissedInFront, IsMissedInTail, IsTaken, IsTakenOfTail, IsNextInFront, IsNextInTail, IsNextLine, IsBare, WasLine, WasLineIfAny, shown_from, AreBeside, AreOfTail, AreOfHead, AreOfTailIfAny, IsBeside, AreChosen, IsWalkedBeside}, specs.Joins.FirstSymbols.symbol_in, specs.Joins.DueCodes.{one_where, has_line, code_due, code_due_of, CodePlan, HasNoTail, IsBesideTail, IsDueBeside, IsPlanned, IsPlanOf}, specs.Joins.Formers.{known_in, IsFormerOf}, specs.Joins.Rebindings.AreBindings, specs.Joins.SizedDecks.{IsSizedStatement, AreSizedFrom}, specs.Joins.Sizers.stood, specs.Joins.TailLines.{lines_behind, AreAlikeOn}, specs.Joins.Tails.{AreSettledAlike, HasTail, HasTailIfAny, IsEditedOf, StandBeforeTail}, specs.Joins.Walks.{Whole, IsWhole, has_row, AreLined, AreNoted}, specs.declared.deck_walk.Making.Making, specs.declared.former.Former.Former, specs.declared.former_lines.FormerLine.FormerLine, specs.declared.former_lines.FormerLines.FormerLines, specs.declared.sized_statement.SizedStatement.SizedStatement, proofs.DeckWalkLaws.{IsStep, there}, proofs.HeadDeckLaws.kinds-told, proofs.HeadLaws.same-between, proofs.HeadLineLaws.{context_as, head-lines-beside}, proofs.NeutralLaws.front-neutral, proofs.ForwardLaws.stood-more, proofs.OntoLaws.{append-none, drop-none, first-of, rest-of, reverse-onto}, proofs.PartLaws.shown-object, proofs.WalkLaws.stood-step}

-- a coded statement is known by its operation, its block, its place and its fields
abbrev IsCodedAs : DeckKind → List BlockRow → FieldLists → CodedLine → Settled → List Item → Type 0
IsCodedAs kind rows lists line settled fields = let one : Coded = record { settled = settled; fields = fields } in IsCoded kind rows lists line one

coded-alike : (kind : DeckKind) (rows : List BlockRow) (lists : FieldLists) (line : CodedLine) (other settled : Settled) (fields more : List Item) → unnumbered other ≡ unnumbered settled → fields ≡ more →
    IsCodedAs kind rows lists line other fields → IsCodedAs kind rows lists line settled more
coded-alike kind rows lists line other settled fields more alike e is =
    let plain : IsCodedAs kind rows lists line (unnumbered other) fields =
    record { operation = is.operation; block = is.block; place = is.place; end = is.end; begins_run = is.begins_run; fields = is.fields; kept = is.kept; zeros = is.zeros } in
    let moved : IsCodedAs kind rows lists line (unnumbered settled) more = subst (IsCodedAs kind rows lists line (unnumbered settled)) e (subst (λ (p : Settled). IsCodedAs kind rows lists line p fields) alike plain) in
    record { operation = moved.operation; block = moved.block; place = moved.place; end = moved.end; begins_run = moved.begins_run; fields = moved.fields; kept = moved.kept; zeros = moved.zeros }

-- the letters of a line that is not bound otherwise
pub still-letters : (kind : DeckKind) (found : FormerLine) (settled : Settled) (new : Context) (was : WasLine kind found settled) → new.kind ≡ kind → is_rebound was.context new settled ≡ false →
    found.line.now.letters ≡ (shown_of new settled).letters
still-letters kind found settled new was k e = was.letters ∙ ap in_order (letters-enough was.context new was.other settled (was.same_kind ∙ sym k) was.alike e)

-- and what it stores
pub still-coded : (kind : DeckKind) (found : FormerLine) (settled : Settled) (new : Context) (was : WasLine kind found settled) → new.kind ≡ kind → is_rebound was.context new settled ≡ false →
    IsCoded kind was.context.rows found.fields.now found.coded.now (coded_of new settled)
still-coded kind found settled new was k e =
    coded-alike kind was.context.rows found.fields.now found.coded.now was.other settled (items_of was.context was.other was.other.read.operation) (items_of new settled settled.read.operation) was.alike
    (fields-enough was.context new was.other settled (was.same_kind ∙ sym k) was.alike e)
    (subst (λ (d : DeckKind). IsCoded d was.context.rows found.fields.now found.coded.now (coded_of was.context was.other)) was.same_kind was.coded)

-- the next line is that of the next statement
statement-same : (a b : Statement) → a.before ≡ b.before → a.cards ≡ b.cards → a ≡ b
statement-same a b e f = λ i. record { before = e i; cards = f i }

was-coded : (kind : DeckKind) (rows : List BlockRow) (lists : FieldLists) (line : Option CodedLine) (stored : CodedLine) (coded : Coded) → line ≡ Some stored → IsStored kind rows lists line (Some coded) → IsCoded kind rows lists stored coded
was-coded kind rows lists line stored coded e is = subst (λ (l : Option CodedLine). IsStored kind rows lists l (Some coded)) e is

not-listed : (kind : DeckKind) (rows : List BlockRow) (lists : FieldLists) (line : Option CodedLine) (stored : CodedLine) → line ≡ Some stored → IsStored kind rows lists line None → ⊥
not-listed kind rows lists line stored e is = subst (λ (l : Option CodedLine). IsStored kind rows lists l None) e is

-- a line that was found and shows a statement of a deck is the line of one that is settled alike
was-line : (kind : DeckKind) (context : Context) (other settled : Settled) (found : FormerLine) (old after : FormerLines) (stood : ℕ) (ahead : List Card) → IsOneOf old after found → context.kind ≡ kind → AreBindings old.bindings context →
    unnumbered other ≡ unnumbered settled → IsShown context.kind context.rows old.fields.now stood ahead found.line.now (shown_of context other) → WasLine kind found settled
was-line kind context other settled found old after stood ahead one same bindings alike here = record {
  context = context;
  other = other;
  same_kind = same;
  bindings = subst (λ b. AreBindings b context) (sym one.bindings) bindings;
  alike = alike;
  letters = here.letters;
  coded = subst (λ (l : FieldLists). IsCoded context.kind context.rows l found.coded.now (coded_of context other)) (sym one.fields)
      (was-coded context.kind context.rows old.fields.now found.line.now.coded found.coded.now (coded_of context other) one.coded here.stored);
}

pub at-or-not : (a b : ℕ) → (a ≡ b) ⊎ (a ≡ b → ⊥)
at-or-not a b = elim (cases_lt a b) [
  | inl less ↦ inr (λ e. omega (arith, less, e))
  | inr more ↦ elim (cases_lt b a) [
    | inl less ↦ inr (λ e. omega (arith, less, e))
    | inr enough ↦ inl (omega (arith, more, enough))
  ]
]

-- what was found in front is the line of a statement, and the lines that are left go beside those behind it
pub record GoesInFront (kind : DeckKind) (cards : List Card) (context : Context) (earlier coming : List Statement) (given : Statement) (stood count : ℕ) (found : FormerLine) (after : FormerLines) : Type 0 where
  pub was : WasLine kind found (settle kind (settled_all kind earlier) given)
  pub later : List Statement
  pub all : coming ≡ given ∷ later
  pub beside : AreBeside kind cards context (given ∷ earlier) later (stood + count) after

pub next-line : (kind : DeckKind) (cards : List Card) (context : Context) (earlier coming : List Statement) (given : Statement) (stood : ℕ) (sized : SizedStatement) (found : FormerLine) (old after : FormerLines) →
    AreBeside kind cards context earlier coming stood old → IsTaken old after stood sized.cards found → IsSizedStatement kind earlier stood (drop stood cards) sized given →
    GoesInFront kind cards context earlier coming given stood sized.cards found after
next-line kind cards context earlier coming given stood sized found old after is taken next = by coming is.listed shown
  where
    line : Line
    line = found.line.now

    shown : AreShown context.kind context.rows old.fields.now stood (drop stood is.old_cards) (line ∷ after.left.now) (shown_from context earlier coming is.listed)
    shown = subst (λ (l : List Line). AreShown context.kind context.rows old.fields.now stood (drop stood is.old_cards) l (shown_from context earlier coming is.listed)) taken.lines is.shown

    by : (ahead listed : List Statement) → AreShown context.kind context.rows old.fields.now stood (drop stood is.old_cards) (line ∷ after.left.now) (shown_from context earlier ahead listed) →
        GoesInFront kind cards context earlier ahead given stood sized.cards found after
    by [] [] h = absurd h
    by [] (one ∷ listed) h = absurd (not-listed context.kind context.rows old.fields.now line.coded found.coded.now taken.one.coded h.0.stored)
    by (statement ∷ later) listed h =
        let k = context.kind in
        let here = h.0 in
        let between = same-between sized.cards stood old.before is.old_cards cards is.same taken.within in
        let own : take line.cards (drop stood is.old_cards) ≡ take sized.cards (drop stood is.old_cards) = ap (λ n. take n (drop stood is.old_cards)) taken.cards in
        let same : statement ≡ given = statement-same statement given (sym here.before ∙ sym next.before) (sym here.cards ∙ own ∙ between ∙ next.cards) in
        record {
          was = was-line kind context (settle k (settled_all k earlier) statement) (settle kind (settled_all kind earlier) given) found old after stood (drop stood is.old_cards) taken.one is.same_kind is.bindings
              (ap₂ (λ (d : DeckKind) (s : Statement). unnumbered (settle d (settled_all d earlier) s)) is.same_kind same) here;
          later = later;
          all = ap (λ s. s ∷ later) same;
          beside = record {
            old_cards = is.old_cards;
            listed = listed;
            same_kind = is.same_kind;
            bindings = subst (λ b. AreBindings b context) (sym taken.one.same_bindings) is.bindings;
            same = subst (λ n. take n is.old_cards ≡ take n cards) (sym taken.same_before) is.same;
            shown = subst (λ (l : FieldLists). AreShown k context.rows l (stood + sized.cards) (drop (stood + sized.cards) is.old_cards) after.left.now (shown_from context (given ∷ earlier) later listed)) (sym taken.one.same_fields)
                (subst (λ (s : Statement). AreShown k context.rows old.fields.now (stood + sized.cards) (drop (stood + sized.cards) is.old_cards) after.left.now (shown_from context (s ∷ earlier) later listed)) same
                (subst (λ n. AreShown k context.rows old.fields.now (stood + n) (drop (stood + n) is.old_cards) after.left.now (shown_from context (statement ∷ earlier) later listed)) taken.cards
                (subst (λ (a : List Card). AreShown k context.rows old.fields.now (stood + line.cards) a after.left.now (shown_from context (statement ∷ earlier) later listed)) (drop-drop line.cards stood is.old_cards) h.1)));
          };
        }

-- more cards stand behind a statement than before it
stood-longer : (between earlier : List Statement) (given : Statement) → 0 < length given.cards → stood earlier < stood (reverse between ++ given ∷ earlier)
stood-longer between earlier given some =
    let parts = cards_in-append (reverse between) (given ∷ earlier) in
    let own = length-append (cards_in earlier) given.cards in
    omega (arith, parts, own, some)

-- before the tail its lines are left as they are
pub record ComesToTail (kind : DeckKind) (context : Context) (earlier coming between : List Statement) (given : Statement) (standing count : ℕ) (after : FormerLines) : Type 0 where
  pub rest : List Statement
  pub all : between ≡ given ∷ rest
  pub of : AreOfTail kind context (given ∷ earlier) coming rest (standing + count) after

pub before-tail : (kind : DeckKind) (cards : List Card) (context : Context) (earlier coming between : List Statement) (given : Statement) (standing : ℕ) (sized : SizedStatement) (old after : FormerLines) →
    AreOfTail kind context earlier (given ∷ coming) between standing old → (standing ≡ old.tail.at → ⊥) → IsSameTail old after → IsSizedStatement kind earlier standing (drop standing cards) sized given →
    ComesToTail kind context earlier coming between given standing sized.cards after
before-tail kind cards context earlier coming between given standing sized old after of other same next = by between of.all of.place of.alike
  where
    by : (ahead : List Statement) → given ∷ coming ≡ ahead ++ of.tail → stood (reverse ahead ++ earlier) ≡ old.tail.at → AreAlikeOn kind of.passed of.later (reverse ahead ++ earlier) of.tail →
        ComesToTail kind context earlier coming ahead given standing sized.cards after
    by [] all place alike = absurd (other (of.stands ∙ place))
    by (first ∷ rest) all place alike =
        let one = first-of given first coming (rest ++ of.tail) all in
        let whole : reverse rest ++ given ∷ earlier ≡ reverse (first ∷ rest) ++ earlier = ap (λ s. reverse rest ++ s ∷ earlier) one ∙ reverse-onto first rest earlier in
        record {
          rest = rest;
          all = ap (λ s. s ∷ rest) (sym one);
          of = record {
            same_kind = of.same_kind;
            bindings = subst (λ b. AreBindings b context) (sym same.bindings) of.bindings;
            tail = of.tail;
            all = rest-of given first coming (rest ++ of.tail) all;
            stands = ap (λ n. n + sized.cards) of.stands ∙ stood-more earlier given (drop standing cards) sized.cards next.cards next.within;
            place = ap (λ l. stood l) whole ∙ place ∙ sym (ap (λ t. t.at) same.tail);
            passed = of.passed;
            later = of.later;
            listed = of.listed;
            old_stood = of.old_stood;
            old_ahead = of.old_ahead;
            shown = subst (λ (l : List Line). AreShown context.kind context.rows after.fields.now of.old_stood of.old_ahead l (shown_from context of.passed of.later of.listed)) (sym (ap (λ t. t.left.now) same.tail))
                (subst (λ (i : FieldLists). AreShown context.kind context.rows i of.old_stood of.old_ahead old.tail.left.now (shown_from context of.passed of.later of.listed)) (sym same.fields) of.shown);
            alike = subst (λ (l : List Statement). AreAlikeOn kind of.passed of.later l of.tail) (sym whole) alike;
          };
        }

-- a statement that was sized has cards
pub sized-cards : (kind : DeckKind) (earlier : List Statement) (standing : ℕ) (ahead : List Card) (sized : SizedStatement) (given : Statement) → IsSizedStatement kind earlier standing ahead sized given → length given.cards ≡ sized.cards
sized-cards kind earlier standing ahead sized given next = ap length (sym next.cards) ∙ length-take-le sized.cards ahead next.within

-- where the tail begins nothing is left before it
pub at-tail : (kind : DeckKind) (context : Context) (earlier coming between : List Statement) (given : Statement) (standing : ℕ) (old : FormerLines) → AreOfTail kind context earlier (given ∷ coming) between standing old → standing ≡ old.tail.at →
    0 < length given.cards → between ≡ []
at-tail kind context earlier coming between given standing old of at_place some = by between of.all of.place
  where
    by : (ahead : List Statement) → given ∷ coming ≡ ahead ++ of.tail → stood (reverse ahead ++ earlier) ≡ old.tail.at → ahead ≡ []
    by [] all place = refl
    by (first ∷ rest) all place =
        let whole = ap (λ s. reverse rest ++ s ∷ earlier) (first-of given first coming (rest ++ of.tail) all) ∙ reverse-onto first rest earlier in
        let longer = subst (λ (l : List Statement). stood earlier < stood l) whole (stood-longer rest earlier given some) in
        let stands = of.stands in
        absurd (omega (arith, longer, place, at_place, stands))

-- what is settled there
tail-here : (kind : DeckKind) (context : Context) (earlier coming between : List Statement) (given : Statement) (standing : ℕ) (old : FormerLines) (of : AreOfTail kind context earlier (given ∷ coming) between standing old) → between ≡ [] →
    AreAlikeOn kind of.passed of.later earlier (given ∷ coming)
tail-here kind context earlier coming between given standing old of none =
    let all : given ∷ coming ≡ of.tail = of.all ∙ ap (λ l. l ++ of.tail) none in
    subst (AreAlikeOn kind of.passed of.later earlier) (sym all) (subst (λ (l : List Statement). AreAlikeOn kind of.passed of.later (reverse l ++ earlier) of.tail) none of.alike)

-- the next line of the tail is that of the next statement
pub record GoesInTail (kind : DeckKind) (context : Context) (earlier coming : List Statement) (given : Statement) (standing count : ℕ) (found : FormerLine) (after : FormerLines) : Type 0 where
  pub was : WasLine kind found (settle kind (settled_all kind earlier) given)
  pub of : AreOfTail kind context (given ∷ earlier) coming [] (standing + count) after

pub next-of-tail : (kind : DeckKind) (cards : List Card) (context : Context) (earlier coming between : List Statement) (given : Statement) (standing : ℕ) (sized : SizedStatement) (found : FormerLine) (old after : FormerLines) →
    AreOfTail kind context earlier (given ∷ coming) between standing old → between ≡ [] → IsTakenOfTail old after standing sized.cards found → IsSizedStatement kind earlier standing (drop standing cards) sized given → length cards ≤ 20000 →
    GoesInTail kind context earlier coming given standing sized.cards found after
next-of-tail kind cards context earlier coming between given standing sized found old after is none taken next few = here is.later shown (tail-here kind context earlier coming between given standing old is none)
  where
    line : Line
    line = found.line.now

    rows : List BlockRow
    rows = context.rows

    shown : AreShown context.kind rows old.fields.now is.old_stood is.old_ahead (line ∷ after.tail.left.now) (shown_from context is.passed is.later is.listed)
    shown = subst (λ (l : List Line). AreShown context.kind rows old.fields.now is.old_stood is.old_ahead l (shown_from context is.passed is.later is.listed)) taken.lines is.shown

    here : (later : List Statement) → AreShown context.kind rows old.fields.now is.old_stood is.old_ahead (line ∷ after.tail.left.now) (shown_from context is.passed later is.listed) →
        AreAlikeOn kind is.passed later earlier (given ∷ coming) → GoesInTail kind context earlier coming given standing sized.cards found after
    here [] h alike = absurd alike
    here (other ∷ later) h alike =
        let k = context.kind in
        let stands = ap (λ n. n + sized.cards) is.stands ∙ stood-more earlier given (drop standing cards) sized.cards next.cards next.within in
        record {
          was = was-line kind context (settle k (settled_all k is.passed) other) (settle kind (settled_all kind earlier) given) found old after is.old_stood is.old_ahead taken.one is.same_kind is.bindings
              (ap (λ (d : DeckKind). unnumbered (settle d (settled_all d is.passed) other)) is.same_kind ∙ alike.0) h.0;
          of = record {
            same_kind = is.same_kind;
            bindings = subst (λ b. AreBindings b context) (sym taken.one.same_bindings) is.bindings;
            tail = coming;
            all = refl;
            stands = stands;
            place = sym stands ∙ sym (stood-step standing sized.cards cards next.some next.within few) ∙ sym taken.at_is;
            passed = other ∷ is.passed;
            later = later;
            listed = is.listed;
            old_stood = is.old_stood + line.cards;
            old_ahead = drop line.cards is.old_ahead;
            shown = subst (λ (i : FieldLists). AreShown k rows i (is.old_stood + line.cards) (drop line.cards is.old_ahead) after.tail.left.now (shown_from context (other ∷ is.passed) later is.listed)) (sym taken.one.same_fields) h.1;
            alike = alike.1;
          };
        }

-- in the tail there is a line to be taken
pub missed-of-tail : (kind : DeckKind) (context : Context) (earlier coming between : List Statement) (given : Statement) (standing : ℕ) (old : FormerLines) → AreOfTail kind context earlier (given ∷ coming) between standing old → between ≡ [] →
    IsMissedInTail old None → ⊥
missed-of-tail kind context earlier coming between given standing old is none missed = here is.later old.tail.left.now refl is.shown (tail-here kind context earlier coming between given standing old is none)
  where
    here : (later : List Statement) (lines : List Line) → old.tail.left.now ≡ lines → AreShown context.kind context.rows old.fields.now is.old_stood is.old_ahead lines (shown_from context is.passed later is.listed) →
        AreAlikeOn kind is.passed later earlier (given ∷ coming) → ⊥
    here [] lines e h alike = alike
    here (other ∷ later) [] e h alike = h
    here (other ∷ later) (line ∷ lines) e h alike =
        let k = context.kind in
        let one = coded_of context (settle k (settled_all k is.passed) other) in
        subst (λ (l : Option CodedLine). IsStored k context.rows old.fields.now l (Some one)) (missed line lines e) h.0.stored

-- and in front one that is among the unchanged cards
pub missed-in-front : (kind : DeckKind) (cards : List Card) (context : Context) (earlier later : List Statement) (given : Statement) (standing count : ℕ) (old : FormerLines) → AreBeside kind cards context earlier (given ∷ later) standing old →
    length given.cards ≡ count → standing + count ≤ old.before → IsMissedInFront old standing count None → ⊥
missed-in-front kind cards context earlier later given standing count old is own within missed = here old.left.now refl is.shown
  where
    here : (lines : List Line) → old.left.now ≡ lines → AreShown context.kind context.rows old.fields.now standing (drop standing is.old_cards) lines (shown_from context earlier (given ∷ later) is.listed) → ⊥
    here [] e h = h
    here (line ∷ lines) e h =
        let k = context.kind in
        let one = coded_of context (settle k (settled_all k earlier) given) in
        let its : line.cards ≡ count = sym (length-take-le line.cards (drop standing is.old_cards) h.0.within) ∙ ap length h.0.cards ∙ own in
        subst (λ (l : Option CodedLine). IsStored k context.rows old.fields.now l (Some one)) (missed line lines e its within) h.0.stored

no-line : (line : Line) (lines : List Line) → line ∷ lines ≡ [] → ⊥
no-line line lines e = cc

-- what a step leaves of the lines of the object before
record Leaves (kind : DeckKind) (cards : List Card) (earlier coming : List Statement) (given : Statement) (stood count : ℕ) (found : Option FormerLine) (after : FormerLines) : Type 0 where
  was : WasLineIfAny kind found (settle kind (settled_all kind earlier) given)
  beside : IsBeside kind cards (given ∷ earlier) coming (stood + count) after

-- in front the tail stays
pub same-tail : (old after : FormerLines) (stood count : ℕ) (found : Option FormerLine) → IsNextInFront old after stood count found → IsSameTail old after
same-tail old after stood count None next = next.1
same-tail old after stood count (Some found) next = record { tail = next.same_tail; fields = next.one.same_fields; bindings = next.one.same_bindings }

tail-if-any : (kind : DeckKind) (cards : List Card) (earlier coming : List Statement) (given : Statement) (standing : ℕ) (sized : SizedStatement) (old after : FormerLines) →
    AreOfTailIfAny kind earlier (given ∷ coming) standing old → (standing ≡ old.tail.at → ⊥) → IsSameTail old after → IsSizedStatement kind earlier standing (drop standing cards) sized given →
    AreOfTailIfAny kind (given ∷ earlier) coming (standing + sized.cards) after
tail-if-any kind cards earlier coming given standing sized old after is other same next = elim is [
  | inl none ↦ inl (ap (λ t. t.left.now) same.tail ∙ none)
  | inr of ↦ let comes = before-tail kind cards of.0 earlier coming of.1 given standing sized old after of.2 other same next in inr (of.0, comes.rest, comes.of)
]

-- in front, whether or not there is a line
in-front-if-any : (kind : DeckKind) (cards : List Card) (earlier coming : List Statement) (given : Statement) (stood : ℕ) (sized : SizedStatement) (found : Option FormerLine) (old after : FormerLines) →
    IsBeside kind cards earlier (given ∷ coming) stood old → (stood ≡ old.tail.at → ⊥) → IsNextInFront old after stood sized.cards found → IsSizedStatement kind earlier stood (drop stood cards) sized given →
    Leaves kind cards earlier coming given stood sized.cards found after
in-front-if-any kind cards earlier coming given stood sized None old after is other next statement =
    record { was = tt; beside = record { front = inl next.0; tail = tail-if-any kind cards earlier coming given stood sized old after is.tail other next.1 statement } }
in-front-if-any kind cards earlier coming given stood sized (Some found) old after is other next statement = elim is.front [
  | inl none ↦ absurd (no-line found.line.now after.left.now (sym next.lines ∙ none))
  | inr beside ↦
      let goes = next-line kind cards beside.0 earlier beside.1 given stood sized found old after beside.2 next statement in
      let same = same-tail old after stood sized.cards (Some found) next in
      record { was = goes.was; beside = record { front = inr (beside.0, goes.later, goes.beside); tail = tail-if-any kind cards earlier coming given stood sized old after is.tail other same statement } }
]

-- in the tail
in-tail-if-any : (kind : DeckKind) (cards : List Card) (earlier coming : List Statement) (given : Statement) (stood : ℕ) (sized : SizedStatement) (found : Option FormerLine) (old after : FormerLines) →
    IsBeside kind cards earlier (given ∷ coming) stood old → stood ≡ old.tail.at → IsNextInTail old after stood sized.cards found → IsSizedStatement kind earlier stood (drop stood cards) sized given → length cards ≤ 20000 →
    Leaves kind cards earlier coming given stood sized.cards found after
in-tail-if-any kind cards earlier coming given stood sized None old after is place next statement few = record { was = tt; beside = record { front = inl next.0; tail = inl next.1 } }
in-tail-if-any kind cards earlier coming given stood sized (Some found) old after is place next statement few = elim is.tail [
  | inl none ↦ absurd (no-line found.line.now after.tail.left.now (sym next.lines ∙ none))
  | inr of ↦
      let own = sized-cards kind earlier stood (drop stood cards) sized given statement in
      let some = statement.some in
      let none = at-tail kind of.0 earlier coming of.1 given stood old of.2 place (omega (arith, own, some)) in
      let goes = next-of-tail kind cards of.0 earlier coming of.1 given stood sized found old after of.2 none next statement few in
      record { was = goes.was; beside = record { front = inl next.front; tail = inr (of.0, [], goes.of) } }
]

-- in either
next-if-any : (kind : DeckKind) (cards : List Card) (earlier coming : List Statement) (given : Statement) (stood : ℕ) (sized : SizedStatement) (found : Option FormerLine) (old after : FormerLines) →
    IsBeside kind cards earlier (given ∷ coming) stood old → IsNextLine old after stood sized.cards found → IsSizedStatement kind earlier stood (drop stood cards) sized given → length cards ≤ 20000 →
    Leaves kind cards earlier coming given stood sized.cards found after
next-if-any kind cards earlier coming given stood sized found old after is next statement few = by (at-or-not stood old.tail.at)
  where
    by : (stood ≡ old.tail.at) ⊎ (stood ≡ old.tail.at → ⊥) → Leaves kind cards earlier coming given stood sized.cards found after
    by (inl place) = in-tail-if-any kind cards earlier coming given stood sized found old after is place (next.tail place) statement few
    by (inr other) = in-front-if-any kind cards earlier coming given stood sized found old after is other (next.front other) statement

-- one step of a walk beside the lines of the object before
pub beside-step : (whole : Whole) (left : List SizedStatement) (sized : SizedStatement) (old new : Making) (found : Option FormerLine) (before after : FormerLines) → IsWhole whole → IsWalkedBeside whole (sized ∷ left) old before →
    IsNextLine before after old.lines.stood sized.cards found →
    ((earlier : List Statement) (given : Statement) → IsSizedStatement whole.deck.kind earlier old.lines.stood (drop old.lines.stood whole.cards) sized given →
    has_row (settle whole.deck.kind (settled_all whole.deck.kind earlier) given).block whole.rows ≡ true → WasLineIfAny whole.deck.kind found (settle whole.deck.kind (settled_all whole.deck.kind earlier) given) →
    AreLined whole earlier old.lines → AreNoted whole earlier old.names → IsStep whole sized old new earlier given) →
    IsWalkedBeside whole left new after
beside-step whole left sized old new found before after is beside taken next = step walked.coming walked.all walked.sized beside.beside
  where
    walked : IsWalked whole (sized ∷ left) old
    walked = beside.walked

    step : (coming : List Statement) → reverse coming ++ walked.earlier ≡ whole.known →
        AreSizedFrom whole.deck.kind walked.earlier old.lines.stood (drop old.lines.stood whole.cards) (sized ∷ left) coming whole.deck.behind (reverse whole.others) →
        IsBeside whole.deck.kind whole.cards walked.earlier coming old.lines.stood before → IsWalkedBeside whole left new after
    step [] all h there_is = absurd h
    step (given ∷ coming) all h there_is =
        let both = next-if-any whole.deck.kind whole.cards walked.earlier coming given old.lines.stood sized found before after there_is taken h.0 is.few in
        let stepped = next walked.earlier given h.0 (there whole walked.earlier coming given is all) both.was walked.lined walked.noted in
        record {
          walked = record {
            earlier = given ∷ walked.earlier;
            coming = coming;
            all = sym (append_assoc (reverse coming) (given ∷ []) walked.earlier) ∙ ap (λ l. l ++ walked.earlier) (sym (reverse-append (given ∷ []) coming)) ∙ all;
            sized = subst (λ n. AreSizedFrom whole.deck.kind (given ∷ walked.earlier) n (drop n whole.cards) left coming whole.deck.behind (reverse whole.others)) (sym stepped.stood)
                (subst (λ (ahead : List Card). AreSizedFrom whole.deck.kind (given ∷ walked.earlier) (old.lines.stood + sized.cards) ahead left coming whole.deck.behind (reverse whole.others))
                (drop-drop sized.cards old.lines.stood whole.cards) h.1);
            lined = stepped.lined;
            noted = stepped.noted;
          };
          beside = subst (λ n. IsBeside whole.deck.kind whole.cards (given ∷ walked.earlier) coming n after) (sym stepped.stood) both.beside;
        }

-- all lines of a listing, from the first one on
pub shown-from : (context : Context) (earlier coming listed : List Statement) →
    reverse (map (shown_of context) (settled_all context.kind earlier)) ++ shown_from context earlier coming listed ≡ reverse (map (shown_of context) (settled_all context.kind (reverse coming ++ earlier))) ++ map only_listed listed
shown-from context earlier [] listed = refl
shown-from context earlier (statement ∷ coming) listed =
    let before = map (shown_of context) (settled_all context.kind earlier) in
    let one = shown_of context (settle context.kind (settled_all context.kind earlier) statement) in
    sym (append_assoc (reverse before) (one ∷ []) (shown_from context (statement ∷ earlier) coming listed))
    ∙ ap (λ (l : List Shown). l ++ shown_from context (statement ∷ earlier) coming listed) (sym (reverse-append (one ∷ []) before))
    ∙ shown-from context (statement ∷ earlier) coming listed
    ∙ ap (λ (l : List Statement). reverse (map (shown_of context) (settled_all context.kind l)) ++ map only_listed listed)
    (sym (append_assoc (reverse coming) (statement ∷ []) earlier) ∙ ap (λ l. l ++ earlier) (sym (reverse-append (statement ∷ []) coming)))

-- the deck before an edit, and its lines
pub record HasLines (kind : DeckKind) (old : List Card) (parts : ObjectParts) (lines : FormerLines) : Type 0 where
  pub same_kind : (context_from (known_in old)).kind ≡ kind
  pub bindings : AreBindings lines.bindings (context_from (known_in old))
  pub listed : List Statement
  pub shown : let context = context_from (known_in old) in AreShown context.kind context.rows lines.fields.now 0 old parts.lines.items (shown_from context [] (reverse (known_in old)) listed)

pub has-lines : (chosen_kind kind : DeckKind) (old cards : List Card) (name : List ℕ) (former : Former) (parts : ObjectParts) (lines : FormerLines) → IsFormerOf old former →
    (let given : Deck = record { name = name; cards = old } in ArePartsOf old parts (object_of given)) → AreChosen chosen_kind (length old) (length cards) former parts lines → former.kind ≡ kind → HasLines kind old parts lines
has-lines chosen_kind kind old cards name former parts lines is are chosen k =
    let known = known_in old in
    let others = behind_end (statements_of (reverse old)) in
    let context = context_from known in
    let seen : DeckKind → View = λ d name. defined name (settled_all d known) in
    let listing : reverse (map only_listed others ++ map (shown_of context) context.settled) ≡ shown_from context [] (reverse known) (reverse others) =
    shown-object context context.settled others
    ∙ ap (λ (l : List Statement). reverse (map (shown_of context) (settled_all context.kind l)) ++ map only_listed (reverse others)) (sym (append-none (reverse (reverse known)) ∙ reverse-reverse known))
    ∙ sym (shown-from context [] (reverse known) (reverse others)) in
    record {
      same_kind = sym is.kind ∙ k;
      bindings = record {
        symbols = ap symbol_in chosen.symbols ∙ is.symbols ∙ ap seen is.kind;
        literals = chosen.literals ∙ is.literals ∙ ap (λ (d : DeckKind). literal_words (settled_all d known)) is.kind;
        rows = chosen.bases ∙ are.rows;
      };
      listed = reverse others;
      shown = subst (λ (i : FieldLists). AreShown context.kind context.rows i 0 old parts.lines.items (shown_from context [] (reverse known) (reverse others))) (sym chosen.fields)
          (subst (λ (d : DeckKind). AreShown d context.rows parts.fields 0 old parts.lines.items (shown_from context [] (reverse known) (reverse others))) are.kind
          (subst (λ (r : List BlockRow). AreShown parts.kind r parts.fields 0 old parts.lines.items (shown_from context [] (reverse known) (reverse others))) are.rows
          (subst (AreShown parts.kind parts.bases parts.fields 0 old parts.lines.items) listing are.shown)));
    }

behind-none : (lines : List Line) → lines_behind 0 lines ≡ lines
behind-none [] = refl
behind-none (line ∷ lines) = refl

behind-some : (count : ℕ) (line : Line) (lines : List Line) → 0 < count → lines_behind count (line ∷ lines) ≡ lines_behind (count - line.cards) lines
behind-some zero line lines some = absurd (omega (arith, some))
behind-some (suc count) line lines some = refl

-- lines behind some cards, and the statements that they show
record ShowBehind (context : Context) (lists : FieldLists) (lines : List Line) (earlier coming listed : List Statement) : Type 0 where
  stood : ℕ
  ahead : List Card
  shown : AreShown context.kind context.rows lists stood ahead lines (shown_from context earlier coming listed)

show-behind : (context : Context) (lists : FieldLists) (front earlier coming listed : List Statement) (count standing : ℕ) (cards : List Card) (lines : List Line) →
    AreShown context.kind context.rows lists standing cards lines (shown_from context earlier (front ++ coming) listed) → stood earlier + count ≡ stood (reverse front ++ earlier) →
    ShowBehind context lists (lines_behind count lines) (reverse front ++ earlier) coming listed
show-behind context lists [] earlier coming listed count standing cards lines h n =
    let none : count ≡ 0 = omega (arith, n) in
    record { stood = standing; ahead = cards; shown = subst (λ (l : List Line). AreShown context.kind context.rows lists standing cards l (shown_from context earlier coming listed)) (sym (ap (λ k. lines_behind k lines) none ∙ behind-none lines)) h }
show-behind context lists (first ∷ front) earlier coming listed count standing cards [] h n = absurd h
show-behind context lists (first ∷ front) earlier coming listed count standing cards (line ∷ lines) h n =
    let whole = reverse-onto first front earlier in
    let place = ap (λ l. stood l) whole in
    let own : length first.cards ≡ line.cards = ap length (sym h.0.cards) ∙ length-take-le line.cards cards h.0.within in
    let parts = cards_in-append (reverse front) (first ∷ earlier) in
    let one = length-append (cards_in earlier) first.cards in
    let some = h.0.some in
    let rest = show-behind context lists front (first ∷ earlier) coming listed (count - line.cards) (standing + line.cards) (drop line.cards cards) lines h.1 (omega (arith, n, place, own, parts, one)) in
    subst (λ (both : List Line × List Statement). ShowBehind context lists both.0 both.1 coming listed) (λ i. (sym (behind-some count line lines (omega (arith, n, place, own, parts, one, some))) i, whole i)) rest

-- settled alike from the last ones on, and so from the first ones on
alike-onward : (kind : DeckKind) (before others earlier statements later coming : List Statement) → AreSettledAlike kind before others earlier statements →
    AreAlikeOn kind (others ++ before) later (statements ++ earlier) coming → AreAlikeOn kind before (reverse others ++ later) earlier (reverse statements ++ coming)
alike-onward kind before [] earlier [] later coming h rest = rest
alike-onward kind before [] earlier (statement ∷ statements) later coming h rest = absurd h
alike-onward kind before (other ∷ others) earlier [] later coming h rest = absurd h
alike-onward kind before (other ∷ others) earlier (statement ∷ statements) later coming h rest =
    subst (λ (both : List Statement × List Statement). AreAlikeOn kind before both.0 earlier both.1) (λ i. (reverse-onto other others later i, reverse-onto statement statements coming i))
    (alike-onward kind before others earlier statements (other ∷ later) (statement ∷ coming) h.1 (h.0, rest))

-- the lines of a tail
pub tail-beside : (kind : DeckKind) (old cards : List Card) (former : Former) (parts : ObjectParts) (lines : FormerLines) → AreChosen kind (length old) (length cards) former parts lines → HasLines kind old parts lines → former.kind ≡ kind →
    (tail : HasTail kind old cards former.tail (known_in cards)) → AreOfTail kind (context_from (known_in old)) [] (reverse (known_in cards)) (reverse tail.tail.split.new_front) 0 lines
tail-beside kind old cards former parts lines chosen has k tail = by (chosen.tail k)
  where
    by : (former.tail ≡ 0) ⊎ (lines.tail.left.now ≡ lines_behind (length old - former.tail) lines.left.now) → AreOfTail kind (context_from (known_in old)) [] (reverse (known_in cards)) (reverse tail.tail.split.new_front) 0 lines
    by (inl none) = let some = tail.tail.some in absurd (omega (arith, none, some))
    by (inr chosen_lines) =
        let context = context_from (known_in old) in
        let split = tail.tail.split in
        let left = chosen_lines ∙ ap (lines_behind (length old - former.tail)) (chosen.alike k) in
        let place = chosen.place in
        let old_place = tail.tail.old_place in
        let new_place = tail.tail.new_place in
        let back = reverse-reverse split.old_front in
        let later = reverse split.old_tail ++ reverse tail.behind in
        let all : reverse (known_in old) ≡ reverse split.old_front ++ later =
        ap reverse (sym tail.all ∙ ap (λ l. tail.behind ++ l) tail.tail.of_old) ∙ reverse-append tail.behind (split.old_tail ++ split.old_front) ∙ ap (λ l. l ++ reverse tail.behind) (reverse-append split.old_tail split.old_front)
        ∙ append_assoc (reverse split.old_front) (reverse split.old_tail) (reverse tail.behind) in
        let whole : reverse (reverse split.old_front) ++ [] ≡ split.old_front = append-none (reverse (reverse split.old_front)) ∙ back in
        let own = ap (λ l. stood l) whole in
        let shown = show-behind context lines.fields.now (reverse split.old_front) [] later has.listed (length old - former.tail) 0 old parts.lines.items
        (subst (λ (l : List Statement). AreShown context.kind context.rows lines.fields.now 0 old parts.lines.items (shown_from context [] l has.listed)) all has.shown) (omega (arith, old_place, own)) in
        let there = subst (λ (both : List Line × List Statement). ShowBehind context lines.fields.now both.0 both.1 later has.listed) (λ i. (sym left i, whole i)) shown in
        let front : reverse (reverse split.new_front) ++ [] ≡ split.new_front = append-none (reverse (reverse split.new_front)) ∙ reverse-reverse split.new_front in
        record {
          same_kind = has.same_kind;
          bindings = has.bindings;
          tail = reverse split.new_tail;
          all = ap reverse tail.tail.of_new ∙ reverse-append split.new_tail split.new_front;
          stands = refl;
          place = ap (λ l. stood l) front ∙ (omega (arith, new_place, place));
          passed = split.old_front;
          later = later;
          listed = has.listed;
          old_stood = there.stood;
          old_ahead = there.ahead;
          shown = there.shown;
          alike = subst (λ (both : List Statement × List Statement). AreAlikeOn kind split.old_front later both.0 both.1) (λ i. (sym front i, append-none (reverse split.new_tail) i))
              (alike-onward kind split.old_front split.old_tail split.new_front split.new_tail (reverse tail.behind) [] tail.tail.alike tt);
        }

-- those in front
pub front-beside : (kind : DeckKind) (old cards : List Card) (former : Former) (parts : ObjectParts) (lines : FormerLines) → AreChosen kind (length old) (length cards) former parts lines → HasLines kind old parts lines → former.kind ≡ kind →
    take former.before old ≡ take former.before cards → AreBeside kind cards (context_from (known_in old)) [] (reverse (known_in old)) 0 lines
front-beside kind old cards former parts lines chosen has k same =
    let context = context_from (known_in old) in
    record {
      old_cards = old;
      listed = has.listed;
      same_kind = has.same_kind;
      bindings = has.bindings;
      same = subst (λ n. take n old ≡ take n cards) (sym (chosen.before k)) same;
      shown = subst (λ (l : List Line). AreShown context.kind context.rows lines.fields.now 0 old l (shown_from context [] (reverse (known_in old)) has.listed)) (sym (chosen.alike k)) has.shown;
    }

-- what is kept of the deck before an edit goes beside a walk that begins
pub begin-beside : (kind : DeckKind) (old cards : List Card) (name : List ℕ) (former : Former) (parts : ObjectParts) (lines : FormerLines) → IsFormerOf old former →
    (let given : Deck = record { name = name; cards = old } in ArePartsOf old parts (object_of given)) → IsEditedOf old cards former → kind ≡ kind_of_statements (known_in cards) → AreChosen kind (length old) (length cards) former parts lines →
    IsBeside kind cards [] (reverse (known_in cards)) 0 lines
begin-beside kind old cards name former parts lines is are edited kinds chosen = elim chosen.other [
  | inl k ↦
      let has = has-lines kind kind old cards name former parts lines is are chosen k in
      record { front = inr (context_from (known_in old), reverse (known_in old), front-beside kind old cards former parts lines chosen has k edited.same); tail = by-tail has k edited.tail }
  | inr of ↦
      let has = has-lines kind former.kind old cards name former parts lines is are chosen refl in
      let there = head-lines-beside kind old cards former.before parts.lines.items lines has.listed has.bindings has.shown of.head of.before edited.same in
      record { front = inr (context_as kind (context_from (known_in old)), there.given, there.beside); tail = inl of.none }
]
  where
    by-tail : HasLines kind old parts lines → former.kind ≡ kind → HasTailIfAny (kind_of_statements (known_in cards)) old cards former.tail (known_in cards) → AreOfTailIfAny kind [] (reverse (known_in cards)) 0 lines
    by-tail has k (inl e) = inl (chosen.none e)
    by-tail has k (inr tail) =
        let here = subst (λ (d : DeckKind). HasTail d old cards former.tail (known_in cards)) (sym kinds) tail in
        inr (context_from (known_in old), reverse here.tail.split.new_front, tail-beside kind old cards former parts lines chosen has k here)

-- each line that there is, in front and in the tail, where the kinds are one
due-alike : (kind : DeckKind) (old cards : List Card) (name : List ℕ) (former : Former) (parts : ObjectParts) (lines : FormerLines) (plan : CodePlan) → IsFormerOf old former →
    (let given : Deck = record { name = name; cards = old } in ArePartsOf old parts (object_of given)) → IsEditedOf old cards former → AreChosen kind (length old) (length cards) former parts lines → IsPlanOf kind old cards former plan →
    former.kind ≡ kind → IsDueBeside kind cards plan [] (reverse (known_in cards)) 0 lines
due-alike kind old cards name former parts lines plan is are edited chosen of k = record {
  stands = refl;
  front = λ first second. record {
    coming = reverse (known_in old);
    all = append-none (reverse (reverse (known_in old))) ∙ reverse-reverse (known_in old) ∙ sym of.of_old;
    few = subst (λ n. plan.decks.before ≤ n) (sym (chosen.before k)) of.few;
    beside = subst (λ (context : Context). AreBeside kind cards context [] (reverse (known_in old)) 0 lines) (sym of.known) (front-beside kind old cards former parts lines chosen has k edited.same);
  };
  tail = by of.begins;
}
  where
    has : HasLines kind old parts lines
    has = has-lines kind kind old cards name former parts lines is are chosen k

    turned : length (reverse (known_in cards)) ≡ length (known_in cards)
    turned = length-reverse (known_in cards)

    by : StandBeforeTail kind old cards former.tail (known_in cards) plan.from → HasNoTail cards plan [] (reverse (known_in cards)) lines ⊎ IsBesideTail kind plan [] (reverse (known_in cards)) 0 lines
    by (inl none) =
        let place = chosen.place in
        let same = turned in
        let empty = none.0 in
        let from = none.1 in
        inl (record { from = omega (arith, from, same); at_end = omega (arith, place, empty) })
    by (inr tail) =
        let front = tail.0.tail.split.new_front in
        let same = length-reverse front in
        let from = tail.1 in
        inr (record {
          between = reverse front;
          of = subst (λ (context : Context). AreOfTail kind context [] (reverse (known_in cards)) (reverse front) 0 lines) (sym of.known) (tail-beside kind old cards former parts lines chosen has k tail.0);
          place = inl (omega (arith, from, same));
        })

-- what is due of a plan does not ask for the kind of the old deck
value-as : (kind : DeckKind) (old new : Context) (a b : Result Form Letter) → same_value (context_as kind old) new a b ≡ same_value old new a b
value-as kind old new (Ok a) (Ok b) = refl
value-as kind old new (Ok a) (Err b) = refl
value-as kind old new (Err a) (Ok b) = refl
value-as kind old new (Err a) (Err b) = refl

rebound-as : (kind : DeckKind) (old new : Context) (settled : Settled) → is_rebound (context_as kind old) new settled ≡ is_rebound old new settled
rebound-as kind old new settled = λ i. list_any (λ element. not (value-as kind old new (element_form (final_names old settled) element) (element_form (final_names new settled) element) i)) (coded_elements settled.read.operation settled.read.operand)

due-as : (kind : DeckKind) (old new : Context) (front from : ℕ) (settled : List Settled) → code_due (context_as kind old) new front from settled ≡ code_due old new front from settled
due-as kind old new front from [] = refl
due-as kind old new front from (latest ∷ earlier) =
    ap₂ (λ (n : ℕ) (rebound : Bool). n + one_where (not (has_line front from (length earlier)) || rebound)) (due-as kind old new front from earlier) (rebound-as kind old new latest)

-- a walk that begins comes to each line that is due by a plan, or by one of which as much is due
pub record BeginsDue (kind : DeckKind) (cards : List Card) (plan : CodePlan) (lines : FormerLines) : Type 0 where
  pub own : CodePlan
  pub planned : IsPlanned (known_in cards) own
  pub beside : IsDueBeside kind cards own [] (reverse (known_in cards)) 0 lines
  pub same : code_due_of cards own ≡ code_due_of cards plan

-- where the kinds are two
due-other : (kind : DeckKind) (old cards : List Card) (name : List ℕ) (former : Former) (parts : ObjectParts) (lines : FormerLines) (plan : CodePlan) → IsFormerOf old former →
    (let given : Deck = record { name = name; cards = old } in ArePartsOf old parts (object_of given)) → IsEditedOf old cards former → kind ≡ kind_of_statements (known_in cards) →
    AreChosen kind (length old) (length cards) former parts lines → IsPlanOf kind old cards former plan → (former.kind ≡ kind → ⊥) → former.tail ≡ 0 → AreOfHead former parts lines → BeginsDue kind cards plan lines
due-other kind old cards name former parts lines plan is are edited kinds chosen of other none head =
    let decks = plan.decks in
    let untouched = of.of_new.untouched in
    let has = has-lines kind former.kind old cards name former parts lines is are chosen refl in
    let there = head-lines-beside kind old cards former.before parts.lines.items lines has.listed has.bindings has.shown head.head head.before edited.same in
    let neutral = front-neutral plan.front untouched.of_old.0 untouched.of_new.0 decks.old decks.new untouched.of_old.1 untouched.of_new.1
    (λ e. other (is.kind ∙ ap kind_of_statements (sym of.of_old) ∙ e ∙ ap kind_of_statements of.of_new.of_new ∙ sym kinds)) in
    let unchanged = untouched.unchanged in
    let few = of.few in
    let top = there.top plan.front untouched.of_old.0 (sym of.of_old ∙ untouched.of_old.1) neutral (omega (arith, unchanged, few)) in
    let cards_same = ap (λ (l : List Statement). length (cards_in l)) top.is in
    let parts_same = cards_in-append top.more plan.front in
    let count = there.count in
    let turned = length-reverse (known_in cards) in
    let place = chosen.place in
    let from : plan.from ≡ length (known_in cards) = elim of.begins [
      | inl both ↦ both.1
      | inr tail ↦ let some = tail.0.tail.some in absurd (omega (arith, some, none))
    ] in
    record {
      own = record {
        decks = record { old = reverse there.given; new = decks.new; before = length (cards_in plan.front); old_behind = decks.old_behind; new_behind = decks.new_behind };
        old = context_as kind (context_from (known_in old));
        front = plan.front;
        from = plan.from;
      };
      planned = record { untouched = record { of_old = (top.more, top.is); of_new = untouched.of_new; unchanged = omega arith }; of_new = of.of_new.of_new };
      beside = record {
        stands = refl;
        front = λ first second. record { coming = there.given; all = append-none (reverse there.given); few = omega (arith, cards_same, parts_same, count); beside = there.beside };
        tail = inl (record { from = omega (arith, from, turned); at_end = omega (arith, place, none) });
      };
      same =
          let known = known_in cards in
          due-as kind (context_from (known_in old)) (context_from known) (length plan.front) plan.from (settled_all (kind_of_statements known) known)
          ∙ ap (λ (o : Context). code_due o (context_from known) (length plan.front) plan.from (settled_all (kind_of_statements known) known)) (sym of.known);
    }

pub begin-due : (kind : DeckKind) (old cards : List Card) (name : List ℕ) (former : Former) (parts : ObjectParts) (lines : FormerLines) (plan : CodePlan) → IsFormerOf old former →
    (let given : Deck = record { name = name; cards = old } in ArePartsOf old parts (object_of given)) → IsEditedOf old cards former → kind ≡ kind_of_statements (known_in cards) →
    AreChosen kind (length old) (length cards) former parts lines → IsPlanOf kind old cards former plan → BeginsDue kind cards plan lines
begin-due kind old cards name former parts lines plan is are edited kinds chosen of = elim (kinds-told former.kind kind) [
  | inl k ↦ alike k
  | inr other ↦ elim chosen.other [
    | inl k ↦ alike k
    | inr head ↦ elim of.same [
      | inl k ↦ alike k
      | inr none ↦ due-other kind old cards name former parts lines plan is are edited kinds chosen of other none head
    ]
  ]
]
  where
    alike : former.kind ≡ kind → BeginsDue kind cards plan lines
    alike k = record { own = plan; planned = of.of_new; beside = due-alike kind old cards name former parts lines plan is are edited chosen of k; same = refl }

-- before the first statement
pub beside-begin : (whole : Whole) (made : Making) (former : FormerLines) → IsWhole whole → made.lines.stood ≡ 0 → AreLined whole [] made.lines → AreNoted whole [] made.names →
    IsBeside whole.deck.kind whole.cards [] (reverse whole.known) 0 former → IsWalkedBeside whole (sized_in whole.deck.pieces) made former
beside-begin whole made former is stood lined noted beside = record {
  walked = record {
    earlier = [];
    coming = reverse whole.known;
    all = append-none (reverse (reverse whole.known)) ∙ reverse-reverse whole.known;
    sized = subst (λ n. AreSizedFrom whole.deck.kind [] n (drop n whole.cards) (sized_in whole.deck.pieces) (reverse whole.known) whole.deck.behind (reverse whole.others)) (sym stood) is.sized.sized;
    lined = lined;
    noted = noted;
  };
  beside = subst (λ n. IsBeside whole.deck.kind whole.cards [] (reverse whole.known) n former) (sym stood) beside;
}

-- the lines that were given, or none
pub chosen-beside : (kind : DeckKind) (cards : List Card) (known : List Statement) (given : Option FormerLines) (lines : FormerLines) → IfSome given (λ l. IsBeside kind cards [] (reverse known) 0 l) → IfSome given (λ l. lines ≡ l) →
    (given ≡ None → IsBare lines) → IsBeside kind cards [] (reverse known) 0 lines
chosen-beside kind cards known None lines h e n = let none = n refl in record { front = inl none.front; tail = inl none.tail }
chosen-beside kind cards known (Some l) lines h e n = subst (IsBeside kind cards [] (reverse known) 0) (sym e) h

none-in-front : (old new : FormerLines) (stood count : ℕ) (found : Option FormerLine) → IsNextInFront old new stood count found → IsBare old → (found ≡ None) × IsBare new
none-in-front old new stood count None next e = (refl, record { front = next.0; tail = ap (λ t. t.left.now) next.1.tail ∙ e.tail })
none-in-front old new stood count (Some found) next e = absurd (no-line found.line.now new.left.now (sym next.lines ∙ e.front))

none-in-tail : (old new : FormerLines) (stood count : ℕ) (found : Option FormerLine) → IsNextInTail old new stood count found → IsBare old → (found ≡ None) × IsBare new
none-in-tail old new stood count None next e = (refl, record { front = next.0; tail = next.1 })
none-in-tail old new stood count (Some found) next e = absurd (no-line found.line.now new.tail.left.now (sym next.lines ∙ e.tail))

-- where no line is left none is taken
pub none-left : (old new : FormerLines) (stood count : ℕ) (found : Option FormerLine) → IsNextLine old new stood count found → IsBare old → (found ≡ None) × IsBare new
none-left old new stood count found next e = elim (at-or-not stood old.tail.at) [
  | inl place ↦ none-in-tail old new stood count found (next.tail place) e
  | inr other ↦ none-in-front old new stood count found (next.front other) e
]

-- one of a list, and those behind it
pub item-split : {A : Type 0} (xs : List A) (i : ℕ) (x : A) → i < length xs → x ≡ get_or xs i x → drop i xs ≡ x ∷ drop (i + 1) xs
item-split [] i x below is = absurd (omega (arith, below))
item-split (y ∷ ys) zero x below is = ap (λ z. z ∷ ys) (sym is)
item-split (y ∷ ys) (suc i) x below is = item-split ys i x (omega (arith, below)) is ∙ ap (λ k. x ∷ drop k (y ∷ ys)) (let e : suc (i + 1) ≡ suc i + 1 = omega arith in e)

pub all-dropped : {A : Type 0} (xs : List A) (i : ℕ) → length xs ≤ i → drop i xs ≡ []
all-dropped [] i h = drop-none i
all-dropped (x ∷ xs) zero h = absurd (omega (arith, h))
all-dropped (x ∷ xs) (suc i) h = all-dropped xs i (omega (arith, h))
