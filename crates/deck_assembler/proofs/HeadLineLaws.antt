-- The lines of the neutral statements in front stay in the object of a deck of another kind.
use Rattle.std.{proofs.Common.{◌≡◌, ◌∙◌, ℕ, zero, suc, ◌+◌, ◌≤◌, true, List, [], ◌∷◌, ◌++◌, Option, Some, None, length, take, drop, refl, sym, ap, subst, arith, append-nil, length-take-le}, specs.Prelude.reverse, proofs.lemmas.List.{drop-take, length-drop, reverse-reverse, take-take}}
use Rattle.definitions.specs.{Cards.Card, Forms.Form, Kinds.word_bits, Lengths.BlockRow, Letters.in_order, Objects.{shown_of, coded_of}, Operations.is_neutral, Laws.Rebound.context_from, Settled.Settled, Settling.{settle, settled_all}, StatementItems.{Context, Item, items_of}, Statements.{Statement, cards_in}, Words.Coded, declared.deck_kind.DeckKind.DeckKind}
use Rattle.statement_coder.specs.Joins.WordItems.{known_words}
use Rattle.deck_objects.specs.declared.lines.FieldLists.{FieldLists}
use Rattle.deck_objects.specs.{Joins.CodedLines.{IsCoded, IsShown, IsStored, AreShown}, Joins.LineItems.{kept_from, kept_items, AreBitsOf, AreKept, AreShort}, declared.lines.CodedLine.CodedLine, declared.lines.Line.Line}
use Rattle.deck_objects.specs.declared.lines.LineFields as kept
use Rattle.deck_objects.specs.declared.lines.LineFields.TheVariants as fields
use Rattle.deck_assembler.{specs.Joins.FormerLines.{shown_from, AreBeside}, specs.Joins.Formers.known_in, specs.Joins.Heads.{cards_of_lines, AreHeadLines, IsLineOfHead}, specs.Joins.Rebindings.AreBindings, specs.declared.former_lines.FormerLines.FormerLines, proofs.ForwardLaws.stood-more, proofs.HeadDeckLaws.{DoStop, HasTop, head-top}, proofs.NeutralLaws.{counter_of, AreNeutral, IsNeutral, counted, neutral-items, neutral-known, neutral-letters, neutral-settles, neutral-told}, proofs.OntoLaws.reverse-onto}

-- what is known of a deck, as if it were of another kind
abbrev pub context_as : DeckKind → Context → Context
context_as kind context = record { kind = kind; settled = context.settled; rows = context.rows; literals = context.literals }

-- words that are no fields are none, whatever their width is
no-words : (first second : ℕ) (words : List ℕ) → known_words first words ≡ [] → known_words second words ≡ []
no-words first second [] e = refl
no-words first second (word ∷ words) e = cc

-- where no fields are kept none are in each kind
kept-none : (first second : DeckKind) (lists : FieldLists) (place end : ℕ) (of : kept.LineFields) → kept_from first lists place end of ≡ [] → kept_from second lists place end of ≡ []
kept-none first second lists place end fields.Absent e = refl
kept-none first second lists place end (fields.Known bits) e = cc
kept-none first second lists place end (fields.Words from count) e = no-words (word_bits first) (word_bits second) (take count (drop from lists.words.items)) e
kept-none first second lists place end (fields.Listed from count) e = e
kept-none first second lists place end fields.Zeros e = cc

are-kept : (first second : DeckKind) (lists : FieldLists) (line : CodedLine) (of : kept.LineFields) → line.fields ≡ of → AreKept first lists line of → kept_items second lists line ≡ [] → AreKept second lists line of
are-kept first second lists line fields.Absent is h e = tt
are-kept first second lists line (fields.Known bits) is h e = subst AreShort (sym e) tt
are-kept first second lists line (fields.Words from count) is h e = (h.0, (h.1.0, subst AreShort (sym (subst (λ (f : kept.LineFields). kept_from second lists line.place line.end f ≡ []) is e)) tt))
are-kept first second lists line (fields.Listed from count) is h e = h
are-kept first second lists line fields.Zeros is h e = tt

no-bits : AreBitsOf [] []
no-bits = record { some = λ h. h; none = λ e. refl; width = refl; bits = λ linking. refl; unfit = λ layout based from. refl }

-- a statement with these fields
abbrev coded_as : Settled → List Item → Coded
coded_as settled told = record { settled = settled; fields = told }

-- a line without fields is one in each kind, whatever the counters are
coded-in : (first second : DeckKind) (rows : List BlockRow) (lists : FieldLists) (line : CodedLine) (before after : Settled) (told more : List Item) (form : Form) → after ≡ counted form before → told ≡ [] → more ≡ [] →
    IsCoded first rows lists line (coded_as before told) → IsCoded second rows lists line (coded_as after more)
coded-in first second rows lists line before after told more form same e f is =
    let gone : kept_items second lists line ≡ [] = kept-none first second lists line.place line.end line.fields (is.fields.none e) in
    let plain : IsCoded second rows lists line (coded_as (counted form before) []) = record {
      operation = is.operation;
      block = is.block;
      place = is.place;
      end = is.end;
      begins_run = is.begins_run;
      fields = subst (λ (l : List Item). AreBitsOf l []) (sym gone) no-bits;
      kept = are-kept first second lists line line.fields refl is.kept gone;
      zeros = is.zeros;
    } in
    subst (IsCoded second rows lists line) (λ i. coded_as (sym same i) (sym f i)) plain

-- the line of a neutral statement behind neutral ones shows it in a deck of another kind
shown-in : (context : Context) (second : DeckKind) (earlier : List Statement) (statement : Statement) (lists : FieldLists) (stood : ℕ) (ahead other : List Card) (line : Line) → AreNeutral earlier → IsNeutral statement →
    IsShown context.kind context.rows lists stood ahead line (shown_of context (settle context.kind (settled_all context.kind earlier) statement)) → take line.cards ahead ≡ take line.cards other → line.cards ≤ length other →
    IsShown second context.rows lists stood other line (shown_of (context_as second context) (settle second (settled_all second earlier) statement))
shown-in context second earlier statement lists stood ahead other line are is h e within = record {
  before = h.before;
  cards = sym e ∙ h.cards;
  some = h.some;
  within = within;
  letters = h.letters
      ∙ ap in_order (
      neutral-letters first (settled_all first earlier) statement context is ∙ ap (λ (s : Settled). s.letters ++ []) (sym same)
      ∙ sym (neutral-letters second (settled_all second earlier) statement (context_as second context) is)
      );
  stored = by line.coded h.stored;
}
  where
    first : DeckKind
    first = context.kind

    before : Settled
    before = settle first (settled_all first earlier) statement

    after : Settled
    after = settle second (settled_all second earlier) statement

    same : after ≡ counted (counter_of second) before
    same = neutral-settles first second earlier statement are is

    by : (coded : Option CodedLine) → IsStored first context.rows lists coded (Some (coded_of context before)) → IsStored second context.rows lists coded (Some (coded_of (context_as second context) after))
    by None h = h
    by (Some one) h =
        coded-in first second context.rows lists one before after (items_of context before before.read.operation) (items_of (context_as second context) after after.read.operation) (counter_of second) same
        (neutral-items first (settled_all first earlier) statement context is) (neutral-items second (settled_all second earlier) statement (context_as second context) is) h

-- the statements of the first lines
record HasLinesHead (context : Context) (kind : DeckKind) (before : ℕ) (lists : FieldLists) (earlier : List Statement) (stood : ℕ) (ahead : List Card) (found : List Line) (coming : List Statement) : Type 0 where
  given : List Statement
  rest : List Statement
  all : coming ≡ given ++ rest
  shown : AreShown kind context.rows lists stood (take (cards_of_lines found) ahead) found (shown_from (context_as kind context) earlier given [])
  count : length (cards_in (reverse given ++ earlier)) ≡ stood + cards_of_lines found
  within : cards_of_lines found ≤ length ahead
  few : stood + cards_of_lines found ≤ before
  stops : DoStop before (reverse given ++ earlier) rest

not-listed : (kind : DeckKind) (rows : List BlockRow) (lists : FieldLists) (line : Option CodedLine) (stored : CodedLine) → line ≡ Some stored → IsStored kind rows lists line None → ⊥
not-listed kind rows lists line stored e is = subst (λ (l : Option CodedLine). IsStored kind rows lists l None) e is

-- a line that shows a neutral statement is that of one
line-neutral : (kind : DeckKind) (rows : List BlockRow) (lists : FieldLists) (before stood : ℕ) (line : Line) (coded : Coded) → IsStored kind rows lists line.coded (Some coded) → is_neutral (Some coded.settled.read.operation) ≡ true →
    stood + line.cards ≤ before → IsLineOfHead before stood line
line-neutral kind rows lists before stood line coded is neutral within = by line.coded refl is
  where
    by : (stored : Option CodedLine) → line.coded ≡ stored → IsStored kind rows lists stored (Some coded) → IsLineOfHead before stood line
    by None e h = absurd h
    by (Some one) e h = record { neutral = (one, (e, ap (λ o. is_neutral (Some o)) h.operation ∙ neutral)); within = within }

has-lines-head : (context : Context) (second : DeckKind) (before : ℕ) (lists : FieldLists) (earlier : List Statement) (stood : ℕ) (ahead : List Card) (lines found : List Line) (coming listed : List Statement) → AreNeutral earlier →
    length (cards_in earlier) ≡ stood → stood ≤ before → AreShown context.kind context.rows lists stood ahead lines (shown_from context earlier coming listed) → AreHeadLines before stood lines found →
    HasLinesHead context second before lists earlier stood ahead found coming
has-lines-head context second before lists earlier stood ahead [] [] [] listed are place few h head =
    record { given = []; rest = []; all = refl; shown = refl; count = omega (arith, place); within = omega arith; few = omega (arith, few); stops = λ statement others e. absurd cc }
has-lines-head context second before lists earlier stood ahead [] [] (statement ∷ later) listed are place few h head = absurd h
has-lines-head context second before lists earlier stood ahead [] (one ∷ found) coming listed are place few h head = absurd head
has-lines-head context second before lists earlier stood ahead (line ∷ lines) [] [] listed are place few h head =
    record { given = []; rest = []; all = refl; shown = refl; count = omega (arith, place); within = omega arith; few = omega (arith, few); stops = λ statement others e. absurd cc }
has-lines-head context second before lists earlier stood ahead (line ∷ lines) [] (statement ∷ later) listed are place few h head = record {
  given = [];
  rest = statement ∷ later;
  all = refl;
  shown = refl;
  count = omega (arith, place);
  within = omega arith;
  few = omega (arith, few);
  stops = λ next others e neutral within.
      let same : statement ≡ next = cc in
      let here = h.0 in
      let own : length statement.cards ≡ line.cards = ap length (sym here.cards) ∙ length-take-le line.cards ahead here.within in
      let its = ap (λ (s : Statement). length s.cards) same in
      head (line-neutral context.kind context.rows lists before stood line (coded_of context (settle context.kind (settled_all context.kind earlier) statement)) here.stored
      (neutral-known context.kind statement (subst IsNeutral (sym same) neutral)) (omega (arith, within, own, its, place)));
}
has-lines-head context second before lists earlier stood ahead (line ∷ lines) (one ∷ found) [] [] are place few h head = absurd h
has-lines-head context second before lists earlier stood ahead (line ∷ lines) (one ∷ found) [] (other ∷ listed) are place few h head =
    let of = head.1.0.neutral in
    absurd (not-listed context.kind context.rows lists line.coded of.0 of.1.0 h.0.stored)
has-lines-head context second before lists earlier stood ahead (line ∷ lines) (one ∷ found) (statement ∷ later) listed are place few h head =
    let here = h.0 in
    let of = head.1.0 in
    let is = subst (λ (l : Option CodedLine). IsStored context.kind context.rows lists l (Some (coded_of context (settle context.kind (settled_all context.kind earlier) statement)))) of.neutral.1.0 here.stored in
    let neutral = neutral-told context.kind statement (ap (λ o. is_neutral (Some o)) (sym is.operation) ∙ of.neutral.1.1) in
    let moved = stood-more earlier statement ahead line.cards here.cards here.within in
    let rest = has-lines-head context second before lists (statement ∷ earlier) (stood + line.cards) (drop line.cards ahead) lines found later listed (neutral, are) (omega (arith, moved, place)) of.within h.1 head.1.1 in
    let whole = reverse-onto statement rest.given earlier in
    let same : one.cards ≡ line.cards = ap (λ (l : Line). l.cards) head.0 in
    let less = length-drop line.cards ahead in
    let rest_within = rest.within in
    let own_within = here.within in
    let all_within : one.cards + cards_of_lines found ≤ length ahead = omega (arith, same, less, rest_within, own_within) in
    let n = one.cards + cards_of_lines found in
    let full = length-take-le n ahead all_within in
    let cut : take (cards_of_lines found) (drop line.cards ahead) ≡ drop one.cards (take n ahead) = ap (λ k. take (cards_of_lines found) (drop k ahead)) (sym same) ∙ sym (drop-take one.cards (cards_of_lines found) ahead) in
    let rest_count = rest.count in
    let count_same = ap (λ (l : List Statement). length (cards_in l)) whole in
    let rest_few = rest.few in
    record {
      given = statement ∷ rest.given;
      rest = rest.rest;
      all = ap (λ l. statement ∷ l) rest.all;
      shown = (
        subst (λ l. IsShown second context.rows lists stood (take n ahead) l (shown_of (context_as second context) (settle second (settled_all second earlier) statement))) (sym head.0)
            (shown-in context second earlier statement lists stood ahead (take n ahead) line are neutral here (sym (take-take line.cards n ahead (omega (arith, same)))) (omega (arith, same, full))),
        subst (λ (both : ℕ × List Card). AreShown second context.rows lists both.0 both.1 found (shown_from (context_as second context) (statement ∷ earlier) rest.given [])) (λ i. (stood + sym same i, cut i)) rest.shown,
      );
      count = omega (arith, rest_count, count_same, same);
      within = all_within;
      few = omega (arith, rest_few, same);
      stops = subst (λ l. DoStop before l rest.rest) whole rest.stops;
    }

-- the first lines of the object before go beside a deck of another kind, and have each neutral front
pub record HeadBeside (kind : DeckKind) (old cards : List Card) (before : ℕ) (lines : FormerLines) : Type 0 where
  pub given : List Statement
  pub beside : AreBeside kind cards (context_as kind (context_from (known_in old))) [] given 0 lines
  pub count : lines.before ≡ length (cards_in (reverse given))
  pub top : (front behind : List Statement) → known_in old ≡ behind ++ front → AreNeutral front → length (cards_in front) ≤ before → HasTop (reverse given) front

pub head-lines-beside : (kind : DeckKind) (old cards : List Card) (before : ℕ) (all : List Line) (lines : FormerLines) (listed : List Statement) → let context = context_from (known_in old) in
    AreBindings lines.bindings context → AreShown context.kind context.rows lines.fields.now 0 old all (shown_from context [] (reverse (known_in old)) listed) →
    AreHeadLines before 0 all lines.left.now → lines.before ≡ cards_of_lines lines.left.now → take before old ≡ take before cards → HeadBeside kind old cards before lines
head-lines-beside kind old cards before all lines listed bindings shown head before_is same =
    let context = context_from (known_in old) in
    let has = has-lines-head context kind before lines.fields.now [] 0 old all lines.left.now (reverse (known_in old)) listed tt refl (omega arith) shown head in
    let n = cards_of_lines lines.left.now in
    let few = has.few in
    record {
      given = has.given;
      beside = record {
        old_cards = take n old;
        listed = [];
        same_kind = refl;
        bindings = record { symbols = bindings.symbols; literals = bindings.literals; rows = bindings.rows };
        same = ap (λ m. take m (take n old)) before_is
            ∙ (take-take n n old (omega arith) ∙ sym (take-take n before old (omega (arith, few))) ∙ ap (take n) same ∙ take-take n before cards (omega (arith, few)))
            ∙ ap (λ m. take m cards) (sym before_is);
        shown = has.shown;
      };
      count =
          let counted_all = has.count in
          let whole = ap (λ (l : List Statement). length (cards_in l)) (append-nil (reverse has.given)) in
          omega (arith, before_is, counted_all, whole);
      top = λ front behind e neutral within.
          let whole : reverse (has.given ++ has.rest) ≡ behind ++ front = ap reverse (sym has.all) ∙ reverse-reverse (known_in old) ∙ e in
          head-top has.given has.rest front behind before whole neutral within (subst (λ l. DoStop before l has.rest) (append-nil (reverse has.given)) has.stops);
    }

-- one line more of the first ones
pub take-more : {A : Type 0} (n : ℕ) (items others : List A) (item : A) → drop n items ≡ item ∷ others → (take (n + 1) items ≡ take n items ++ item ∷ []) × ((drop (n + 1) items ≡ others) × (n + 1 ≤ length items))
take-more zero [] others item e = absurd cc
take-more zero (first ∷ items) others item e =
    let same : first ≡ item = cc in
    let rest : items ≡ others = cc in
    (ap (λ x. x ∷ []) same, (rest, omega arith))
take-more (suc n) [] others item e = absurd cc
take-more (suc n) (first ∷ items) others item e =
    let more = take-more n items others item e in
    let count : suc n + 1 ≡ suc (n + 1) = omega arith in
    let within = more.1.1 in
    (ap (λ k. take k (first ∷ items)) count ∙ ap (λ l. first ∷ l) more.0, (ap (λ k. drop k (first ∷ items)) count ∙ more.1.0, omega (arith, within)))

pub cards-append : (a b : List Line) → cards_of_lines (a ++ b) ≡ cards_of_lines a + cards_of_lines b
cards-append [] b = omega arith
cards-append (line ∷ a) b = let rest = cards-append a b in omega (arith, rest)
