-- One statement more: its line behind the others, and its names.
use Rattle.std.{proofs.Common.{◌≡◌, ◌∙◌, ℕ, ◌+◌, ◌-◌, ◌^◌, ◌<◌, ◌≤◌, true, false, true≢false, List, [], ◌∷◌, ◌++◌, Option, Some, None, min, drop, length, reverse, refl, ap, sym, subst, arith}, specs.Prelude.slice_get, proofs.lemmas.List.{drop-drop, length-drop, reverse-append}}
use Rattle.definitions.specs.{Cards.Card, Entries.{entries_by, entries_among}, Lengths.BlockRow, Objects.Shown, Operands.Operand, Operations.Operation, Settled.{Settled, Definition}, Settling.{settle, settled_all}, Statements.Statement, Words.Coded, declared.deck_kind.DeckKind.DeckKind, declared.deck_kind.DeckKind.TheVariants.{Rel, Abs, Periph}}
use Rattle.definitions.specs.Operations as op
use Rattle.deck_objects.specs.declared.lines.FieldLists.{FieldLists}
use Rattle.deck_objects.specs.{Joins.CodedLines.{IsNamed, IsShown, IsStored}, declared.lines.CodedLine.CodedLine, declared.lines.Line.Line}
use Rattle.deck_assembler.{specs.Joins.KeptFields.AreKeptOn, specs.Joins.SharedNames.{enters, entries_to}, specs.Joins.Walks.{Whole, all_settled, has_row, AreNoted, AreShownTo, AreLinedAs}, specs.declared.deck_lines.DeckLines.DeckLines, proofs.KeptLaws.coded-longer}

-- the entries of a statement that enters names
entered : (kind : DeckKind) (all : List Settled) (operation : Operation) (operand : Operand) (entries : List Definition) → enters kind operation ≡ true → entries_by all operation operand entries ≡ entries_by all op.Entry operand entries
entered Periph all operation operand entries e = absurd (true≢false (sym e))
entered Rel all op.Entry operand entries e = refl
entered Rel all _ operand entries e = absurd (true≢false (sym e))
entered Abs all op.Entry operand entries e = refl
entered Abs all _ operand entries e = absurd (true≢false (sym e))

pub enters-step : (kind : DeckKind) (all : List Settled) (settled : Settled) (before : List Settled) → enters kind settled.read.operation ≡ true →
    entries_by all op.Entry settled.read.operand (entries_to kind all before) ≡ entries_to kind all (settled ∷ before)
enters-step Periph all settled before e = absurd (true≢false (sym e))
enters-step Rel all settled before e = sym (entered Rel all settled.read.operation settled.read.operand (entries_to Rel all before) e)
enters-step Abs all settled before e = sym (entered Abs all settled.read.operation settled.read.operand (entries_to Abs all before) e)

-- a statement that enters no names leaves the entries as they are
passed-over : (all : List Settled) (operation : Operation) (operand : Operand) (entries : List Definition) → enters Rel operation ≡ false → entries ≡ entries_by all operation operand entries
passed-over all op.Entry operand entries e = absurd (true≢false e)
passed-over all _ operand entries e = refl

not-entered : (kind : DeckKind) (all : List Settled) (settled : Settled) (before : List Settled) → enters kind settled.read.operation ≡ false → entries_to kind all before ≡ entries_to kind all (settled ∷ before)
not-entered Periph all settled before e = refl
not-entered Rel all settled before e = passed-over all settled.read.operation settled.read.operand (entries_among all before) e
not-entered Abs all settled before e = passed-over all settled.read.operation settled.read.operand (entries_among all before) e

-- no statement enters names
pub none-noted : (whole : Whole) (names : List Definition) → names ≡ [] → AreNoted whole [] names
none-noted whole names none = none ∙ none-entered whole.deck.kind (all_settled whole)
  where
    none-entered : (kind : DeckKind) (all : List Settled) → [] ≡ entries_to kind all []
    none-entered Rel all = refl
    none-entered Abs all = refl
    none-entered Periph all = refl

-- behind a statement that enters none the names are as they were
pub silent-noted : (whole : Whole) (earlier : List Statement) (given : Statement) (names : List Definition) →
    enters whole.deck.kind (settle whole.deck.kind (settled_all whole.deck.kind earlier) given).read.operation ≡ false → AreNoted whole earlier names → AreNoted whole (given ∷ earlier) names
silent-noted whole earlier given names silent noted =
    let kind = whole.deck.kind in
    let before = settled_all kind earlier in
    noted ∙ not-entered kind (all_settled whole) (settle kind before given) before silent

-- a line stays what it is where fields are put behind those that there are
stored-longer : (kind : DeckKind) (rows : List BlockRow) (before after : FieldLists) (line : Option CodedLine) (coded : Option Coded) → AreKeptOn before after → IsStored kind rows before line coded → IsStored kind rows after line coded
stored-longer kind rows before after None None keeps h = tt
stored-longer kind rows before after None (Some coded) keeps h = h
stored-longer kind rows before after (Some line) None keeps h = h
stored-longer kind rows before after (Some line) (Some coded) keeps h = coded-longer kind rows before after line coded keeps h

shown-longer : (kind : DeckKind) (rows : List BlockRow) (before after : FieldLists) → AreKeptOn before after → (front : ℕ) (cards : List Card) (lines : List Line) (shown : List Shown) (stood : ℕ) (ahead : List Card) →
    AreShownTo kind rows before front cards lines shown stood ahead → AreShownTo kind rows after front cards lines shown stood ahead
shown-longer kind rows before after keeps front cards [] [] stood ahead h = h
shown-longer kind rows before after keeps front cards [] (one ∷ shown) stood ahead h = h
shown-longer kind rows before after keeps front cards (line ∷ lines) [] stood ahead h = h
shown-longer kind rows before after keeps front cards (line ∷ lines) (one ∷ shown) stood ahead h = (
  record { before = h.0.before; cards = h.0.cards; some = h.0.some; within = h.0.within; letters = h.0.letters; stored = stored-longer kind rows before after line.coded one.coded keeps h.0.stored },
  shown-longer kind rows before after keeps (front + line.cards) (drop line.cards cards) lines shown stood ahead h.1,
)

-- a line behind the others
shown-append : (kind : DeckKind) (rows : List BlockRow) (lists : FieldLists) (front : ℕ) (cards : List Card) (lines : List Line) (shown : List Shown) (stood : ℕ) (ahead : List Card) (line : Line) (one : Shown) →
    AreShownTo kind rows lists front cards lines shown stood ahead → IsShown kind rows lists stood ahead line one → AreShownTo kind rows lists front cards (lines ++ line ∷ []) (shown ++ one ∷ []) (stood + line.cards) (drop line.cards ahead)
shown-append kind rows lists front cards [] [] stood ahead line one h is = (
  subst (λ n. IsShown kind rows lists n cards line one) (sym h.0) (subst (λ (c : List Card). IsShown kind rows lists stood c line one) (sym h.1) is),
  (ap (λ n. n + line.cards) h.0, ap (drop line.cards) h.1),
)
shown-append kind rows lists front cards [] (first ∷ shown) stood ahead line one h is = absurd h
shown-append kind rows lists front cards (first ∷ lines) [] stood ahead line one h is = absurd h
shown-append kind rows lists front cards (first ∷ lines) (other ∷ shown) stood ahead line one h is =
    (h.0, shown-append kind rows lists (front + first.cards) (drop first.cards cards) lines shown stood ahead line one h.1 is)

-- cards that are there do not pass the count
pub stood-step : (stood count : ℕ) (cards : List Card) → 0 < count → count ≤ length (drop stood cards) → length cards ≤ 20000 → min (stood + count) (2 ^ 64 - 1) ≡ stood + count
stood-step stood count cards some within few = let left = length-drop stood cards in omega (arith, some, within, few, left)

-- the lines with one more
pub lined-step : (whole : Whole) (shown : List Shown) (one : Shown) (line : Line) (old new : DeckLines) → new.lines.items ≡ old.lines.items ++ line ∷ [] → AreKeptOn old.fields new.fields → new.stood ≡ old.stood + line.cards →
    IsShown whole.deck.kind whole.rows new.fields old.stood (drop old.stood whole.cards) line one → AreLinedAs whole shown old → AreLinedAs whole (shown ++ one ∷ []) new
lined-step whole shown one line old new pushed keeps stood is lined =
    let longer = shown-longer whole.deck.kind whole.rows old.fields new.fields keeps 0 whole.cards old.lines.items shown old.stood (drop old.stood whole.cards) lined in
    let more = shown-append whole.deck.kind whole.rows new.fields 0 whole.cards old.lines.items shown old.stood (drop old.stood whole.cards) line one longer is in
    subst (λ (l : List Line). AreShownTo whole.deck.kind whole.rows new.fields 0 whole.cards l (shown ++ one ∷ []) new.stood (drop new.stood whole.cards)) (sym pushed)
    (subst (λ n. AreShownTo whole.deck.kind whole.rows new.fields 0 whole.cards (old.lines.items ++ line ∷ []) (shown ++ one ∷ []) n (drop n whole.cards)) (sym stood)
    (subst (λ (c : List Card). AreShownTo whole.deck.kind whole.rows new.fields 0 whole.cards (old.lines.items ++ line ∷ []) (shown ++ one ∷ []) (old.stood + line.cards) c) (drop-drop line.cards old.stood whole.cards) more))

-- statements newest first with one more
pub reverse-step : {A : Type 0} (x : A) (xs : List A) → reverse (x ∷ xs) ≡ reverse xs ++ x ∷ []
reverse-step x xs = reverse-append (x ∷ []) xs

-- the index of the block of a statement
pub block-named : (rows other : List BlockRow) (name block : List ℕ) (index : ℕ) → rows ≡ other → name ≡ block → (length rows ≤ 65 → has_row name rows ≡ true → IsNamed (slice_get rows index) name) →
    length other ≤ 65 → has_row block other ≡ true → IsNamed (slice_get other index) block
block-named rows other name block index e f named =
    subst (λ (r : List BlockRow). length r ≤ 65 → has_row block r ≡ true → IsNamed (slice_get r index) block) e
    (subst (λ (n : List ℕ). length rows ≤ 65 → has_row n rows ≡ true → IsNamed (slice_get rows index) n) f named)
