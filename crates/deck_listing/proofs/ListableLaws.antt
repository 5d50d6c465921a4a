-- What is known of the statements of an object.
use Rattle.std.{proofs.Common.{◌≡◌, ◌≢◌, ℕ, ◌+◌, ◌-◌, ◌*◌, ◌%◌, ◌^◌, ◌<◌, ◌≤◌, true, false, List, [], ◌∷◌, ◌++◌, Option, None, Some, ◌⊎◌, inl, inr, ⊎_elim, reverse, refl, arith}, specs.List.AllByRecursion, proofs.lemmas.List.reverse-append, proofs.lemmas.List.Elements.All-from_recursion}
use Rattle.definitions.specs.{Cards.Card, Kinds.{most_words, unit_bits, units, word_bits}, Lengths.BlockRow, Objects.Object, Operations.{Operation, is_instruction}, StatementItems.Item, Words.{Coded, width_of}, declared.deck_kind.DeckKind.DeckKind, declared.deck_kind.DeckKind.TheVariants.{Rel, Abs, Periph}, Laws.Filling.{DoFill, HasFields}, Laws.Reaching.{DoReach, DoesReach}, Laws.Rising.AreLaidOut}
use Rattle.definitions.specs.Operations as op
use Rattle.deck_objects.specs.declared.lines.FieldLists.{FieldLists}
use Rattle.deck_objects.specs.{Joins.CodedLines.{AreCoded, IsCoded}, Joins.PartsOf.ArePartsOf, declared.lines.CodedLine.CodedLine, declared.lines.Line.Line, declared.object.ObjectParts.ObjectParts}
use Rattle.deck_listing.{specs.Joins.ListedParts.{AreListable, IsListable, IsListableLine}, specs.Joins.WordLines.has_one_line, proofs.FieldTexts.has_one_line-true}

-- what is known of a statement of a deck
record IsSound (kind : DeckKind) (coded : Coded) : Type 0 where
  filled : DoFill kind coded.settled.place coded.settled.end coded.fields
  reach : DoesReach kind coded
  within : coded.settled.end ≤ units kind * most_words kind

-- a statement has no fields, or they reach from its place to its end
fill-width : (kind : DeckKind) (place end : ℕ) (fields : List Item) → DoFill kind place end fields → (width_of fields ≡ 0) ⊎ (HasFields fields × (width_of fields ≡ (end - place) * unit_bits kind))
fill-width kind place end [] filled = inl refl
fill-width kind place end (field ∷ fields) filled = inr (tt, filled)

short-bits : (kind : DeckKind) (place end : ℕ) → end ≤ place + 4 → (end - place) * unit_bits kind ≤ 60
short-bits Rel place end h = omega arith
short-bits Abs place end h = omega arith
short-bits Periph place end h = omega arith

bounded-bits : (kind : DeckKind) (place end : ℕ) → end ≤ units kind * most_words kind → (end - place) * unit_bits kind < 2 ^ 23
bounded-bits Rel place end h = omega arith
bounded-bits Abs place end h = omega arith
bounded-bits Periph place end h = omega arith

-- the fields of one line have at most 60 bits
short-width : (kind : DeckKind) (coded : Coded) → IsSound kind coded → has_one_line kind coded.settled.read.operation ≡ true → width_of coded.fields ≤ 60
short-width kind coded sound one =
    ⊎_elim (λ none. omega (arith, none))
    (λ some. rw some.1 (short-bits kind coded.settled.place coded.settled.end (sound.reach.instruction some.0 (has_one_line-true kind coded.settled.read.operation one))))
    (fill-width kind coded.settled.place coded.settled.end coded.fields sound.filled)

bounded-width : (kind : DeckKind) (coded : Coded) → IsSound kind coded → width_of coded.fields < 2 ^ 23
bounded-width kind coded sound =
    ⊎_elim (λ none. omega (arith, none))
    (λ some. rw some.1 (bounded-bits kind coded.settled.place coded.settled.end sound.within))
    (fill-width kind coded.settled.place coded.settled.end coded.fields sound.filled)

no_instruction : (operation : Operation) → is_instruction operation ≡ false → operation ≢ op.Instruction
no_instruction operation e is = let f : is_instruction op.Instruction ≡ false = rw is at e in cc

whole-central : (place end : ℕ) → place % 4 ≡ 0 → end % 4 ≡ 0 → (end - place) * 15 % 60 ≡ 0
whole-central place end h k = omega arith

whole-peripheral : (place end : ℕ) → (end - place) * 12 % 12 ≡ 0
whole-peripheral place end = omega arith

-- all other fields fill whole words
whole-width : (kind : DeckKind) (coded : Coded) → IsSound kind coded → has_one_line kind coded.settled.read.operation ≡ false → width_of coded.fields % word_bits kind ≡ 0
whole-width Rel coded sound other =
    ⊎_elim (λ none. omega (arith, none))
    (λ some. let no = no_instruction coded.settled.read.operation other in
    rw some.1 (whole-central coded.settled.place coded.settled.end (sound.reach.from_word some.0 no) (sound.reach.to_word some.0 no)))
    (fill-width Rel coded.settled.place coded.settled.end coded.fields sound.filled)
whole-width Abs coded sound other =
    ⊎_elim (λ none. omega (arith, none))
    (λ some. let no = no_instruction coded.settled.read.operation other in
    rw some.1 (whole-central coded.settled.place coded.settled.end (sound.reach.from_word some.0 no) (sound.reach.to_word some.0 no)))
    (fill-width Abs coded.settled.place coded.settled.end coded.fields sound.filled)
whole-width Periph coded sound other =
    ⊎_elim (λ none. omega (arith, none))
    (λ some. rw some.1 (whole-peripheral coded.settled.place coded.settled.end))
    (fill-width Periph coded.settled.place coded.settled.end coded.fields sound.filled)

-- what a line stores is listed
listable-of : (kind : DeckKind) (rows : List BlockRow) (lists : FieldLists) (stored : CodedLine) (coded : Coded) → IsCoded kind rows lists stored coded → IsSound kind coded → IsListable kind lists stored
listable-of kind rows lists stored coded is sound = record {
  kept = is.kept;
  zeros = rw is.operation is.zeros;
  short = λ one. rw is.fields.width (short-width kind coded sound (rw is.operation at one));
  whole = λ other. rw is.fields.width (whole-width kind coded sound (rw is.operation at other));
  bounded = rw is.fields.width (bounded-width kind coded sound);
}

-- the first of lines, which may store a statement, and the others
abbrev FirstCoded : DeckKind → List BlockRow → FieldLists → Option CodedLine → List Line → List Coded → Type 0
FirstCoded kind rows lists None lines all = AreCoded kind rows lists lines all
FirstCoded kind rows lists (Some stored) lines [] = ⊥
FirstCoded kind rows lists (Some stored) lines (coded ∷ others) = IsCoded kind rows lists stored coded × AreCoded kind rows lists lines others

first-coded : (kind : DeckKind) (rows : List BlockRow) (lists : FieldLists) (line : Line) (found : Option CodedLine) (lines : List Line) (all : List Coded) → line.coded ≡ found →
    AreCoded kind rows lists (line ∷ lines) all → FirstCoded kind rows lists found lines all
first-coded kind rows lists line None lines all e h = rw e at h
first-coded kind rows lists line (Some stored) lines [] e h = rw e at h
first-coded kind rows lists line (Some stored) lines (coded ∷ others) e h = rw e at h

-- what a line stores is listed, and so are the lines behind it
both-listable : (kind : DeckKind) (rows : List BlockRow) (lists : FieldLists) (found : Option CodedLine) (lines : List Line) (all : List Coded) →
    ((others : List Coded) → AreCoded kind rows lists lines others → AllByRecursion (IsSound kind) others → AllByRecursion (λ (shown : Line). IsListableLine kind lists shown.coded) lines) →
    FirstCoded kind rows lists found lines all → AllByRecursion (IsSound kind) all →
    IsListableLine kind lists found × AllByRecursion (λ (shown : Line). IsListableLine kind lists shown.coded) lines
both-listable kind rows lists None lines all behind h s = (tt, behind all h s)
both-listable kind rows lists (Some stored) lines [] behind h s = absurd h
both-listable kind rows lists (Some stored) lines (first ∷ others) behind h s = (listable-of kind rows lists stored first h.0 s.0, behind others h.1 s.1)

-- what all lines store is listed
lines-listable : (kind : DeckKind) (rows : List BlockRow) (lists : FieldLists) (lines : List Line) (all : List Coded) → AreCoded kind rows lists lines all → AllByRecursion (IsSound kind) all →
    AllByRecursion (λ (shown : Line). IsListableLine kind lists shown.coded) lines
lines-listable kind rows lists [] all coded sound = tt
lines-listable kind rows lists (line ∷ lines) all coded sound =
    both-listable kind rows lists line.coded lines all (λ others c s. lines-listable kind rows lists lines others c s) (first-coded kind rows lists line line.coded lines all refl coded) sound

-- all statements of an object are sound
all-sound : (kind : DeckKind) (all : List Coded) → AreLaidOut kind all → DoReach kind all → AllByRecursion (IsSound kind) all
all-sound kind [] laid reach = tt
all-sound kind (coded ∷ earlier) laid reach =
    ((record { filled = laid.0.filled; reach = reach.0; within = laid.0.end_within }), all-sound kind earlier laid.1 reach.1)

all-push : (P : Coded → Type 0) (xs : List Coded) (x : Coded) → AllByRecursion P xs → P x → AllByRecursion P (xs ++ x ∷ [])
all-push P [] x h p = (p, tt)
all-push P (y ∷ ys) x h p = (h.0, all-push P ys x h.1 p)

all-reverse : (P : Coded → Type 0) (xs : List Coded) → AllByRecursion P xs → AllByRecursion P (reverse xs)
all-reverse P [] h = tt
all-reverse P (x ∷ xs) h = rw (reverse-append (x ∷ []) xs) (all-push P (reverse xs) x (all-reverse P xs h.1) h.0)

-- the statements of an object are listed
pub parts-listable : (cards : List Card) (parts : ObjectParts) (object : Object) → ArePartsOf cards parts object → AreListable parts.kind parts.fields parts.lines.items
parts-listable cards parts object are =
    All-from_recursion _ parts.lines.items
    (lines-listable parts.kind parts.bases parts.fields parts.lines.items (reverse object.coded) are.coded
    (all-reverse (IsSound parts.kind) object.coded
    (all-sound parts.kind object.coded (rw are.kind are.laid) (rw are.kind are.reach))))
