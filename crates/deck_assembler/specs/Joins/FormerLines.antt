-- The lines of the object before an edit, beside a walk over the statements of the edited deck.
use Rattle.std.specs.Prelude.{ℕ, ◌≡◌, ⊤, ◌≤◌, ◌+◌, ◌-◌, ◌^◌, ◌⊎◌, List, [], ◌∷◌, ◌++◌, Option, Some, None, map, min, take, drop, reverse}
use Rattle.definitions.specs.{Cards.Card, Objects.{Shown, shown_of, only_listed, coded_of}, Settled.Settled, Settling.{settle, settled_all}, StatementItems.Context, Statements.Statement, Laws.Agreement.unnumbered, declared.deck_kind.DeckKind.DeckKind}
use Rattle.deck_objects.specs.{Joins.CodedLines.{IsCoded, AreShown}, declared.lines.Line.Line, declared.object.ObjectParts.ObjectParts}
use Rattle.deck_assembler.specs.{Joins.DeckWalks.IsWalked, Joins.Heads.{AreHeadLines, cards_of_lines}, Joins.Rebindings.AreBindings, Joins.Sizers.stood, Joins.TailLines.{AreAlikeOn, lines_behind}, Joins.Walks.Whole, declared.deck_view.DeckView.DeckView, declared.deck_walk.Making.Making, declared.former.Former.Former, declared.former_lines.FormerLine.FormerLine, declared.former_lines.FormerLines.FormerLines, declared.rebinding.Bindings.Bindings, declared.sized_statement.SizedStatement.SizedStatement}

-- the same tail, fields and names
pub record IsSameTail (old new : FormerLines) : Type 0 where
  pub tail : new.tail ≡ old.tail
  pub fields : new.fields.now ≡ old.fields.now
  pub bindings : new.bindings ≡ old.bindings

-- the line that was found is one of these
pub record IsOneOf (old new : FormerLines) (found : FormerLine) : Type 0 where
  pub coded : found.line.now.coded ≡ Some found.coded.now
  pub fields : found.fields.now ≡ old.fields.now
  pub bindings : found.bindings ≡ old.bindings
  pub same_fields : new.fields.now ≡ old.fields.now
  pub same_bindings : new.bindings ≡ old.bindings

-- the first of the lines that are left is taken: it has so many cards, which are among the unchanged ones
pub record IsTaken (old new : FormerLines) (stood count : ℕ) (found : FormerLine) : Type 0 where
  pub lines : old.left.now ≡ found.line.now ∷ new.left.now
  pub cards : found.line.now.cards ≡ count
  pub within : stood + count ≤ old.before
  pub one : IsOneOf old new found
  pub same_before : new.before ≡ old.before
  pub same_tail : new.tail ≡ old.tail

-- the first line of the tail is taken, and none is left in front
pub record IsTakenOfTail (old new : FormerLines) (stood count : ℕ) (found : FormerLine) : Type 0 where
  pub lines : old.tail.left.now ≡ found.line.now ∷ new.tail.left.now
  pub at_is : new.tail.at ≡ min (stood + count) (2 ^ 64 - 1)
  pub one : IsOneOf old new found
  pub front : new.left.now ≡ []

-- one of the lines in front is taken, or none of them is left
abbrev pub IsNextInFront : FormerLines → FormerLines → ℕ → ℕ → Option FormerLine → Type 0
IsNextInFront old new stood count None = (new.left.now ≡ []) × IsSameTail old new
IsNextInFront old new stood count (Some found) = IsTaken old new stood count found

-- one of the lines of the tail is taken, or no line is left
abbrev pub IsNextInTail : FormerLines → FormerLines → ℕ → ℕ → Option FormerLine → Type 0
IsNextInTail old new stood count None = (new.left.now ≡ []) × (new.tail.left.now ≡ [])
IsNextInTail old new stood count (Some found) = IsTakenOfTail old new stood count found

-- where none was taken in front the first one is none of so many cards, which are among the unchanged ones
abbrev pub IsMissedInFront : FormerLines → ℕ → ℕ → Option FormerLine → Type 0
IsMissedInFront old stood count None = (line : Line) (lines : List Line) → old.left.now ≡ line ∷ lines → line.cards ≡ count → stood + count ≤ old.before → line.coded ≡ None
IsMissedInFront old stood count (Some found) = ⊤

-- where none was taken of the tail the first one is only listed
abbrev pub IsMissedInTail : FormerLines → Option FormerLine → Type 0
IsMissedInTail old None = (line : Line) (lines : List Line) → old.tail.left.now ≡ line ∷ lines → line.coded ≡ None
IsMissedInTail old (Some found) = ⊤

-- of the tail where that begins
pub record IsNextLine (old new : FormerLines) (stood count : ℕ) (found : Option FormerLine) : Type 0 where
  pub front : (stood ≡ old.tail.at → ⊥) → IsNextInFront old new stood count found
  pub tail : stood ≡ old.tail.at → IsNextInTail old new stood count found
  pub missed_front : (stood ≡ old.tail.at → ⊥) → IsMissedInFront old stood count found
  pub missed_tail : stood ≡ old.tail.at → IsMissedInTail old found

-- no line is left
pub record IsBare (former : FormerLines) : Type 0 where
  pub front : former.left.now ≡ []
  pub tail : former.tail.left.now ≡ []

-- a line was that of a statement, settled alike, in a deck of the same kind
pub record WasLine (kind : DeckKind) (found : FormerLine) (settled : Settled) : Type 0 where
  pub context : Context
  pub other : Settled
  pub same_kind : context.kind ≡ kind
  pub bindings : AreBindings found.bindings context
  pub alike : unnumbered other ≡ unnumbered settled
  pub letters : found.line.now.letters ≡ (shown_of context other).letters
  pub coded : IsCoded context.kind context.rows found.fields.now found.coded.now (coded_of context other)

-- all names mean in a deck that is viewed what they did in the one before
pub record MeanAsViewed (bindings : Bindings) (view : DeckView) : Type 0 where
  pub symbols : bindings.symbols.now ≡ view.deck.now.symbols
  pub literals : bindings.literals.now ≡ view.deck.now.literals
  pub rows : bindings.bases.now ≡ view.bases.now

-- as far as there is a line
abbrev pub WasLineIfAny : DeckKind → Option FormerLine → Settled → Type 0
WasLineIfAny kind None settled = ⊤
WasLineIfAny kind (Some found) settled = WasLine kind found settled

-- statements in order, behind these, as a listing shows them
abbrev pub shown_from : Context → List Statement → List Statement → List Statement → List Shown
shown_from context earlier [] listed = map only_listed listed
shown_from context earlier (statement ∷ coming) listed =
    shown_of context (settle context.kind (settled_all context.kind earlier) statement) ∷ shown_from context (statement ∷ earlier) coming listed

-- the lines that are left are those of a deck of the same kind behind these statements, of which it has the first ones too
pub record AreBeside (kind : DeckKind) (cards : List Card) (context : Context) (earlier coming : List Statement) (stood : ℕ) (former : FormerLines) : Type 0 where
  pub old_cards : List Card
  pub listed : List Statement
  pub same_kind : context.kind ≡ kind
  pub bindings : AreBindings former.bindings context
  pub same : take former.before old_cards ≡ take former.before cards
  pub shown : AreShown context.kind context.rows former.fields.now stood (drop stood old_cards) former.left.now (shown_from context earlier coming listed)

-- or none is left
abbrev pub AreBesideIfAny : DeckKind → List Card → List Statement → ℕ → FormerLines → Type 0
AreBesideIfAny kind cards earlier stood former = (former.left.now ≡ []) ⊎ ((context : Context) × (coming : List Statement) × AreBeside kind cards context earlier coming stood former)

-- those of the tail are lines of a deck of the same kind; the statements to come, behind these, come to the tail, and are settled there as those of the lines were
pub record AreOfTail (kind : DeckKind) (context : Context) (earlier coming between : List Statement) (standing : ℕ) (former : FormerLines) : Type 0 where
  pub same_kind : context.kind ≡ kind
  pub bindings : AreBindings former.bindings context
  pub tail : List Statement
  pub all : coming ≡ between ++ tail
  pub stands : standing ≡ stood earlier
  pub place : stood (reverse between ++ earlier) ≡ former.tail.at
  pub passed : List Statement
  pub later : List Statement
  pub listed : List Statement
  pub old_stood : ℕ
  pub old_ahead : List Card
  pub shown : AreShown context.kind context.rows former.fields.now old_stood old_ahead former.tail.left.now (shown_from context passed later listed)
  pub alike : AreAlikeOn kind passed later (reverse between ++ earlier) tail

-- or there are none
abbrev pub AreOfTailIfAny : DeckKind → List Statement → List Statement → ℕ → FormerLines → Type 0
AreOfTailIfAny kind earlier coming standing former = (former.tail.left.now ≡ []) ⊎ ((context : Context) × (between : List Statement) × AreOfTail kind context earlier coming between standing former)

-- the lines of the object before, beside the statements so far and those to come
pub record IsBeside (kind : DeckKind) (cards : List Card) (earlier coming : List Statement) (stood : ℕ) (former : FormerLines) : Type 0 where
  pub front : AreBesideIfAny kind cards earlier stood former
  pub tail : AreOfTailIfAny kind earlier coming stood former

-- beside a deck of another kind the lines of the neutral statements in front were chosen, and none of a tail
pub record AreOfHead (former : Former) (parts : ObjectParts) (lines : FormerLines) : Type 0 where
  pub head : AreHeadLines former.before 0 parts.lines.items lines.left.now
  pub before : lines.before ≡ cards_of_lines lines.left.now
  pub none : lines.tail.left.now ≡ []

-- these lines were chosen of the object before an edit, beside a deck of this kind; so many cards has the old deck, and so many the edited one
pub record AreChosen (kind : DeckKind) (old count : ℕ) (former : Former) (parts : ObjectParts) (lines : FormerLines) : Type 0 where
  pub fields : lines.fields.now ≡ parts.fields
  pub symbols : lines.bindings.symbols.now ≡ former.symbols
  pub literals : lines.bindings.literals.now ≡ former.literals
  pub bases : lines.bindings.bases.now ≡ parts.bases
  pub alike : former.kind ≡ kind → lines.left.now ≡ parts.lines.items
  pub before : former.kind ≡ kind → lines.before ≡ former.before
  pub other : (former.kind ≡ kind) ⊎ AreOfHead former parts lines
  pub none : former.tail ≡ 0 → lines.tail.left.now ≡ []
  pub tail : former.kind ≡ kind → (former.tail ≡ 0) ⊎ (lines.tail.left.now ≡ lines_behind (old - former.tail) lines.left.now)
  pub place : lines.tail.at ≡ count - former.tail

-- how far a walk has come, and beside it the lines of the object before
pub record IsWalkedBeside (whole : Whole) (left : List SizedStatement) (made : Making) (former : FormerLines) : Type 0 where
  pub walked : IsWalked whole left made
  pub beside : IsBeside whole.deck.kind whole.cards walked.earlier walked.coming made.lines.stood former
