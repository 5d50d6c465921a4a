-- What a walk over the statements of a deck makes of its lines, and counts, whatever deck it is.
use Rattle.std.specs.Prelude.{ℕ, ◌≡◌, ◌+◌, ◌-◌, ◌^◌, ◌≤◌, List, [], ◌∷◌, ◌++◌, Option, Some, true, false, drop, min, reverse}
use Rattle.definitions.specs.{Cards.Card, DeckInput.Deck, Laws.Rebound.{context_from, is_rebound}, Objects.object_of, Settling.{settle, settled_all}, StatementItems.Context, Statements.Statement, declared.deck_kind.DeckKind.DeckKind}
use Rattle.statement_coder.specs.{Meters.Counts, Joins.ReadOperands.IsReadOperand, declared.read_operands.ReadOperand.ReadOperand}
use Rattle.deck_objects.specs.{Joins.PartsOf.ArePartsOf, declared.object.ObjectParts.ObjectParts}
use Rattle.deck_assembler.specs.{Joins.DeckWalks.IsDone, Joins.DueCodes.{CodePlan, IsDueBeside, IsPlanned, IsWalkedAnew, IsWalkedDue, RisesRebound, RisesReboundOf, code_due_in, code_due_of}, Joins.FormerLines.{IsBeside, IsWalkedBeside, WasLineIfAny}, Joins.Formers.known_in, Joins.Rebindings.AreBindings, Joins.SizedDecks.IsSizedStatement, Joins.Walks.{AreLined, IsWhole, context_in, has_row, whole_of}, declared.deck_lines.DeckLines.DeckLines, declared.deck_view.DeckView.DeckView, declared.deck_walk.Making.Making, declared.former_lines.FormerLine.FormerLine, declared.former_lines.FormerLines.FormerLines, declared.sized_statement.SizedStatement.SizedStatement}

-- the lines of a deck that is viewed have that of this statement too, whose operand was read, and for which this line was found in the object before, or none
abbrev pub PutsLine : DeckView → ReadOperand → SizedStatement → Option FormerLine → DeckLines → DeckLines → Type 0
PutsLine view read sized found old new = (known others earlier : List Statement) (given : Statement) →
    let whole = whole_of view known others in
    let before = settled_all whole.deck.kind earlier in
    IsWhole whole → read.kind ≡ whole.deck.kind → IsReadOperand read (settle whole.deck.kind before given) → IsSizedStatement whole.deck.kind earlier old.stood (drop old.stood whole.cards) sized given →
    has_row (settle whole.deck.kind before given).block whole.rows ≡ true → WasLineIfAny whole.deck.kind found (settle whole.deck.kind before given) →
    AreLined whole earlier old → AreLined whole (given ∷ earlier) new

-- where a line was found, and no name that the statement reads is bound otherwise, it is not counted
abbrev pub CopiesSame : DeckView → ReadOperand → SizedStatement → Option FormerLine → ℕ → ℕ → ℕ → Type 0
CopiesSame view read sized found standing count now = (known others earlier : List Statement) (given : Statement) (old : Context) (one : FormerLine) →
    let whole = whole_of view known others in
    let settled = settle whole.deck.kind (settled_all whole.deck.kind earlier) given in
    IsWhole whole → IsReadOperand read settled → IsSizedStatement whole.deck.kind earlier standing (drop standing whole.cards) sized given → found ≡ Some one → AreBindings one.bindings old →
    is_rebound old (context_in whole) settled ≡ false → now ≡ count

-- and where one is, it is counted
abbrev pub CountsRebound : DeckView → ReadOperand → SizedStatement → Option FormerLine → ℕ → ℕ → ℕ → Type 0
CountsRebound view read sized found standing count now = (known others earlier : List Statement) (given : Statement) (old : Context) (one : FormerLine) →
    let whole = whole_of view known others in
    let settled = settle whole.deck.kind (settled_all whole.deck.kind earlier) given in
    IsWhole whole → IsReadOperand read settled → IsSizedStatement whole.deck.kind earlier standing (drop standing whole.cards) sized given → found ≡ Some one → AreBindings one.bindings old →
    is_rebound old (context_in whole) settled ≡ true → now ≡ min (count + 1) (2 ^ 64 - 1)

-- a walk comes past these statements, beside the lines of the object before
abbrev pub WalksOn : DeckView → List SizedStatement → Making → Making → FormerLines → FormerLines → Type 0
WalksOn view piece old new before after = (known others : List Statement) (left : List SizedStatement) → let whole = whole_of view known others in
    IsWhole whole → IsWalkedBeside whole (piece ++ left) old before → IsWalkedBeside whole left new after

-- a count that was within what was due is so behind them
abbrev pub WalksOnDue : DeckView → List SizedStatement → Making → Making → FormerLines → FormerLines → Counts → Counts → Type 0
WalksOnDue view piece old new before after counted counts = (known others : List Statement) (left : List SizedStatement) (plan : CodePlan) (base : ℕ) → let whole = whole_of view known others in
    IsWhole whole → IsPlanned known plan → IsWalkedDue whole plan base (piece ++ left) old.lines.stood before counted.coded → IsWalkedDue whole plan base left new.lines.stood after counts.coded

-- and within what is due in the whole deck, whether memory lacked or not
abbrev pub CountsDueIn : DeckView → List SizedStatement → Making → FormerLines → Counts → Counts → Type 0
CountsDueIn view piece old before counted counts = (known others : List Statement) (left : List SizedStatement) (plan : CodePlan) (base : ℕ) → let whole = whole_of view known others in
    IsWhole whole → IsPlanned known plan → IsWalkedDue whole plan base (piece ++ left) old.lines.stood before counted.coded → counts.coded ≤ base + code_due_in whole plan known

-- each of them that is bound otherwise than in an old deck has been counted
abbrev pub WalksOnAnew : DeckView → List SizedStatement → Making → Making → FormerLines → Counts → Counts → Type 0
WalksOnAnew view piece made new before counted counts = (known others : List Statement) (left : List SizedStatement) (old : Context) (base : ℕ) → let whole = whole_of view known others in
    IsWhole whole → AreBindings before.bindings old → IsWalkedAnew whole old base (piece ++ left) made.lines.stood counted.coded → IsWalkedAnew whole old base left new.lines.stood counts.coded

-- a walk comes past all statements up to END that are left
abbrev pub WalksAll : DeckView → List SizedStatement → Making → Making → FormerLines → FormerLines → Type 0
WalksAll view all old new before after = (known others : List Statement) → let whole = whole_of view known others in
    IsWhole whole → IsWalkedBeside whole all old before → IsWalkedBeside whole [] new after

-- no more are coded than are due
abbrev pub CountsAllDue : DeckView → List SizedStatement → Making → FormerLines → Counts → Counts → Type 0
CountsAllDue view all old before counted counts = (known others : List Statement) (plan : CodePlan) (base : ℕ) → let whole = whole_of view known others in
    IsWhole whole → IsPlanned known plan → IsWalkedDue whole plan base all old.lines.stood before counted.coded → counts.coded ≤ base + code_due_in whole plan known

-- and each that is bound otherwise counts one
abbrev pub CountsAllAnew : DeckView → List SizedStatement → Making → FormerLines → Counts → Counts → Type 0
CountsAllAnew view all made before counted counts = (known others : List Statement) (old : Context) (base : ℕ) → let whole = whole_of view known others in
    IsWhole whole → AreBindings before.bindings old → IsWalkedAnew whole old base all made.lines.stood counted.coded → RisesRebound whole old base known counts.coded

-- the walk over a whole deck
abbrev pub WalksToEnd : DeckView → FormerLines → Making → Type 0
WalksToEnd view former made = (known others : List Statement) → let whole = whole_of view known others in
    IsWhole whole → IsBeside whole.deck.kind whole.cards [] (reverse known) 0 former → IsDone whole made

-- what it counts at most
abbrev pub CountsWalkDue : DeckView → FormerLines → Counts → Counts → Type 0
CountsWalkDue view former counted counts = (known others : List Statement) (plan : CodePlan) → let whole = whole_of view known others in
    IsWhole whole → IsPlanned known plan → IsDueBeside whole.deck.kind whole.cards plan [] (reverse known) 0 former → counts.coded ≤ counted.coded + code_due_in whole plan known

-- and at least
abbrev pub CountsWalkAnew : DeckView → FormerLines → Counts → Counts → Type 0
CountsWalkAnew view former counted counts = (known others : List Statement) (old : Context) → let whole = whole_of view known others in
    IsWhole whole → AreBindings former.bindings old → RisesRebound whole old counted.coded known counts.coded

-- the parts of the object of these cards, whatever its name
abbrev pub ArePartsOfCards : List Card → ObjectParts → Type 0
ArePartsOfCards cards parts = (name : List ℕ) → let given : Deck = record { name = name; cards = cards } in ArePartsOf cards parts (object_of given)

-- what they count at most, beside the lines of the object before
abbrev pub CountsPartsDue : DeckKind → List Card → Option FormerLines → Counts → Counts → Type 0
CountsPartsDue kind cards former counted counts = (lines : FormerLines) (plan : CodePlan) →
    former ≡ Some lines → IsPlanned (known_in cards) plan → IsDueBeside kind cards plan [] (reverse (known_in cards)) 0 lines → counts.coded ≤ counted.coded + code_due_of cards plan

-- and at least
abbrev pub CountsPartsAnew : List Card → Option FormerLines → Counts → Counts → Type 0
CountsPartsAnew cards former counted counts = (lines : FormerLines) (old : List Card) →
    former ≡ Some lines → AreBindings lines.bindings (context_from (known_in old)) → RisesReboundOf old cards counted.coded counts.coded
