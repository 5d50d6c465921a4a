-- The lines of an object, and the statements of the definitions that they are.
use Rattle.std.specs.Prelude.{ℕ, ◌≡◌, ⊤, ◌+◌, ◌<◌, ◌≤◌, List, [], ◌∷◌, Option, Some, None, slice_get, take, drop, length, ◌↔◌}
use Rattle.definitions.specs.{Cards.Card, Lengths.BlockRow, Objects.Shown, Words.Coded, declared.deck_kind.DeckKind.DeckKind}
use Rattle.definitions.specs.Operations as op
use Rattle.operations.specs.Joins.OperationsAs.{operation_as}
use Rattle.deck_objects.specs.{Joins.LineItems.{kept_items, AreBitsOf, AreKept}, declared.lines.FieldLists.FieldLists, declared.lines.Line.Line}
use Rattle.deck_objects.specs.declared.lines.CodedLine as lines
use Rattle.deck_objects.specs.declared.lines.LineFields.TheVariants as variant

-- a block that is there has this name
abbrev pub IsNamed : Option BlockRow → List ℕ → Type 0
IsNamed None name = ⊥
IsNamed (Some row) name = row.name ≡ name

-- a line is a statement with the fields it makes
pub record IsCoded (kind : DeckKind) (rows : List BlockRow) (lists : FieldLists) (line : lines.CodedLine) (coded : Coded) : Type 0 where
  pub operation : operation_as line.operation ≡ coded.settled.read.operation
  pub block : IsNamed (slice_get rows line.block) coded.settled.block
  pub place : line.place ≡ coded.settled.place
  pub end : line.end ≡ coded.settled.end
  pub begins_run : line.begins_run ≡ coded.settled.begins_run
  -- its fields, each short but where they are a BSSZ's zeros
  pub fields : AreBitsOf (kept_items kind lists line) coded.fields
  pub kept : AreKept kind lists line line.fields
  pub zeros : (line.fields ≡ variant.Zeros) ↔ (coded.settled.read.operation ≡ op.Bssz)

-- what a line stores is what a statement of the listing stores
abbrev pub IsStored : DeckKind → List BlockRow → FieldLists → Option lines.CodedLine → Option Coded → Type 0
IsStored kind rows lists None None = ⊤
IsStored kind rows lists None (Some coded) = ⊥
IsStored kind rows lists (Some line) None = ⊥
IsStored kind rows lists (Some line) (Some coded) = IsCoded kind rows lists line coded

-- a line shows a statement: its cards stand next, of which so many stood before; its letters; and what it stores
pub record IsShown (kind : DeckKind) (rows : List BlockRow) (lists : FieldLists) (stood : ℕ) (ahead : List Card) (line : Line) (shown : Shown) : Type 0 where
  pub before : stood ≡ shown.statement.before
  pub cards : take line.cards ahead ≡ shown.statement.cards
  pub some : 0 < line.cards
  pub within : line.cards ≤ length ahead
  pub letters : line.letters ≡ shown.letters
  pub stored : IsStored kind rows lists line.coded shown.coded

-- lines show statements one behind the other, which have these cards
abbrev pub AreShown : DeckKind → List BlockRow → FieldLists → ℕ → List Card → List Line → List Shown → Type 0
AreShown kind rows lists before cards [] [] = cards ≡ []
AreShown kind rows lists before cards [] (shown ∷ others) = ⊥
AreShown kind rows lists before cards (line ∷ lines) [] = ⊥
AreShown kind rows lists before cards (line ∷ lines) (shown ∷ others) =
    IsShown kind rows lists before cards line shown × AreShown kind rows lists (before + line.cards) (drop line.cards cards) lines others

-- the statements up to END among lines, in order
abbrev pub AreCoded : DeckKind → List BlockRow → FieldLists → List Line → List Coded → Type 0
AreCoded kind rows lists [] [] = ⊤
AreCoded kind rows lists [] (coded ∷ others) = ⊥
AreCoded kind rows lists (line ∷ lines) all = elim line.coded [
  | None ↦ AreCoded kind rows lists lines all
  | Some stored ↦ elim all [ [] ↦ ⊥ | coded ∷ others ↦ IsCoded kind rows lists stored coded × AreCoded kind rows lists lines others ]
]
