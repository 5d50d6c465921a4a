-- Fields of a statement, put one behind the other into a run.
use Rattle.std.specs.Prelude.{ℕ, ◌≡◌, ◌+◌, ◌*◌, ◌%◌, ◌<◌, ◌≤◌, List, [], Bool, false}
use Rattle.definitions.specs.{Kinds.{units, most_words}, Operations.is_instruction, StatementItems.Item, Words.{Linking, width_of}, declared.deck_kind.DeckKind.DeckKind, Laws.Filling.DoFill}
use Rattle.deck_objects.specs.declared.lines.FieldLists.{FieldLists}
use Rattle.operations.specs.Joins.OperationsAs.{operation_as}
use Rattle.parcel_packer.specs.Joins.Packing.{OpenRun, Packed, DoItemsFit, MayBegin, moved, put_items}
use Rattle.deck_objects.specs.Joins.LineItems.{kept_items, AreKept}
use Rattle.deck_objects.specs.declared.lines.CodedLine as lines
use Rattle.deck_objects.specs.declared.lines.LineFields.TheVariants as variant

-- a field may begin at a bit of the block, and the parcel that is open there is not yet whole
pub record StandsAt (size : ℕ) (run : OpenRun) (at_bit : ℕ) : Type 0 where
  pub begins : MayBegin size run at_bit
  pub room : run.filled < size

-- these fields lie in a run from a bit of the block on
pub record ArePut (size : ℕ) (instruction : Bool) (linking : Linking) (old : OpenRun) (from : ℕ) (fields : List Item) (new : OpenRun) : Type 0 where
  pub run : moved size (from + width_of fields) new ≡ put_items size instruction linking fields (moved size from old)
  pub stands : StandsAt size new (from + width_of fields)
  pub fits : DoItemsFit linking fields
  pub none : fields ≡ [] → new ≡ old

-- a line may be put behind a run whose parcels are whole
pub record IsReady (kind : DeckKind) (lists : FieldLists) (line : lines.CodedLine) (packed : Packed) : Type 0 where
  pub kind_is : packed.kind ≡ kind
  pub whole : packed.run.filled ≡ 0
  pub behind : packed.run.place ≤ line.place
  pub ordered : line.place ≤ line.end
  pub within : line.end ≤ units kind * most_words kind
  -- its fields are short and fill it; zeros fill whole words
  pub kept : AreKept kind lists line line.fields
  pub filled : DoFill kind line.place line.end (kept_items kind lists line)
  pub plain : line.fields ≡ variant.Zeros → is_instruction (operation_as line.operation) ≡ false
  pub from_word : line.fields ≡ variant.Zeros → line.place % units kind ≡ 0
  pub to_word : line.fields ≡ variant.Zeros → line.end % units kind ≡ 0
