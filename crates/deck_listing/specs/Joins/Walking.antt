-- The runs of all blocks, as their statements come line by line.
use Rattle.std.specs.{Prelude.{ℕ, ◌≡◌, ◌≤◌, List, [], ◌++◌, length, map, reverse, slice_get, Some}, List.IsDistinct}
use Rattle.definitions.specs.{Characters.same_text, Cards.Card, Lengths.BlockRow, Objects.Object, Words.{Coded, Linking, runs_of}, declared.deck_kind.DeckKind.DeckKind, Laws.Reaching.{DoesReach, DoReach}, Laws.Rising.{run_end, IsLaidOut, AreLaidOut}}
use Rattle.deck_objects.specs.declared.lines.FieldLists.{FieldLists}
use Rattle.parcel_packer.specs.Joins.Packing.{Packed, empty_run, runs_in}
use Rattle.deck_objects.specs.{Joins.CodedLines.{IsCoded, AreCoded}, Joins.PartsOf.ArePartsOf, declared.lines.Line.Line, declared.object.ObjectParts.ObjectParts}
use Rattle.deck_objects.specs.declared.lines.CodedLine as lines

-- some deck has an object of these parts
pub record HasObject (parts : ObjectParts) : Type 0 where
  pub cards : List Card
  pub object : Object
  pub are_parts : ArePartsOf cards parts object

-- what is packed are the runs of a block from statements, newest first; its parcels are whole
pub record HasRuns (kind : DeckKind) (linking : Linking) (block : List ℕ) (coded : List Coded) (packed : Packed) : Type 0 where
  pub kind_is : packed.kind ≡ kind
  pub runs : runs_in packed ≡ runs_of kind linking block coded
  pub whole : packed.run.filled ≡ 0
  pub empty : packed.run.bits ≡ 0
  pub place : packed.run.place ≤ run_end block coded

-- a line is the statement that follows those whose runs are packed
pub record DoesFollow (kind : DeckKind) (rows : List BlockRow) (lists : FieldLists) (linking : Linking) (block : List ℕ)
    (line : lines.CodedLine) (packed : Packed) (coded : Coded) (earlier : List Coded) : Type 0 where
  pub is_coded : IsCoded kind rows lists line coded
  pub laid : IsLaidOut kind coded earlier
  pub reach : DoesReach kind coded
  pub runs : HasRuns kind linking block earlier packed

-- a line is some statement that follows those of its block whose runs are packed
pub record IsNext (kind : DeckKind) (rows : List BlockRow) (lists : FieldLists) (linking : Linking) (line : lines.CodedLine) (packed : Packed) : Type 0 where
  pub coded : Coded
  pub earlier : List Coded
  pub follows : DoesFollow kind rows lists linking coded.settled.block line packed coded earlier

-- no two blocks have one name
abbrev pub DoNamesDiffer : List BlockRow → Type 0
DoNamesDiffer rows = IsDistinct same_text (map (λ (row : BlockRow). row.name) rows)

-- for each of these blocks its runs from statements, newest first, are packed
pub record HaveRuns (kind : DeckKind) (linking : Linking) (rows : List BlockRow) (coded : List Coded) (packed : List Packed) : Type 0 where
  pub same : length packed ≡ length rows
  pub each : (i : ℕ) (row : BlockRow) (words : Packed) → slice_get rows i ≡ Some row → slice_get packed i ≡ Some words → HasRuns kind linking row.name coded words

-- a line is the statement that follows those whose runs are packed for all blocks
pub record DoesFollowAll (kind : DeckKind) (rows : List BlockRow) (lists : FieldLists) (linking : Linking)
    (line : lines.CodedLine) (packed : List Packed) (coded : Coded) (earlier : List Coded) : Type 0 where
  pub is_coded : IsCoded kind rows lists line coded
  pub laid : IsLaidOut kind coded earlier
  pub reach : DoesReach kind coded
  pub runs : HaveRuns kind linking rows earlier packed

-- a line is some statement that follows them
pub record IsNextOfAll (kind : DeckKind) (rows : List BlockRow) (lists : FieldLists) (linking : Linking) (line : lines.CodedLine) (packed : List Packed) : Type 0 where
  pub coded : Coded
  pub earlier : List Coded
  pub follows : DoesFollowAll kind rows lists linking line packed coded earlier

-- of all these statements, newest first, those before these lines are packed
pub record AreWalked (kind : DeckKind) (rows : List BlockRow) (lists : FieldLists) (linking : Linking)
    (all : List Coded) (ahead : List Line) (packed : List Packed) : Type 0 where
  pub left : List Coded
  pub earlier : List Coded
  pub split : reverse left ++ earlier ≡ all
  pub coded : AreCoded kind rows lists ahead left
  pub laid : AreLaidOut kind (reverse left ++ earlier)
  pub reach : DoReach kind (reverse left ++ earlier)
  pub runs : HaveRuns kind linking rows earlier packed

-- so many blocks in which nothing lies
pub record AreEmpty (kind : DeckKind) (count : ℕ) (packed : List Packed) : Type 0 where
  pub same : length packed ≡ count
  pub each : (i : ℕ) (words : Packed) → slice_get packed i ≡ Some words → words ≡ record { kind = kind; run = empty_run; earlier = [] }
