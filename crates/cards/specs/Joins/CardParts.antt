-- Where the fields lie on a card, as parts of its text.
use Rattle.std.specs.Prelude.{ℕ, ◌≡◌, List, [], ◌∷◌, take}
use Rattle.definitions.specs.Fields.{fields_of}
use Rattle.cards.specs.{Joins.Columns.IsPadded, Joins.FieldParts.{AreWithin, fields_at}, declared.field_parts.Part.Part, declared.field_parts.Parts.Parts, declared.card_parts.CardPart.CardPart, declared.card_parts.CardParts.CardParts}

-- the part of the text
abbrev pub part_as : CardPart → Part
part_as part = record { start = part.start; len = part.len }

abbrev pub parts_as : CardParts → Parts
parts_as parts = record { location = part_as parts.location; operation = part_as parts.operation; variable = part_as parts.variable }

-- a card in memory: its columns with blanks behind them, and the parts of the first 72 that are the fields of a statement of this card
pub record IsCard (len : ℕ) (columns : List ℕ) (parts : CardParts) : Type 0 where
  pub padded : IsPadded len columns
  pub within : AreWithin 72 (parts_as parts)
  pub fields : fields_at (take 72 columns) (parts_as parts) ≡ fields_of (take len columns ∷ [])
