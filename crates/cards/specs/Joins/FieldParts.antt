-- Fields as parts of a statement's text.
use Rattle.std.specs.Prelude.{ℕ, ◌+◌, ◌-◌, ◌≤◌, List, [], nat_lt, length, take, drop, if◌then◌else◌}
use Rattle.definitions.specs.Fields.{Fields}
use Rattle.cards.specs.declared.field_parts.{Part.Part, Parts.Parts}

-- the three fields
abbrev pub FieldTexts : Type 0
FieldTexts = Fields

-- the fields with these texts
abbrev pub fields_made : List ℕ → List ℕ → List ℕ → Fields
fields_made location operation variable = record { location = location; operation = operation; variable = variable }

abbrev pub part_of : List ℕ → Part → List ℕ
part_of text part = take part.len (drop part.start text)

-- the fields that these parts of a text are
abbrev pub fields_at : List ℕ → Parts → Fields
fields_at text parts = fields_made (part_of text parts.location) (part_of text parts.operation) (part_of text parts.variable)

-- the parts lie in a text of this length
pub record AreWithin (len : ℕ) (parts : Parts) : Type 0 where
  pub location : parts.location.start + parts.location.len ≤ len
  pub operation : parts.operation.start + parts.operation.len ≤ len
  pub variable : parts.variable.start + parts.variable.len ≤ len

-- the end of a text, where it begins before column 30
abbrev pub in_time : List ℕ → List ℕ → List ℕ
in_time text rest = if nat_lt (length text - length rest) 29 then rest else []
