-- The letters that flag fields.
use Rattle.std.specs.Prelude.{List, flat_map}
use Rattle.definitions.specs.{StatementItems.Item, declared.letter.Letter.Letter}

-- the letters of fields, from left to right
abbrev pub field_letters : List Item → List Letter
field_letters fields = flat_map (λ (bits : Item). bits.letters) fields
