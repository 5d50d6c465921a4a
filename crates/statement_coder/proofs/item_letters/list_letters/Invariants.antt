use Rattle.std.proofs.Common.{◌≡◌, map, take}
use Rattle.definitions.specs.Letters.{in_order}
use Rattle.statement_coder.specs.Joins.{Items.item_as, FieldLetters.field_letters}
use Rattle.statement_coder.proofs.item_letters.list_letters.Given as goal

-- the letters of the fields so far
abbrev pub invariant-loop-item : goal.invariant-loop-item
invariant-loop-item l = l.letters ≡ in_order (field_letters (map item_as (take l.item-index l.items)))
