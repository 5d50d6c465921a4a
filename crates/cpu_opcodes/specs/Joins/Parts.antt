-- The parts of an operand's pattern.
use Rattle.std.specs.Prelude.{ℕ, List, [], ◌∷◌, Bool, true, not, ◌&&◌, codes, IsTrue}
use Rattle.definitions.specs.Characters.{same_text}
use Rattle.cpu_opcodes.specs.Joins.PatternTexts.{is_text_pattern}
use Rattle.cpu_opcodes.specs.declared.parts.Part as parts
use Rattle.cpu_opcodes.specs.declared.parts.Part.TheVariants as part
use Rattle.cpu_opcodes.specs.declared.parts.Parts as lists
use Rattle.cpu_opcodes.specs.declared.parts.Parts.TheVariants as list

-- the text of a part
abbrev pub part_text : parts.Part → List ℕ
part_text part.K = codes "K"
part_text part.N = codes "n"
part_text (part.Registers text) = text.now

-- whether what is to be registers is no K and no n, and a pattern that no item fits
abbrev pub is_part : parts.Part → Bool
is_part (part.Registers text) = not (same_text text.now (codes "K")) && (not (same_text text.now (codes "n")) && is_text_pattern text.now)
is_part _ = true

-- the texts of the parts
abbrev pub parts_as : lists.Parts → List (List ℕ)
parts_as (list.One p) = part_text p ∷ []
parts_as (list.Two p q) = part_text p ∷ part_text q ∷ []
parts_as (list.Three p q r) = part_text p ∷ part_text q ∷ part_text r ∷ []

-- each part is one
abbrev pub AreParts : lists.Parts → Type 0
AreParts (list.One p) = IsTrue (is_part p)
AreParts (list.Two p q) = IsTrue (is_part p) × IsTrue (is_part q)
AreParts (list.Three p q r) = IsTrue (is_part p) × IsTrue (is_part q) × IsTrue (is_part r)
