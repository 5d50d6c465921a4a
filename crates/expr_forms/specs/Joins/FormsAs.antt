-- Relocations of the code, in the words of the definitions, and back.
use Rattle.std.specs.Prelude.{◌≡◌, Option, Some, None, option_map, refl}
use Rattle.definitions.specs.Forms.{Relocation, Block, External, Part, Added, Subtracted}
use Rattle.expr_forms.specs.declared.forms.Relocation as relocations
use Rattle.expr_forms.specs.declared.forms.Relocation.TheVariants as relocation
use Rattle.expr_forms.specs.declared.forms.Part as parts
use Rattle.expr_forms.specs.declared.forms.Part.TheVariants as part

-- the relocation
abbrev pub relocation_as : relocations.Relocation → Relocation
relocation_as (relocation.Block name) = Block name
relocation_as (relocation.External name) = External name

-- a relocation with its sign
abbrev pub part_as : parts.Part → Part
part_as (part.Added r) = Added (relocation_as r)
part_as (part.Subtracted r) = Subtracted (relocation_as r)

-- the code's relocation
abbrev pub relocation_back : Relocation → relocations.Relocation
relocation_back (Block name) = relocation.Block name
relocation_back (External name) = relocation.External name

-- the code's part
abbrev pub part_back : Part → parts.Part
part_back (Added r) = part.Added (relocation_back r)
part_back (Subtracted r) = part.Subtracted (relocation_back r)

-- back and forth a part stays what it is
pub form_back : (o : Option parts.Part) → option_map part_back (option_map part_as o) ≡ o
form_back None = refl
form_back (Some (part.Added (relocation.Block name))) = refl
form_back (Some (part.Added (relocation.External name))) = refl
form_back (Some (part.Subtracted (relocation.Block name))) = refl
form_back (Some (part.Subtracted (relocation.External name))) = refl
