-- The forms and codes of peripheral instructions as the definitions have them (6600 reference 60100000, peripheral instructions).
use Rattle.std.specs.Prelude.{ℕ, List, Option, option_map}
use Rattle.definitions.specs.PeripheralTable as table
use Rattle.definitions.specs.PeripheralTable.{PeripheralForm, PeripheralRow}
use Rattle.ppu_opcodes.specs.{declared.code.Code.Code, declared.code.Form.Form, declared.code.Form.TheVariants.{Ignored, Short, ShortJump, Shift, Wide, Long}}

-- a form, as the definitions name it
abbrev pub form_as : Form → PeripheralForm
form_as Ignored = table.Ignored
form_as Short = table.Short
form_as ShortJump = table.ShortJump
form_as Shift = table.Shift
form_as Wide = table.Wide
form_as Long = table.Long

-- the row of a name and its code
abbrev pub row_as : List ℕ → Code → PeripheralRow
row_as operation code = record { operation = operation; code = code.digits; form = form_as code.form }

-- the row of an operation with the code that was found, if one was
abbrev pub found_row : List ℕ → Option Code → Option PeripheralRow
found_row operation code = option_map (row_as operation) code
