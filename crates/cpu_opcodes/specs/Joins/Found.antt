-- What an operand gives while it is matched, in the words of the definitions.
use Rattle.std.specs.Prelude.{Option, option_map}
use Rattle.definitions.specs.Matching.{Field, NoField, OfK, OfN, Match, Instruction, instruction_of}
use Rattle.cpu_opcodes.specs.Joins.{RegistersFound.digits_as, CodeTexts.code_text}
use Rattle.cpu_opcodes.specs.declared.found.CentralField as fields
use Rattle.cpu_opcodes.specs.declared.found.CentralField.TheVariants as field
use Rattle.cpu_opcodes.specs.declared.found.Found as founds
use Rattle.cpu_opcodes.specs.declared.found.Fitted as fitteds

-- the field
abbrev pub central_field_as : fields.CentralField → Field
central_field_as field.Absent = NoField
central_field_as (field.Address e) = OfK e.now
central_field_as (field.Count e) = OfN e.now

-- the digits and the field
abbrev pub found_as : founds.Found → Match
found_as found = record { ijk = digits_as found.registers; field = central_field_as found.field }

-- the instruction of a code with what was found, if there is one
abbrev pub fitted_as : Option fitteds.Fitted → Option Instruction
fitted_as fitted = option_map (λ (found : fitteds.Fitted). instruction_of (code_text found.code) (found_as found.found)) fitted
