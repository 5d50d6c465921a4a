-- What was read in a variable field, in the words of the definitions.
use Rattle.std.specs.Prelude.{ℕ, List, [], ◌∷◌, Option, Some, None, Bool, codes, option_map, if◌then◌else◌}
use Rattle.definitions.specs.{Characters.same_text, Pieces.{Piece, Plain}, Symbols.{is_block_name, number_read}, Expressions.Sign, Operands.{Datum, ZeroWord, NumberWord, CountedItemWords, ExpressionWord, BitField, bit_field, plain_of, Operand, BadOperand, UseName, UseBefore, UseRefused}, declared.number_base.NumberBase.NumberBase, Laws.ItemTexts.item_as}
use Rattle.expr_forms.specs.Joins.{Numbers.number_as, Elements.sign_as}
use Rattle.expr_forms.specs.declared.data_words.Datum as words
use Rattle.expr_forms.specs.declared.data_words.Datum.TheVariants as word
use Rattle.expr_forms.specs.declared.bit_fields.BitField as fields
use Rattle.expr_forms.specs.declared.use_fields.UseField as uses
use Rattle.expr_forms.specs.declared.use_fields.UseField.TheVariants as use_field

-- what the field of a USE says
abbrev pub use_as : uses.UseField → Operand
use_as (use_field.UseName name) = UseName name
use_as use_field.UseBefore = UseBefore
use_as use_field.Refused = UseRefused
use_as use_field.Bad = BadOperand

-- USE of a text without `/`: `*`, or a block name
abbrev pub local_operand : List ℕ → Operand
local_operand text = if same_text text (codes "*") then UseBefore else if is_block_name text then UseName text else BadOperand

-- what fills words of DATA or CON
abbrev pub datum_as : words.Datum → Datum
datum_as word.Zero = ZeroWord
datum_as (word.Number sign number) = NumberWord (sign_as sign) (number_as number)
datum_as (word.Item item) = CountedItemWords (item_as item)
datum_as (word.Expression e) = ExpressionWord e

-- what a piece is, where no other is behind it
abbrev pub alone : {A : Type 0} → Option A → List Piece → Option A
alone x [] = x
alone x (piece ∷ pieces) = None

-- a subfield of DATA behind its sign
abbrev pub signed_word : NumberBase → Sign → List Piece → Option Datum
signed_word base sign (Plain text ∷ pieces) = alone (option_map (NumberWord sign) (number_read base text)) pieces
signed_word base sign pieces = None

-- a field of a VFD
abbrev pub bit_field_as : fields.BitField → BitField
bit_field_as field = record { width = field.width; value = field.value }

-- a field of this width, with what stands behind its slash
abbrev pub sized_value : Bool → NumberBase → ℕ → List Piece → Option BitField
sized_value literals base width [] = bit_field (Some width) (Some None)
sized_value literals base width (piece ∷ pieces) = bit_field (Some width) (option_map Some (plain_of literals base (piece ∷ pieces)))
