-- Places: the least lawful place at or behind the end of the latest earlier placed statement of the block
-- (COMPASS 60492600, forcing upper; which instructions ask for upper is ours).
use Rattle.std.specs.Prelude.{ℕ, ◌≡◌, ◌≢◌, IsTrue, ◌+◌, ◌-◌, ◌*◌, ◌/◌, ◌%◌, ◌==◌, List, [], ◌∷◌, Bool, true, false, not, ◌&&◌, ◌||◌, codes, if◌then◌else◌}
use Rattle.definitions.specs.{Characters.same_text, Kinds.units, Symbols.is_symbol, Operations.{Operation, is_data, is_reserving}, Operands.{Operand, BadOperand}, Sizes.size_of, Settled.Settled, declared.deck_kind.DeckKind.DeckKind, declared.deck_kind.DeckKind.TheVariants.Periph}
use Rattle.definitions.specs.Operations as op

-- whether an operand is flagged V
abbrev pub is_bad : Operand → Bool
is_bad BadOperand = true
is_bad _ = false

-- what always stands at a word; faulty data count as an instruction of length 0
abbrev pub is_at_word : Operation → Operand → Bool
is_at_word operation operand = is_reserving operation || (is_data operation && not (is_bad operand))

-- whether a `-` in the location field is lawful: that of VFD outside peripheral decks is not, and the field counts as empty
abbrev pub allows_minus : DeckKind → Operation → Bool
allows_minus Periph operation = true
allows_minus kind op.Vfd = false
allows_minus kind _ = true

-- whether the location field is a `-`, and that is lawful
abbrev pub has_minus : DeckKind → Operation → List ℕ → Bool
has_minus kind operation location = same_text location (codes "-") && allows_minus kind operation

-- an instruction is upper where its location field is a symbol or `+`, or where the block asks and the field is not `-`
abbrev pub is_upper : DeckKind → Operation → List ℕ → Bool → Bool
is_upper kind operation location asks = is_symbol location || same_text location (codes "+") || (asks && not (has_minus kind operation location))

-- the next word at or behind a place in units
abbrev pub to_word : DeckKind → ℕ → ℕ
to_word kind place = (place + units kind - 1) / units kind * units kind

-- a long central instruction does not begin in the last parcel
abbrev pub is_long : DeckKind → Operation → Operand → Bool
is_long Periph operation operand = false
is_long kind op.Instruction operand = size_of kind operand == 2
is_long kind _ operand = false

-- the place, or the next word where a long instruction would begin in parcel 3
abbrev pub past_last_parcel : Bool → ℕ → ℕ
past_last_parcel long place = if long && (place % 4 == 3) then place + 1 else place

-- the place of a statement that has one, from the end of the statement before it in its block
abbrev pub least_place : DeckKind → Operation → Operand → List ℕ → Bool → ℕ → ℕ
least_place kind operation operand location asks from =
    if is_at_word operation operand || is_upper kind operation location asks then to_word kind from
    else past_last_parcel (is_long kind operation operand) from

-- the position of a block: the end of its latest placed statement, and whether that asks for upper
pub record Position : Type 0 where
  pub end : ℕ
  pub asks : Bool

-- where a block begins
abbrev pub no_position : Position
no_position = record { end = 0; asks = false }

-- the position of a block behind these statements
abbrev pub position_in : List ℕ → List Settled → Position
position_in block [] = no_position
position_in block (settled ∷ earlier) =
    if settled.is_placed && same_text settled.block block then record { end = settled.end; asks = settled.asks }
    else position_in block earlier

-- JP, RJ, PS and EQ with one subfield ask that the next instruction is upper
abbrev pub asks_upper : List ℕ → ℕ → Bool
asks_upper operation subfields =
    same_text operation (codes "JP") || same_text operation (codes "RJ") || same_text operation (codes "PS")
    || (same_text operation (codes "EQ") && (subfields == 1))

-- whether the block asks for upper behind a statement; in peripheral decks, or behind a faulty one, it never does
abbrev pub asks_after : DeckKind → Operation → Operand → List ℕ → ℕ → Bool
asks_after Periph operation operand name subfields = false
asks_after kind op.Instruction operand name subfields = not (is_bad operand) && asks_upper name subfields
asks_after kind _ operand name subfields = false

-- where a statement may stand: at a word where it has to, and a long instruction in front of the last parcel
pub record MayStand (kind : DeckKind) (operation : Operation) (operand : Operand) (location : List ℕ) (asks : Bool) (place : ℕ) : Type 0 where
  pub data_at_word : IsTrue (is_at_word operation operand) → place % units kind ≡ 0
  pub upper_at_word : IsTrue (is_upper kind operation location asks) → place % units kind ≡ 0
  pub long_whole : IsTrue (is_long kind operation operand) → place % 4 ≢ 3
