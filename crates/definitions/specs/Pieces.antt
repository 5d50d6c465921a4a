-- The pieces of a variable field, by its marks alone: marks, counted items, and runs of other characters
-- (COMPASS 60492600, subfields and data items).
use Rattle.std.specs.{Prelude.{ℕ, zero, suc, ◌-◌, ◌==◌, List, [], ◌∷◌, Option, Some, None, if◌then◌else◌}, List.onto_first}
use Rattle.definitions.specs.{Characters.{blank, comma, plus, minus, star, slash, equals}, CountedItems.{CountedItem, CountedSpan, counted_item_at}}

-- the five marks that separate, and the equals sign of a literal
pub data Mark : Type 0 where
  Comma : Mark
  Plus : Mark
  Minus : Mark
  Star : Mark
  Slash : Mark
  Equals : Mark

-- a mark, an item, or a run of characters that are neither
pub data Piece : Type 0 where
  IsMark : Mark → Piece
  IsCountedItem : CountedItem → Piece
  Plain : List ℕ → Piece

-- where in a field: at its start or behind a mark, behind an equals sign there, or elsewhere
pub data Spot : Type 0 where
  AtStart : Spot
  AtEquals : Spot
  Inside : Spot

-- what begins at a character
pub data Begun : Type 0 where
  ByMark : Mark → Begun
  ByCountedItem : CountedSpan → Begun
  ByOther : ℕ → Begun

-- the five marks that separate
abbrev pub mark_of : ℕ → Option Mark
mark_of c =
    if c == comma then Some Comma else if c == plus then Some Plus else if c == minus then Some Minus
    else if c == star then Some Star else if c == slash then Some Slash else None

-- a mark, or else the character itself
abbrev pub begun_by : ℕ → Option Mark → Begun
begun_by c None = ByOther c
begun_by c (Some mark) = ByMark mark

-- an item may begin at the start, behind one of the five marks, and behind an equals sign that stands there
abbrev pub begun_by_counted_item : ℕ → Option CountedSpan → Begun
begun_by_counted_item c None = begun_by c (mark_of c)
begun_by_counted_item c (Some counted) = ByCountedItem counted

-- what begins with this character at this spot: a mark, an item, or neither
abbrev pub begun_at : Spot → ℕ → List ℕ → Begun
begun_at AtStart c rest = if c == equals then ByMark Equals else begun_by_counted_item c (counted_item_at (c ∷ rest))
begun_at AtEquals c rest = begun_by_counted_item c (counted_item_at (c ∷ rest))
begun_at Inside c rest = begun_by c (mark_of c)

-- where in a field one stands behind what began
abbrev pub spot_behind : Begun → Spot
spot_behind (ByMark Equals) = AtEquals
spot_behind (ByMark mark) = AtStart
spot_behind (ByCountedItem counted) = Inside
spot_behind (ByOther c) = Inside

-- how many characters more belong to what began
abbrev pub left_of : Begun → ℕ
left_of (ByMark mark) = 0
left_of (ByCountedItem counted) = counted.taken - 1
left_of (ByOther c) = 0

-- a character in front of a run, or as a run by itself
abbrev pub onto_plain : ℕ → List Piece → List Piece
onto_plain c (Plain cs ∷ pieces) = Plain (c ∷ cs) ∷ pieces
onto_plain c pieces = Plain (c ∷ []) ∷ pieces

-- what began, in front of the pieces that follow
abbrev pub onto_pieces : Begun → List Piece → List Piece
onto_pieces (ByMark mark) pieces = IsMark mark ∷ pieces
onto_pieces (ByCountedItem counted) pieces = IsCountedItem counted.item ∷ pieces
onto_pieces (ByOther c) pieces = onto_plain c pieces

-- a walk through a text from a spot on, where so many characters of an item are left: what each character, inside an item or where something begins, puts in front of what those behind it make
abbrev pub walked : {A : Type 0} → (ℕ → List A → List A) → (ℕ → Begun → List A → List A) → Spot → ℕ → List ℕ → List A
walked inside begins spot left [] = []
walked inside begins spot (suc left) (c ∷ cs) = inside c (walked inside begins spot left cs)
walked inside begins spot zero (c ∷ cs) =
    let begun = begun_at spot c cs in
    begins c begun (walked inside begins (spot_behind begun) (left_of begun) cs)

-- the pieces of a text at a spot, behind so many characters of an item
abbrev pub pieces_at : Spot → ℕ → List ℕ → List Piece
pieces_at spot left text = walked (λ c pieces. pieces) (λ c begun pieces. onto_pieces begun pieces) spot left text

-- the pieces of a variable field
abbrev pub pieces_of : List ℕ → List Piece
pieces_of text = pieces_at AtStart 0 text

-- the pieces between commas; a field without a comma is one subfield
abbrev pub subfields_of : List Piece → List (List Piece)
subfields_of [] = [] ∷ []
subfields_of (IsMark Comma ∷ pieces) = [] ∷ subfields_of pieces
subfields_of (piece ∷ pieces) = onto_first piece (subfields_of pieces)

-- the text up to the first blank that lies in no item
abbrev pub field_at : Spot → ℕ → List ℕ → List ℕ
field_at spot left text = walked (λ c field. c ∷ field) (λ c begun field. if c == blank then [] else c ∷ field) spot left text
