-- Where a variable field is cut into subfields, character by character, in the words of the definitions.
use Rattle.std.specs.Prelude.{ℕ, zero, suc, ◌==◌, List, [], ◌∷◌, Option, Some, None, Bool, true, false, if◌then◌else◌}
use Rattle.definitions.specs.{Characters.comma, Pieces.{Comma, Spot, AtStart, Begun, ByMark, Piece, begun_at, spot_behind, left_of, pieces_of, subfields_of}}

-- whether a subfield ends before what began
abbrev pub ends_subfield : Begun → Bool
ends_subfield (ByMark Comma) = true
ends_subfield begun = false

-- how long a subfield is from a spot on, behind so many characters of an item; an item that the text cuts off counts whole
abbrev pub subfield_len : Spot → ℕ → List ℕ → ℕ
subfield_len spot left [] = left
subfield_len spot (suc left) (c ∷ cs) = suc (subfield_len spot left cs)
subfield_len spot zero (c ∷ cs) =
    let begun = begun_at spot c cs in
    let rest = subfield_len (spot_behind begun) (left_of begun) cs in
    if ends_subfield begun then 0 else suc rest

-- the same where nothing or one of the five marks follows
abbrev pub len_to_mark : List ℕ → ℕ
len_to_mark [] = 0
len_to_mark (c ∷ cs) = if c == comma then 0 else suc (subfield_len AtStart 0 cs)

-- the text behind the comma that ends a subfield, if one does
abbrev pub text_behind : List ℕ → Option (List ℕ)
text_behind [] = None
text_behind (c ∷ cs) = Some cs

-- the subfields of a text, if one is left
abbrev pub subfields_left : Option (List ℕ) → List (List Piece)
subfields_left None = []
subfields_left (Some text) = subfields_of (pieces_of text)
