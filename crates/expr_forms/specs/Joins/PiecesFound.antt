-- The pieces that were found in a text, in the words of the definitions.
use Rattle.std.specs.Prelude.{ℕ, List, [], ◌∷◌, Option, Some, None, Bool, true, is_some}
use Rattle.definitions.specs.{Laws.ItemTexts.item_as, Pieces.{Mark, Comma, Plus, Minus, Star, Slash, Equals, Piece, IsMark, IsCountedItem, Plain, Spot, Inside, ByMark, mark_of, spot_behind, pieces_at}}
use Rattle.expr_forms.specs.declared.pieces.Mark as marks
use Rattle.expr_forms.specs.declared.pieces.Mark.TheVariants as mark
use Rattle.expr_forms.specs.declared.pieces.Piece as pieces
use Rattle.expr_forms.specs.declared.pieces.Piece.TheVariants as piece
use Rattle.expr_forms.specs.declared.pieces.PieceFound as found

-- the mark
abbrev pub mark_as : marks.Mark → Mark
mark_as mark.Comma = Comma
mark_as mark.Plus = Plus
mark_as mark.Minus = Minus
mark_as mark.Star = Star
mark_as mark.Slash = Slash
mark_as mark.Equals = Equals

-- the piece
abbrev pub piece_as : pieces.Piece → Piece
piece_as (piece.Mark mark) = IsMark (mark_as mark)
piece_as (piece.Item item) = IsCountedItem (item_as item)
piece_as (piece.Run text) = Plain text.now

-- where in a field one stands behind a piece
abbrev pub spot_behind_piece : Piece → Spot
spot_behind_piece (IsMark mark) = spot_behind (ByMark mark)
spot_behind_piece piece = Inside

-- a piece and the pieces behind it; no piece where none was found
abbrev pub pieces_found : Option found.PieceFound → List Piece
pieces_found None = []
pieces_found (Some found) = piece_as found.piece ∷ pieces_at (spot_behind_piece (piece_as found.piece)) 0 found.rest.now

-- whether a run ends where this text begins
abbrev pub ends_run : List ℕ → Bool
ends_run [] = true
ends_run (c ∷ cs) = is_some (mark_of c)
