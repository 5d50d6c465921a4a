-- The statements of a deck that are shown, from the lines of its object, and the lines of a map that are shown, one after the other (ours).
use Rattle.std.specs.Prelude.{ℕ, suc, ◌+◌, ◌==◌, is_none, List, [], ◌∷◌, ◌++◌, drop, length, map, take, if◌then◌else◌}
use Rattle.definitions.specs.{Cards.Card, Characters.line_feed}
use Rattle.deck_objects.specs.declared.lines.Line.{Line}
use Rattle.session_line.specs.{Errors.{Flag, flag_of, flag_text, shows_line}, Replies.{line_of, text_of_lines}}
use Rattle.session_commands.specs.declared.views.ErrorsView.{ErrorsView}

-- those that are shown of statements that have these cards, of which so many stand before
abbrev pub flags_in : ℕ → List Card → List Line → List Flag
flags_in before cards [] = []
flags_in before cards (shown ∷ lines) =
    flag_of before (take shown.cards cards) shown.letters (is_none shown.coded) ++ flags_in (before + length (take shown.cards cards)) (drop shown.cards cards) lines

-- the lines of statements of a deck that are shown
abbrev pub flags_text : List ℕ → List Flag → List ℕ
flags_text name flags = text_of_lines (map (flag_text name) flags)

-- how many characters stand in front of the first line feed
abbrev pub line_len : List ℕ → ℕ
line_len [] = 0
line_len (c ∷ cs) = if c == line_feed then 0 else suc (line_len cs)

-- a line of a map where it is shown, else nothing
abbrev pub shown_text : ErrorsView → List ℕ → List ℕ
shown_text view line = if shows_line view line then line_of line else []
