-- What ERRORS shows of a publication: the flagged statements of its decks, with those behind END that begin another deck, and the LINK lines of its map (ours).
use Rattle.std.specs.Prelude.{ℕ, ◌+◌, ◌==◌, Bool, true, false, ◌&&◌, ◌||◌, is_none, is_some, Option, None, Some, List, [], ◌∷◌, ◌++◌, codes, decimal, drop, filter, flat_map, map, reverse, if◌then◌else◌}
use Rattle.definitions.specs.{Characters.{line_feed, same_text}, Cards.Card, DeckInput.Deck, Fields.unbroken_front, Objects.{Shown, object_of}}
use Rattle.deck_cuts.specs.Cuts.{begins_deck}
use Rattle.session_commands.specs.{Sought.begins_with, Words.{from_blank, behind_word}, declared.views.ErrorsView.ErrorsView, declared.views.ErrorsView.TheVariants.{Every, Of}}

-- what is shown of a statement: it is flagged, with the number of its first card in the deck, its letters, and that card; or it stands behind END and begins another deck, with the number of its first card, and that card
pub data Flag : Type 0 where
  Flagged : ℕ → List ℕ → Card → Flag
  Begins : ℕ → Card → Flag

-- a statement without letters, of whose cards so many stand before: it is shown where it stands behind END and begins another deck
abbrev pub deck_begun : ℕ → Card → Bool → List Flag
deck_begun before card is_behind = if is_behind && begins_deck card then Begins (before + 1) card ∷ [] else []

-- a statement that has these cards, of which so many stand before, where it has letters, or stands behind END and begins another deck
abbrev pub flag_of : ℕ → List Card → List ℕ → Bool → List Flag
flag_of before [] letters is_behind = []
flag_of before (card ∷ cards) [] is_behind = deck_begun before card is_behind
flag_of before (card ∷ cards) (letter ∷ letters) is_behind = Flagged (before + 1) (letter ∷ letters) card ∷ []

-- a statement of the listing, where it is shown
abbrev pub shown_flag : Shown → List Flag
shown_flag shown = flag_of shown.statement.before shown.statement.cards shown.letters (is_none shown.coded)

-- those of a deck that are shown, in order
abbrev pub flags_of : Deck → List Flag
flags_of deck = flat_map shown_flag (reverse (object_of deck).shown)

-- the line of a statement that is shown: its deck, the number of its first card, its letters where it is flagged, and that card
abbrev pub flag_text : List ℕ → Flag → List ℕ
flag_text name (Flagged number letters card) = codes "ERR " ++ (name ++ (codes " " ++ (decimal number ++ (codes " " ++ (letters ++ (codes " " ++ card))))))
flag_text name (Begins number card) = codes "MORE " ++ (name ++ (codes " " ++ (decimal number ++ (codes " " ++ card))))

-- the lines of the statements of a deck that are shown
abbrev pub deck_errors : Deck → List (List ℕ)
deck_errors deck = map (flag_text deck.name) (flags_of deck)

-- whether what is flagged in the deck of this name is shown
abbrev pub shows_deck : ErrorsView → List ℕ → Bool
shows_deck Every name = true
shows_deck (Of wanted) name = same_text name wanted

-- those of a deck that are shown
abbrev pub errors_where : ErrorsView → Deck → List (List ℕ)
errors_where view deck = if shows_deck view deck.name then deck_errors deck else []

-- a character in front of the first of some lines
abbrev pub onto_line : ℕ → List (List ℕ) → List (List ℕ)
onto_line c [] = (c ∷ []) ∷ []
onto_line c (line ∷ lines) = (c ∷ line) ∷ lines

-- the lines of a text, without their line feeds
abbrev pub map_lines : List ℕ → List (List ℕ)
map_lines [] = []
map_lines (c ∷ cs) = if c == line_feed then [] ∷ map_lines cs else onto_line c (map_lines cs)

-- whether a line of a map is a LINK line
abbrev pub is_link : List ℕ → Bool
is_link line = begins_with (codes "LINK ") line

-- the third word of a line, which is the deck of a LINK line
abbrev pub link_deck : List ℕ → List ℕ
link_deck line = unbroken_front (drop 1 (behind_word (from_blank line)))

-- whether a line of a map is shown: a LINK line, or the END of all; or a LINK line of the deck that is asked for
abbrev pub shows_line : ErrorsView → List ℕ → Bool
shows_line Every line = is_link line || same_text line (codes "END")
shows_line (Of name) line = is_link line && same_text (link_deck line) name

-- the lines that are shown of decks and of the map of their link
abbrev pub error_lines : ErrorsView → List Deck → List ℕ → List (List ℕ)
error_lines view decks map = flat_map (errors_where view) decks ++ filter (shows_line view) (map_lines map)

-- the first deck of this name among these
abbrev pub deck_named : List ℕ → List Deck → Option Deck
deck_named name [] = None
deck_named name (deck ∷ decks) = if same_text deck.name name then Some deck else deck_named name decks

-- whether the deck that is asked for is among these
abbrev pub shows_any : ErrorsView → List Deck → Bool
shows_any Every decks = true
shows_any (Of name) decks = is_some (deck_named name decks)
