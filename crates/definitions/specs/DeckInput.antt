-- The cut of input into decks (ours): each card whose operation is IDENT begins one; the first fault in line order counts.
use Rattle.std.specs.{Prelude.{ℕ, ◌+◌, ◌==◌, List, [], ◌∷◌, Bool, not, ◌&&◌, ◌||◌, nat_le, codes, length, take_while, reverse, map, if◌then◌else◌}, List.{list_all, list_any}}
use Rattle.definitions.specs.{Characters.{is_letter, is_digit, same_text, blank, comma}, InputLines.{InputLine, Line, TooLong, Cut}, Cards.{Card, CardRead, IsCard, TooWide, BadCharacter, card_of}, Fields.{Fields, fields_of}}

-- a deck: its name and its cards, oldest first
pub record Deck : Type 0 where
  pub name : List ℕ
  pub cards : List Card

-- what keeps input from being decks, with its line and column where they are shown
pub data InputFault : Type 0 where
  BadLineTooWide : ℕ → InputFault
  BadLineBadCharacter : ℕ → ℕ → InputFault
  LastLineCut : InputFault
  BadName : ℕ → InputFault
  NameTaken : InputFault
  TooManyDecks : InputFault
  DeckFull : InputFault

-- the decks so far, newest first, each with its cards newest first; or the first fault
pub data Input : Type 0 where
  Decks : List Deck → Input
  Faulty : InputFault → Input

-- how many decks there may be
abbrev pub most_decks : ℕ
most_decks = 64

-- how many cards a deck may have
abbrev pub most_cards : ℕ
most_cards = 20000

-- 1 to 7 letters and digits
abbrev pub is_deck_name : List ℕ → Bool
is_deck_name name = nat_le 1 (length name) && nat_le (length name) 7 && list_all (λ c. is_letter c || is_digit c) name

-- the name on an IDENT card: the characters of its variable field up to the first comma
abbrev pub name_on : Fields → List ℕ
name_on fields = take_while (λ c. not (c == comma) && not (c == blank)) fields.variable

-- whether one of the decks has this name
abbrev pub is_taken : List ℕ → List Deck → Bool
is_taken name decks = list_any (λ (deck : Deck). same_text deck.name name) decks

-- an IDENT card begins a deck, if its name is lawful and new and there is room for a deck more
abbrev pub begun : ℕ → List ℕ → Card → List Deck → Input
begun number name card decks =
    if not (is_deck_name name) then Faulty (BadName number)
    else if is_taken name decks then Faulty NameTaken
    else if nat_le most_decks (length decks) then Faulty TooManyDecks
    else Decks (record { name = name; cards = card ∷ [] } ∷ decks)

-- any other card belongs to the latest deck; in front of the first IDENT it counts as a bad name
abbrev pub continued : ℕ → Card → List Deck → Input
continued number card [] = Faulty (BadName number)
continued number card (deck ∷ decks) =
    if nat_le most_cards (length deck.cards) then Faulty DeckFull else Decks (record deck { cards = card ∷ deck.cards } ∷ decks)

-- the decks with a card more: an IDENT, which is known by that card alone, begins a deck
abbrev pub with_card : ℕ → Card → List Deck → Input
with_card number card decks =
    let fields = fields_of (card ∷ []) in
    if same_text fields.operation (codes "IDENT") then begun number (name_on fields) card decks else continued number card decks

-- the decks with what a line shows; a line that shows no card is a fault
abbrev pub with_read : ℕ → CardRead → List Deck → Input
with_read number (IsCard card) decks = with_card number card decks
with_read number TooWide decks = Faulty (BadLineTooWide number)
with_read number (BadCharacter column) decks = Faulty (BadLineBadCharacter number column)

-- the input with a line more; a fault that is there stays, and a last line without a line feed is one
abbrev pub with_line : ℕ → InputLine → Input → Input
with_line number line (Faulty fault) = Faulty fault
with_line number (Line bytes) (Decks decks) = with_read number (card_of bytes) decks
with_line number TooLong (Decks decks) = Faulty (BadLineTooWide number)
with_line number Cut (Decks decks) = Faulty LastLineCut

-- the decks of lines that are read newest first
abbrev pub input_of : List InputLine → Input
input_of [] = Decks []
input_of (line ∷ earlier) = with_line (length earlier + 1) line (input_of earlier)

-- a deck with its cards oldest first
abbrev pub in_card_order : Deck → Deck
in_card_order deck = record deck { cards = reverse deck.cards }

-- decks in the order of the input, with their cards in order
abbrev pub in_input_order : List Deck → List Deck
in_input_order decks = map in_card_order (reverse decks)
