-- What is shown of a publication that no definition fixes whole (ours): what is said of the flagged statements of a deck, and symbols. Of a flagged statement there is a line for each letter. Which of the statement's cards it is about, in which column, and the words are those of `card_messages`; no definition fixes them.
use Rattle.std.specs.Prelude.{ℕ, ◌≡◌, ◌+◌, ◌≤◌, ◌&&◌, ◌⊎◌, List, [], ◌∷◌, ◌++◌, Option, Some, None, codes, decimal, flat_map, map, nat_le, if◌then◌else◌}
use Rattle.definitions.specs.{Characters.line_feed, DeckInput.Deck}
use Rattle.session_line.specs.{Errors.{Flag, Flagged, Begins, flags_of}, Replies.line_of, declared.answers.Told.Told}
use Rattle.session_line.specs.declared.answers.Told.TheVariants as told
use Rattle.session_commands.specs.declared.refusals.Refusal.TheVariants as refusal

-- a letter of a flagged statement, with the number of that statement's first card
pub record Lettered : Type 0 where
  pub number : ℕ
  pub letter : ℕ

-- the letters of a statement whose first card has this number
abbrev pub lettered : ℕ → List ℕ → List Lettered
lettered number letters = map (λ letter. record { number = number; letter = letter }) letters

-- those of a statement that is shown
abbrev pub letters_of : Flag → List Lettered
letters_of (Flagged number letters card) = lettered number letters
letters_of (Begins number card) = []

-- those of a deck, in order
abbrev pub deck_letters : Deck → List Lettered
deck_letters deck = flat_map letters_of (flags_of deck)

-- what is said of a letter: so many cards behind the first of its statement, in this column, these words
pub record Message : Type 0 where
  pub card : ℕ
  pub column : ℕ
  pub words : List ℕ

-- a statement has at most nine cards behind its first, and a message stands in a column that is read
abbrev pub IsMessage : Message → Type 0
IsMessage message = (message.card ≤ 9) × (1 ≤ message.column) × (message.column ≤ 72)

-- a character of words as it is shown: what can't be shown is a point, so that a message is one line
abbrev pub told_character : ℕ → ℕ
told_character c = if nat_le 32 c && nat_le c 126 then c else 46

-- what the line of a message begins with: the deck, the card, the column and the letter
abbrev pub message_head : List ℕ → ℕ → ℕ → ℕ → List ℕ
message_head name card column letter = codes "WORDS " ++ (name ++ (codes " " ++ (decimal card ++ (codes " " ++ (decimal column ++ (codes " " ++ (letter ∷ codes " ")))))))

-- the line of a message of a letter: that, and the words
abbrev pub message_text : List ℕ → Lettered → Message → List ℕ
message_text name of message = message_head name (of.number + message.card) message.column of.letter ++ map told_character message.words

-- the line of a message of a letter, and behind it lines of others
pub record MessageThen (name : List ℕ) (of : Lettered) (others : List ℕ → Type 0) (lines : List ℕ) : Type 0 where
  pub message : Message
  pub lawful : IsMessage message
  pub behind : List ℕ
  pub rest : others behind
  pub is : lines ≡ line_of (message_text name of message) ++ behind

-- lines of messages: one for each of these letters, in order
abbrev pub AreMessages : List ℕ → List Lettered → List ℕ → Type 0
AreMessages name [] lines = lines ≡ []
AreMessages name (of ∷ letters) lines = MessageThen name of (AreMessages name letters) lines

-- what is shown of a deck of a publication of this version: what is said of each letter, or that there was no memory for it
abbrev pub IsSaid : ℕ → Deck → Told → Type 0
IsSaid version deck (told.Lines at lines) = (at ≡ version) × AreMessages deck.name (deck_letters deck) lines
IsSaid version deck (told.Refused reason) = reason ≡ refusal.OutOfMemory
IsSaid version deck _ = ⊥

-- the same of the deck that is asked for, if there is one
abbrev pub IsSaidOf : ℕ → Option Deck → Told → Type 0
IsSaidOf version (Some deck) what = IsSaid version deck what
IsSaidOf version None what = what ≡ told.Refused refusal.NoDeck

-- a text whose last line has its line feed
pub record EndsLine (lines : List ℕ) : Type 0 where
  pub front : List ℕ
  pub is : lines ≡ front ++ line_feed ∷ []

-- lines, or none
abbrev pub IsEnded : List ℕ → Type 0
IsEnded lines = (lines ≡ []) ⊎ EndsLine lines

-- what is shown of symbols of a publication of this version: lines, which no definition fixes, or that there was no memory for them
abbrev pub IsLines : ℕ → Told → Type 0
IsLines version (told.Lines at lines) = (at ≡ version) × IsEnded lines
IsLines version (told.Refused reason) = reason ≡ refusal.OutOfMemory
IsLines version _ = ⊥

-- the same of the deck that is asked for, if there is one
abbrev pub IsLinesOf : ℕ → Option Deck → Told → Type 0
IsLinesOf version (Some deck) what = IsLines version what
IsLinesOf version None what = what ≡ told.Refused refusal.NoDeck
