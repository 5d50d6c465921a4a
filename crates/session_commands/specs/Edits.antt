-- Edits in a session's lines, the lines of a batch, and those of a deck that is put (ours).
use Rattle.std.specs.Prelude.{ℕ, List, Option, Some, None, Result, Ok, Err, Bool, true, ◌==◌, length, drop, if◌then◌else◌}
use Rattle.definitions.specs.{Cards.{Card, CardRead, IsCard, TooWide, BadCharacter, card_of}, Fields.unbroken_front}
use Rattle.cards.specs.declared.card.CardFault.TheVariants as card
use Rattle.session_commands.specs.{declared.verbs.EditKind.EditKind, declared.refusals.Refusal.Refusal, declared.refusals.Refusal.TheVariants.{BadCommand, BadCard, BadLine}, Words.{from_blank, first_number, behind_word}, Verbs.edit_kind_of}
use Rattle.session_commands.specs.declared.verbs.EditKind.TheVariants as kind
use Rattle.cards.specs.declared.edits.Edit.{Edit, TheVariants.{Insert, Replace, Remove}}

-- what is made of a part that a line needs; without it the line is no command
abbrev pub needs : {A B : Type 0} → Option A → (A → Result B Refusal) → Result B Refusal
needs None made = Err BadCommand
needs (Some part) made = made part

-- what is made where a line is as it should be; otherwise it is no command
abbrev pub only_if : {B : Type 0} → Bool → Result B Refusal → Result B Refusal
only_if fits made = if fits then made else Err BadCommand

-- what is made of a value, where there is one
abbrev pub made_of : {A B : Type 0} → (A → B) → Result A Refusal → Result B Refusal
made_of make (Ok value) = Ok (make value)
made_of make (Err refusal) = Err refusal

-- the card that a text shows, or its fault
abbrev pub card_or_fault : CardRead → Result Card Refusal
card_or_fault (IsCard columns) = Ok columns
card_or_fault TooWide = Err (BadCard card.TooWide)
card_or_fault (BadCharacter column) = Err (BadCard (card.BadCharacter column))

-- the card of the text that is all that stands behind one blank
abbrev pub card_behind : List ℕ → Result Card Refusal
card_behind rest = card_or_fault (card_of (drop 1 rest))

-- whether nothing is left of a line
abbrev pub is_end : List ℕ → Bool
is_end rest = length rest == 0

-- whether a rest may stand behind the place: a text, or at a removal nothing
abbrev pub fits_edit : EditKind → List ℕ → Bool
fits_edit kind.Insert rest = true
fits_edit kind.Replace rest = true
fits_edit kind.Remove rest = is_end rest

-- the edit of a kind at a place
abbrev pub edit_at : EditKind → ℕ → List ℕ → Result Edit Refusal
edit_at kind.Insert at rest = made_of (Insert at) (card_behind rest)
edit_at kind.Replace at rest = made_of (Replace at) (card_behind rest)
edit_at kind.Remove at rest = Ok (Remove at)

-- the edit that a line of a batch is: INS at text, REP at text or DEL at
abbrev pub edit_in_batch : List ℕ → Result Edit Refusal
edit_in_batch line =
    let rest = from_blank line in
    needs (edit_kind_of (unbroken_front line)) (λ kind.
    needs (first_number rest) (λ at.
    only_if (fits_edit kind (behind_word rest)) (edit_at kind at (behind_word rest))))

-- a card, or the fault of the line that shows none
abbrev pub card_or_bad_line : ℕ → CardRead → Result Card Refusal
card_or_bad_line number (IsCard columns) = Ok columns
card_or_bad_line number TooWide = Err (BadLine number card.TooWide)
card_or_bad_line number (BadCharacter column) = Err (BadLine number (card.BadCharacter column))

-- the card that a line of a put is, all of it; of one that is none, its number is shown
abbrev pub card_in_put : ℕ → List ℕ → Result Card Refusal
card_in_put number line = card_or_bad_line number (card_of line)
