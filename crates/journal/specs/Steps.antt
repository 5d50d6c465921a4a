-- What a line makes of the record that is open (ours).
use Rattle.std.specs.Prelude.{ℕ, ◌==◌, List, [], ◌∷◌, ◌++◌, Option, Some, None, Result, Ok, Err, Bool, true, ◌&&◌, codes, length, drop, option_map, if◌then◌else◌}
use Rattle.definitions.specs.{Characters.{blank, same_text}, Cards.{CardRead, IsCard, TooWide, BadCharacter, card_of, begins_with}, DeckInput.Deck, Fields.unbroken_front}
use Rattle.cards.specs.declared.edits.Edit.{Edit}
use Rattle.session_commands.specs.{declared.refusals.Refusal.Refusal, Words.{from_blank, first_number, behind_word}, Edits.{is_end, edit_in_batch}}
use Rattle.desk_core.specs.declared.calls.{Change.Change, Change.TheVariants.{AddDeck, PutDeck, DropDeck, EditDeck, Undo}, Edits.Edits, Edits.TheVariants.{One, Batch}}
use Rattle.journal.specs.{declared.records.Entry.Entry, declared.beginning.Open.Open, declared.steps.Step.Step, declared.steps.Step.TheVariants.{Goes, Ends, Wrong, Bad}, CheckSums.sum_over, Records.ended, Begun.opened}
use Rattle.journal.specs.declared.records.Entry.TheVariants as entry

-- a deck with a card more, if it is one
abbrev pub deck_with_card : Deck → CardRead → Option Deck
deck_with_card deck (IsCard card) = Some (record deck { cards = deck.cards ++ card ∷ [] })
deck_with_card deck TooWide = None
deck_with_card deck (BadCharacter column) = None

-- a deck with the card of a text
abbrev pub deck_with : Deck → List ℕ → Option Deck
deck_with deck text = deck_with_card deck (card_of text)

-- edits with one more, if it is one
abbrev pub edits_with : List Edit → Result Edit Refusal → Option (List Edit)
edits_with edits (Ok edit) = Some (edits ++ edit ∷ [])
edits_with edits (Err refusal) = None

-- several edits with the edit of a text
abbrev pub more_edits : Edits → List ℕ → Option Edits
more_edits (One edit) text = None
more_edits (Batch edits) text = option_map Batch (edits_with edits (edit_in_batch text))

-- a change with the card or the edit of a text
abbrev pub change_with : Change → List ℕ → Option Change
change_with (AddDeck deck) text = option_map AddDeck (deck_with deck text)
change_with (PutDeck deck seen) text = option_map (λ (with : Deck). PutDeck with seen) (deck_with deck text)
change_with (EditDeck name seen edits) text = option_map (EditDeck name seen) (more_edits edits text)
change_with (DropDeck name seen) text = None
change_with (Undo name version) text = None

-- what a record shows with the card or the edit of a text
abbrev pub entry_with : Entry → List ℕ → Option Entry
entry_with entry.Begun text = None
entry_with (entry.Made change) text = option_map entry.Made (change_with change text)

-- an open record that shows this, with one line more
abbrev pub open_behind : Open → List ℕ → Entry → Open
open_behind current line told = record current { so_far = record current.so_far { entry = told }; sum = sum_over current.sum (ended line) }

-- a line behind a blank
abbrev pub inner_step : Open → List ℕ → Option Entry → Step
inner_step current line None = Bad
inner_step current line (Some told) = Goes (open_behind current line told)

-- whether a batch or a put has as many edits or cards as it announced
abbrev pub has_all : Entry → ℕ → Bool
has_all (entry.Made (EditDeck name seen (Batch edits))) count = length edits == count
has_all (entry.Made (PutDeck deck seen)) count = length deck.cards == count
has_all _ count = true

-- the number on the line of a check sum
abbrev pub sum_in : List ℕ → Option ℕ
sum_in line =
    if same_text (unbroken_front line) (codes "SUM") && is_end (behind_word (from_blank line)) then first_number (from_blank line)
    else None

-- the line of a check sum
abbrev pub end_step : Open → Option ℕ → Step
end_step current None = Bad
end_step current (Some sum) = if sum == current.sum && has_all current.so_far.entry current.lines then Ends current.so_far else Wrong

-- a line where no record is open
abbrev pub first_step : Option Open → Step
first_step None = Bad
first_step (Some current) = Goes current

-- a line, where a record is open or not
abbrev pub line_step : Option Open → List ℕ → Step
line_step None line = first_step (opened line)
line_step (Some current) line = if begins_with blank line then inner_step current line (entry_with current.so_far.entry (drop 1 line)) else end_step current (sum_in line)
