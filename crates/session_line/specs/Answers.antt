-- What a command is answered, and the text of that (ours).
use Rattle.std.specs.Prelude.{ℕ, ◌≡◌, ◌+◌, ◌≤◌, ◌⊎◌, ⊤, IsTrue, Bool, true, false, nat_le, List, [], ◌++◌, Option, Some, None, Result, Ok, Err, length, codes, if◌then◌else◌}
use Rattle.definitions.specs.{Cards.Card, DeckInput.Deck}
use Rattle.deck_listing.specs.ListedObjects.{lines_in}
use Rattle.deck_linker.specs.Publishing.{map_of}
use Rattle.desk_core.specs.{Desks.Publication, PublishedTexts.{shown_part, shown_text}, declared.published_texts.DeckText.DeckText, declared.published_texts.PublishedText.PublishedText, declared.replies.Reply.Reply, declared.replies.Row.Row, declared.replies.Reply.TheVariants.{Changed, Carried, Unkept, CardsAre, ChangesAre, CardsBefore, StatusIs, Refused}}
use Rattle.deck_files.specs.{DeckFiles.file_of, FileRows.most_files}
use Rattle.session_commands.specs.{declared.refusals.Refusal.Refusal, Refusals.refusal_text, declared.views.CardsView.CardsView, declared.views.CardsView.TheVariants.{All, From, With}, declared.views.ErrorsView.ErrorsView}
use Rattle.session_commands.specs.declared.refusals.Refusal.TheVariants as refusal
use Rattle.session_line.specs.{Replies.{line_of, ok_text, unkept_text, counted_text, published_text, rows_text, marks_text, told_decks_text, sessions_text, numbers_text, text_of_lines}, FileLines.files_text, Reasons.desk_reason, Replied.status_in, declared.replied.Status.Status, Greetings.service_text, Help.help_text, declared.greetings.Connected.Connected, declared.greetings.Greeting.Greeting, Views.{cards_from, numbers_of}, ChangeLines.change_lines, Errors.{deck_named, error_lines, shows_any}, Messages.{IsLines, IsLinesOf, IsSaidOf}, declared.tasks.PublishedView.PublishedView, declared.answers.Told.Told, declared.answers.Answer.Answer}
use Rattle.cards.specs.{declared.edits.Edit.Edit, Edits.{first_fault, edited_by}}
use Rattle.session_line.specs.declared.answers.Told.TheVariants as told
use Rattle.session_line.specs.declared.tasks.PublishedView.TheVariants as showing

-- how many cards a deck has at most
abbrev pub most_cards : ℕ
most_cards = 20000

-- how many edits of a deck are kept at most
abbrev pub most_kept : ℕ
most_kept = 2000

-- how many decks a desk has at most
abbrev pub most_decks : ℕ
most_decks = 64

-- how many sessions are connected at most: as many as an office has seats
abbrev pub most_sessions : ℕ
most_sessions = 64

-- what no desk replies to such a call is refused as foreign
abbrev pub foreign : Told
foreign = told.Refused refusal.Foreign

-- what is shown of the reply to a call that shows neither cards nor a publication; no more edits than are kept of a deck, and no more decks than a desk may have
abbrev pub told_of_call : Reply → Told
told_of_call (Changed version) = told.Done version
told_of_call (Carried version seen edits) = told.Done version
told_of_call (Unkept version) = told.Unkept version
told_of_call (ChangesAre version kept) = if nat_le (length kept) most_kept then told.Changes version kept else foreign
told_of_call (StatusIs version published rows) = if nat_le (length rows) most_decks then told.Status version published rows else foreign
told_of_call (Refused reason) = told.Refused (desk_reason reason)
told_of_call _ = foreign

-- what holds where a status is shown, with its version, what is published and its decks; or where anything else is
abbrev pub WhereStatus : Told → (ℕ → Option ℕ → List Row → Type 0) → Type 0 → Type 0
WhereStatus (told.Status version published rows) Made Other = Made version published rows
WhereStatus _ Made Other = Other

-- what is shown of what a reply gives; or why it gives nothing
abbrev pub told_by : {T : Type 0} → (T → Told) → Result T Refusal → Told
told_by tells (Ok given) = tells given
told_by tells (Err reason) = told.Refused reason

-- what is shown of the reply to a call for the status that was waited for: the status without its decks
abbrev pub told_of_wait : Reply → Told
told_of_wait reply = told_by (λ (status : Status). told.Standing status.version status.published) (status_in reply)

-- what is shown of a status to who greets; no more sessions than may be connected
abbrev pub told_of_sessions : Reply → List Connected → Told
told_of_sessions reply sessions = told_by (λ (status : Status). if nat_le (length sessions) most_sessions then told.Sessions status.version sessions else foreign) (status_in reply)

-- what is shown of the answer to who greets
abbrev pub told_of_greeting : Greeting → Told
told_of_greeting greeting = told_of_sessions greeting.status greeting.sessions

-- what is shown of a status to who asks for what may be asked
abbrev pub told_of_help : Reply → Told
told_of_help reply = told_by (λ (status : Status). told.Help status.version) (status_in reply)

-- what is shown of the reply to a call for the cards of a deck, of which this is shown; no more than a deck may have
abbrev pub told_of_cards : CardsView → Reply → Told
told_of_cards view (CardsAre version cards) = if nat_le (length cards) most_cards then told.Cards version cards view else foreign
told_of_cards view (Refused reason) = told.Refused (desk_reason reason)
told_of_cards view _ = foreign

-- what is shown of the cards that edits make of these
abbrev pub told_of_backs : ℕ → List Edit → List Card → Told
told_of_backs version backs cards = elim (first_fault backs cards) [
  | None ↦ told_of_cards All (CardsAre version (edited_by backs cards))
  | Some fault ↦ foreign
]

-- what is shown of the reply to a call for the cards that a deck had at a version: those of now, with the changes since taken back
abbrev pub told_of_cards_at : Reply → Told
told_of_cards_at (CardsBefore version cards backs) = told_of_backs version backs cards
told_of_cards_at (Refused reason) = told.Refused (desk_reason reason)
told_of_cards_at _ = foreign

-- whether a reply has changes to be taken back
abbrev pub has_backs : Reply → Bool
has_backs (CardsBefore version cards backs) = true
has_backs _ = false

-- that; or that there was no memory to take the changes back
abbrev pub IsToldAt : Reply → Told → Type 0
IsToldAt reply what = (what ≡ told_of_cards_at reply) ⊎ (IsTrue (has_backs reply) × (what ≡ told.Refused refusal.OutOfMemory))

-- what is shown, or that there was no memory for it
abbrev pub IsMade : Told → Told → Type 0
IsMade made what = (what ≡ made) ⊎ (what ≡ told.Refused refusal.OutOfMemory)

-- a text of the decks that are published under a version
abbrev pub text_told : PublishedText → ℕ → List Deck → Told
text_told text version decks = told.Published version (shown_text text decks)

-- a text of a deck; without one there is no such deck
abbrev pub told_where : ℕ → Option (List ℕ) → Told
told_where version (Some part) = told.Published version part
told_where version None = told.Refused refusal.NoDeck

-- this text of the one of a name
abbrev pub part_told : DeckText → List ℕ → ℕ → List Deck → Told
part_told text name version decks = told_where version (shown_part text name decks)

-- their flagged statements and LINK lines, where they are no more than a desk may have; where none of them is the deck that is asked for, there is no such deck
abbrev pub errors_told : ErrorsView → ℕ → List Deck → Told
errors_told view version decks =
    if nat_le (length decks) most_decks then (if shows_any view decks then told.Errors version decks view else told.Refused refusal.NoDeck) else foreign

-- this of a publication is shown, where there is memory for it
abbrev pub IsViewOf : PublishedView → Publication → Told → Type 0
IsViewOf (showing.Text text) publication what = IsMade (text_told text publication.version publication.decks) what
IsViewOf (showing.Part text name) publication what = IsMade (part_told text name publication.version publication.decks) what
IsViewOf (showing.Errors errors) publication what = IsMade (errors_told errors publication.version publication.decks) what
IsViewOf (showing.Words name) publication what = IsSaidOf publication.version (deck_named name publication.decks) what
IsViewOf showing.Names publication what = IsLines publication.version what
IsViewOf (showing.Symbols name) publication what = IsLinesOf publication.version (deck_named name publication.decks) what

-- this of the publication that a reply shows; or why it shows none
abbrev pub IsToldBy : PublishedView → Result Publication Refusal → Told → Type 0
IsToldBy view (Ok publication) what = IsViewOf view publication what
IsToldBy view (Err reason) what = what ≡ told.Refused reason

-- a first line, and what follows it
abbrev pub with_body : List ℕ → List ℕ → List ℕ
with_body head body = line_of head ++ body

-- the text of a refusal
abbrev pub refused_text : Refusal → List ℕ
refused_text reason = with_body (codes "NO " ++ refusal_text reason) []

-- lines behind a version and their count
abbrev pub lines_text : ℕ → List ℕ → List ℕ
lines_text version lines = with_body (counted_text version (lines_in lines)) lines

-- the text of what is flagged
abbrev pub errors_text : ℕ → ErrorsView → List Deck → List ℕ → List ℕ
errors_text version view decks map = with_body (counted_text version (length (error_lines view decks map))) (text_of_lines (error_lines view decks map))

-- the text of cards that are shown
abbrev pub cards_text : ℕ → List Card → List ℕ
cards_text version cards = with_body (counted_text version (length cards)) (file_of cards)

-- the text of what is shown of a deck's cards
abbrev pub view_text : ℕ → CardsView → List Card → List ℕ
view_text version All cards = cards_text version cards
view_text version (From place count) cards = cards_text version (cards_from place count cards)
view_text version (With text) cards = with_body (counted_text version (length (numbers_of text cards))) (numbers_text (numbers_of text cards))

-- the text of a status
abbrev pub status_text : ℕ → Option ℕ → List Row → List ℕ
status_text version published rows = with_body (counted_text version (length rows + 1)) (line_of (published_text published) ++ rows_text rows)

-- the text that a session is shown
abbrev pub told_text : Told → List ℕ
told_text (told.Done version) = with_body (ok_text version) []
told_text (told.Unkept version) = with_body (unkept_text version) []
told_text (told.Cards version cards view) = view_text version view cards
told_text (told.Changes version kept) = with_body (counted_text version (length (change_lines kept))) (text_of_lines (change_lines kept))
told_text (told.Published version shown) = lines_text version shown
told_text (told.Errors version decks view) = errors_text version view decks (map_of decks)
told_text (told.Lines version lines) = lines_text version lines
told_text (told.Status version published rows) = status_text version published rows
told_text (told.FileStatus version published decks) = with_body (counted_text version (length decks + 1)) (line_of (published_text published) ++ marks_text decks)
told_text (told.Standing version published) = status_text version published []
told_text (told.Decks version decks) = with_body (counted_text version (length decks)) (told_decks_text decks)
told_text (told.Files version rows) = with_body (counted_text version (length rows)) (files_text rows)
told_text (told.Sessions version sessions) = with_body (counted_text version (length sessions + 1)) (line_of service_text ++ sessions_text sessions)
told_text (told.Help version) = lines_text version help_text
told_text (told.Refused reason) = refused_text reason
told_text told.Bye = with_body (codes "BYE") []

-- whether it is the end of the session
abbrev pub is_bye : Told → Bool
is_bye told.Bye = true
is_bye _ = false

-- whether it is told by a reply: all but a text of the publication is
abbrev pub is_replied : Told → Bool
is_replied (told.Published version shown) = false
is_replied _ = true

-- what is shown has no more cards, edits, decks, files and sessions than may be
abbrev pub IsTellable : Told → Type 0
IsTellable (told.Cards version cards view) = length cards ≤ most_cards
IsTellable (told.Changes version kept) = length kept ≤ most_kept
IsTellable (told.Errors version decks view) = length decks ≤ most_decks
IsTellable (told.Status version published rows) = length rows ≤ most_decks
IsTellable (told.FileStatus version published decks) = length decks ≤ most_decks
IsTellable (told.Decks version decks) = length decks ≤ most_decks
IsTellable (told.Files version rows) = length rows ≤ most_files
IsTellable (told.Sessions version sessions) = length sessions ≤ most_sessions
IsTellable _ = ⊤

-- what is shown after a call of the desk
abbrev pub called : Told → Answer
called what = record { told = what; executed = true }

-- what is shown without one
abbrev pub uncalled : Told → Answer
uncalled what = record { told = what; executed = false }
