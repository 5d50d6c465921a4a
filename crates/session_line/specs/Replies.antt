-- The texts of replies (ours): a first line, and for some commands as many lines more as it shows.
use Rattle.std.specs.Prelude.{ℕ, ◌+◌, ◌≤◌, ⊤, Bool, true, false, List, [], ◌∷◌, ◌++◌, Option, Some, None, length, flat_map, codes, decimal, nat_lt, if◌then◌else◌}
use Rattle.definitions.specs.Characters.{line_feed}
use Rattle.deck_files.specs.{DeckFiles.file_of, FileRows.most_files}
use Rattle.session_line.specs.{FileLines.files_text, Greetings.{service_text, connected_text}, declared.greetings.Connected.Connected, declared.marked_rows.MarkedRow.MarkedRow, declared.told_decks.ToldDeck.ToldDeck, declared.told_decks.DeckOutcome.DeckOutcome, declared.told_decks.DeckOutcome.TheVariants.{Done, Unkept, Refused}, Errors.error_lines, Views.numbers_of, ChangeLines.change_lines, declared.replies.Reply.Reply}
use Rattle.session_commands.specs.Refusals.{refusal_text}
use Rattle.deck_listing.specs.ListedObjects.{lines_in}
use Rattle.desk_core.specs.declared.replies.{Row.Row, State.State, State.TheVariants.{Out, Behind, Ready}}
use Rattle.session_line.specs.declared.replies.Reply.TheVariants as reply

-- a text and its line feed
abbrev pub line_of : List ℕ → List ℕ
line_of text = text ++ line_feed ∷ []

-- the word for the state of a deck
abbrev pub state_text : State → List ℕ
state_text Out = codes "OUT"
state_text Behind = codes "BEHIND"
state_text Ready = codes "READY"

-- name, version, number of cards and state of a deck
abbrev pub row_text : Row → List ℕ
row_text row = row.name ++ (codes " " ++ (decimal row.version ++ (codes " " ++ (decimal row.cards ++ (codes " " ++ state_text row.state)))))

-- how many decks begin behind the END of one, where any do
abbrev pub behind_text : ℕ → List ℕ
behind_text count = if nat_lt 0 count then codes " MORE " ++ decimal count else []

-- the row of a deck
abbrev pub status_text : Row → List ℕ
status_text row = row_text row ++ behind_text row.decks_behind

-- whether a file has a deck's cards
abbrev pub saved_word : Bool → List ℕ
saved_word true = codes " SAVED"
saved_word false = codes " UNSAVED"

-- the row of a deck, and whether its file has its cards
abbrev pub marked_text : MarkedRow → List ℕ
marked_text deck = row_text deck.row ++ (saved_word deck.saved ++ behind_text deck.row.decks_behind)

-- the version of a deck, or why nothing was done
abbrev pub outcome_text : DeckOutcome → List ℕ
outcome_text (Done version) = codes " " ++ decimal version
outcome_text (Unkept version) = codes " UNKEPT " ++ decimal version
outcome_text (Refused refusal) = codes " NO " ++ refusal_text refusal

-- the name of a deck, and what became of it
abbrev pub told_deck_text : ToldDeck → List ℕ
told_deck_text deck = deck.name ++ outcome_text deck.outcome

-- the version that is published
abbrev pub published_text : Option ℕ → List ℕ
published_text None = codes "PUBLISHED NONE"
published_text (Some version) = codes "PUBLISHED " ++ decimal version

-- a version
abbrev pub ok_text : ℕ → List ℕ
ok_text version = codes "OK " ++ decimal version

-- a version that stands on the desk and not on the disk
abbrev pub unkept_text : ℕ → List ℕ
unkept_text version = codes "UNKEPT " ++ decimal version

-- a version, and how many lines follow
abbrev pub counted_text : ℕ → ℕ → List ℕ
counted_text version count = codes "OK " ++ (decimal version ++ (codes " " ++ decimal count))

-- the first line of a reply
abbrev pub head_text : Reply → List ℕ
head_text (reply.Done version) = ok_text version
head_text (reply.Unkept version) = unkept_text version
head_text (reply.Cards version cards) = counted_text version (length cards.now)
head_text (reply.Changes version kept) = counted_text version (length (change_lines kept.now))
head_text (reply.Found version cards text) = counted_text version (length (numbers_of text.now cards.now))
head_text (reply.Text version text) = counted_text version (lines_in text.now)
head_text (reply.Errors version view decks map) = counted_text version (length (error_lines view.now decks.now map.now))
head_text (reply.Status version published decks) = counted_text version (length decks.now + 1)
head_text (reply.FileStatus version published decks) = counted_text version (length decks.now + 1)
head_text (reply.Decks version decks) = counted_text version (length decks.now)
head_text (reply.Files version files) = counted_text version (length files.now)
head_text (reply.Sessions version sessions) = counted_text version (length sessions.now + 1)
head_text reply.Bye = codes "BYE"
head_text (reply.Refused refusal) = codes "NO " ++ refusal_text refusal

-- the lines of some decks in a status
abbrev pub rows_text : List Row → List ℕ
rows_text rows = flat_map (λ row. line_of (status_text row)) rows

-- the lines of decks that are marked
abbrev pub marks_text : List MarkedRow → List ℕ
marks_text decks = flat_map (λ deck. line_of (marked_text deck)) decks

-- the lines of decks, and of what became of them
abbrev pub told_decks_text : List ToldDeck → List ℕ
told_decks_text decks = flat_map (λ deck. line_of (told_deck_text deck)) decks

-- the lines of sessions that are connected
abbrev pub sessions_text : List Connected → List ℕ
sessions_text sessions = flat_map (λ connected. line_of (connected_text connected)) sessions

-- numbers, each on a line of its own
abbrev pub numbers_text : List ℕ → List ℕ
numbers_text numbers = flat_map (λ number. line_of (decimal number)) numbers

-- lines, one behind the other
abbrev pub text_of_lines : List (List ℕ) → List ℕ
text_of_lines lines = flat_map line_of lines

-- the lines that follow the first
abbrev pub body_text : Reply → List ℕ
body_text (reply.Done version) = []
body_text (reply.Unkept version) = []
body_text (reply.Cards version cards) = file_of cards.now
body_text (reply.Changes version kept) = text_of_lines (change_lines kept.now)
body_text (reply.Found version cards text) = numbers_text (numbers_of text.now cards.now)
body_text (reply.Text version text) = text.now
body_text (reply.Errors version view decks map) = text_of_lines (error_lines view.now decks.now map.now)
body_text (reply.Status version published decks) = line_of (published_text published) ++ rows_text decks.now
body_text (reply.FileStatus version published decks) = line_of (published_text published) ++ marks_text decks.now
body_text (reply.Decks version decks) = told_decks_text decks.now
body_text (reply.Files version files) = files_text files.now
body_text (reply.Sessions version sessions) = line_of service_text ++ sessions_text sessions.now
body_text reply.Bye = []
body_text (reply.Refused refusal) = []

-- the bytes of a reply
abbrev pub text_of_reply : Reply → List ℕ
text_of_reply reply = line_of (head_text reply) ++ body_text reply

-- no more cards than a deck may have, no more changes than are kept of it, no more decks than a desk may have, no more files than are listed, and no more sessions than an office has seats
abbrev pub IsWithinLimits : Reply → Type 0
IsWithinLimits (reply.Done version) = ⊤
IsWithinLimits (reply.Unkept version) = ⊤
IsWithinLimits (reply.Cards version cards) = length cards.now ≤ 20000
IsWithinLimits (reply.Changes version kept) = length kept.now ≤ 2000
IsWithinLimits (reply.Found version cards text) = length cards.now ≤ 20000
IsWithinLimits (reply.Text version text) = ⊤
IsWithinLimits (reply.Errors version view decks map) = length decks.now ≤ 64
IsWithinLimits (reply.Status version published decks) = length decks.now ≤ 64
IsWithinLimits (reply.FileStatus version published decks) = length decks.now ≤ 64
IsWithinLimits (reply.Decks version decks) = length decks.now ≤ 64
IsWithinLimits (reply.Files version files) = length files.now ≤ most_files
IsWithinLimits (reply.Sessions version sessions) = length sessions.now ≤ 64
IsWithinLimits reply.Bye = ⊤
IsWithinLimits (reply.Refused refusal) = ⊤
