-- What a session asks for: the lines of one command, and the task that they are (ours).
use Rattle.std.specs.Prelude.{ℕ, ◌+◌, Bool, true, false, List, [], ◌∷◌, Result, Ok, Err}
use Rattle.definitions.specs.Cards.{Card}
use Rattle.cards.specs.declared.edits.Edit.{Edit}
use Rattle.desk_core.specs.declared.{published_texts.PublishedText.TheVariants.{Image, Listing, Map}, calls.{Edits.Edits, Change.TheVariants.{AddDeck, PutDeck, DropDeck, EditDeck, Undo}, Edits.TheVariants.{One, Batch}, Question.TheVariants.{Changes, Status}}}
use Rattle.session_commands.specs.{declared.words.Seen.Seen, declared.commands.Command.Command, declared.refusals.Refusal.Refusal, Edits.{edit_in_batch, card_in_put}, Commands.command_of}
use Rattle.session_commands.specs.declared.commands.Command.TheVariants as command
use Rattle.desk_core.specs.declared.published_texts.DeckText.TheVariants as part
use Rattle.session_line.specs.declared.tasks.PublishedView.TheVariants as showing
use Rattle.session_line.specs.declared.{tasks.Task.Task, tasks.Task.TheVariants.{Make, Ask, AwaitVersion, ShowCards, ShowCardsAt, Show, LoadDeck, LoadAll, ReloadDeck, SaveDeck, SaveAll, ShowFiles, ShowFileStatus, Greet, ShowHelp, Leave, Refuse}}

-- how many lines belong to a command behind its first
abbrev pub lines_behind : Command → ℕ
lines_behind (command.Batch head) = head.count
lines_behind (command.Put head) = head.count
lines_behind _ = 0

-- how many lines belong to a first line; one that is no command has none
abbrev pub lines_due : Result Command Refusal → ℕ
lines_due (Ok command) = lines_behind command
lines_due (Err refusal) = 0

-- whether a first line begins a put, whose lines are cards
abbrev pub is_put : Result Command Refusal → Bool
is_put (Ok (command.Put head)) = true
is_put first = false

-- an item in front of others, or the first refusal
abbrev pub item_in_front : {A : Type 0} → Result A Refusal → Result (List A) Refusal → Result (List A) Refusal
item_in_front (Ok item) (Ok items) = Ok (item ∷ items)
item_in_front (Ok item) (Err refusal) = Err refusal
item_in_front (Err refusal) items = Err refusal

-- the items of lines that are numbered from here, or the refusal of the first line that is none
abbrev pub items_from : {A : Type 0} → (ℕ → List ℕ → Result A Refusal) → ℕ → List (List ℕ) → Result (List A) Refusal
items_from item number [] = Ok []
items_from item number (line ∷ lines) = item_in_front (item number line) (items_from item (number + 1) lines)

-- the edits of a batch's lines
abbrev pub edits_of : List (List ℕ) → Result (List Edit) Refusal
edits_of lines = items_from (λ number line. edit_in_batch line) 1 lines

-- the cards of a put's lines
abbrev pub cards_of : List (List ℕ) → Result (List Card) Refusal
cards_of lines = items_from card_in_put 1 lines

-- these edits of a deck, by one who has seen this
abbrev pub edits_asked : List ℕ → Seen → Edits → Task
edits_asked name seen edits = Make (EditDeck name seen edits)

-- a batch of edits, where its lines are edits
abbrev pub batch_of : List ℕ → Seen → Result (List Edit) Refusal → Task
batch_of name seen (Ok edits) = edits_asked name seen (Batch edits)
batch_of name seen (Err refusal) = Refuse refusal

-- a batch, where its name is one; the name counts before the lines
abbrev pub batch_named : Result (List ℕ) Refusal → Seen → Result (List Edit) Refusal → Task
batch_named (Ok name) seen edits = batch_of name seen edits
batch_named (Err refusal) seen edits = Refuse refusal

-- a deck of these cards, where its lines are cards
abbrev pub put_of : List ℕ → ℕ → Result (List Card) Refusal → Task
put_of name version (Ok cards) = Make (PutDeck (record { name = name; cards = cards }) version)
put_of name version (Err refusal) = Refuse refusal

-- a put, where its name is one; the name counts before the lines
abbrev pub put_named : Result (List ℕ) Refusal → ℕ → Result (List Card) Refusal → Task
put_named (Ok name) version cards = put_of name version cards
put_named (Err refusal) version cards = Refuse refusal

-- what a command asks for, with the lines behind it
abbrev pub task_of_command : Command → List (List ℕ) → Task
task_of_command (command.Add name) lines = Make (AddDeck (record { name = name; cards = [] }))
task_of_command (command.Load name) lines = LoadDeck name
task_of_command (command.LoadAll name) lines = LoadAll name
task_of_command (command.Reload name) lines = ReloadDeck name
task_of_command (command.Drop name version) lines = Make (DropDeck name version)
task_of_command (command.Edit name seen edit) lines = edits_asked name seen (One edit)
task_of_command (command.Cards name view) lines = ShowCards name view
task_of_command (command.CardsAt name version) lines = ShowCardsAt name version
task_of_command (command.Changes name version) lines = Ask (Changes name version)
task_of_command (command.Save name over) lines = SaveDeck name over
task_of_command command.SaveAll lines = SaveAll
task_of_command command.Image lines = Show (showing.Text Image)
task_of_command command.List lines = Show (showing.Text Listing)
task_of_command command.Map lines = Show (showing.Text Map)
task_of_command (command.ImageOf name) lines = Show (showing.Part part.Section name)
task_of_command (command.ListOf name) lines = Show (showing.Part part.Listing name)
task_of_command (command.Errors errors) lines = Show (showing.Errors errors)
task_of_command (command.Words name) lines = Show (showing.Words name)
task_of_command command.Names lines = Show showing.Names
task_of_command (command.Symbols name) lines = Show (showing.Symbols name)
task_of_command command.Status lines = Ask Status
task_of_command command.FileStatus lines = ShowFileStatus
task_of_command command.Files lines = ShowFiles
task_of_command (command.Wait version) lines = AwaitVersion version
task_of_command (command.Batch head) lines = batch_named head.name head.seen (edits_of lines)
task_of_command (command.Put head) lines = put_named head.name head.version (cards_of lines)
task_of_command (command.Undo name version) lines = Make (Undo name version)
task_of_command (command.Hello name) lines = Greet name
task_of_command command.Help lines = ShowHelp
task_of_command command.Bye lines = Leave

-- what a first line asks for, with the lines behind it; one that is no command is refused
abbrev pub task_by : Result Command Refusal → List (List ℕ) → Task
task_by (Ok command) lines = task_of_command command lines
task_by (Err refusal) lines = Refuse refusal

-- the task of a command's lines
abbrev pub task_of : List ℕ → List (List ℕ) → Task
task_of first others = task_by (command_of first) others
