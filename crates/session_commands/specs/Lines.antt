-- The line that a client writes for a command (ours).
use Rattle.std.specs.Prelude.{ℕ, ◌≡◌, ◌≤◌, ⊤, List, [], ◌++◌, Result, Ok, Err, IsTrue, codes, decimal, length}
use Rattle.definitions.specs.{Cards.{IsCard, card_of}, DeckInput.is_deck_name}
use Rattle.cards.specs.declared.edits.Edit.{Edit, TheVariants.{Insert, Replace, Remove}}
use Rattle.deck_files.specs.declared.deck_shelf.SaveOver.TheVariants.{Known, Any}
use Rattle.session_commands.specs.{declared.commands.Command.Command, declared.views.ErrorsView.TheVariants.{Every, Of}, declared.refusals.Refusal.Refusal, declared.views.CardsView.CardsView, declared.views.CardsView.TheVariants.{All, From, With}, Words.greatest_number, declared.words.Seen.Seen, declared.words.Seen.TheVariants.{Exactly, Since}, Sought.is_sought_size, Commands.{is_batch_size, is_put_size}}
use Rattle.session_commands.specs.declared.commands.Command.TheVariants as command

-- a blank, and a text behind it
abbrev pub behind_a_blank : List ℕ → List ℕ
behind_a_blank text = codes " " ++ text

-- a name, and a number behind it
abbrev pub name_and_number : List ℕ → ℕ → List ℕ → List ℕ
name_and_number name number rest = behind_a_blank (name ++ behind_a_blank (decimal number ++ rest))

-- the word of a version that was seen
abbrev pub seen_text : Seen → List ℕ
seen_text (Exactly version) = decimal version
seen_text (Since version) = decimal version ++ codes "+"

-- a name, and a version behind it
abbrev pub name_and_seen : List ℕ → Seen → List ℕ → List ℕ
name_and_seen name seen rest = behind_a_blank (name ++ behind_a_blank (seen_text seen ++ rest))

-- the line of an edit
abbrev pub line_of_edit : List ℕ → Seen → Edit → List ℕ
line_of_edit name seen (Insert at card) = codes "INS" ++ name_and_seen name seen (behind_a_blank (decimal at ++ behind_a_blank card))
line_of_edit name seen (Replace at card) = codes "REP" ++ name_and_seen name seen (behind_a_blank (decimal at ++ behind_a_blank card))
line_of_edit name seen (Remove at) = codes "DEL" ++ name_and_seen name seen (behind_a_blank (decimal at ++ []))

-- the line of an edit in a batch
abbrev pub line_in_batch : Edit → List ℕ
line_in_batch (Insert at card) = codes "INS" ++ behind_a_blank (decimal at ++ behind_a_blank card)
line_in_batch (Replace at card) = codes "REP" ++ behind_a_blank (decimal at ++ behind_a_blank card)
line_in_batch (Remove at) = codes "DEL" ++ behind_a_blank (decimal at ++ [])

-- the first line of a command with lines behind it; one whose name is none has no line of its own
abbrev pub line_of_head : List ℕ → Result (List ℕ) Refusal → Seen → ℕ → List ℕ
line_of_head verb (Ok name) seen count = verb ++ name_and_seen name seen (behind_a_blank (decimal count ++ []))
line_of_head verb (Err refusal) seen count = []

-- the line that asks for this of a deck's cards
abbrev pub line_of_view : List ℕ → CardsView → List ℕ
line_of_view name All = codes "CARDS" ++ behind_a_blank (name ++ [])
line_of_view name (From place count) = codes "CARDS" ++ name_and_number name place (behind_a_blank (decimal count ++ []))
line_of_view name (With text) = codes "FIND" ++ behind_a_blank (name ++ behind_a_blank text)

-- the line of a command
abbrev pub line_of_command : Command → List ℕ
line_of_command (command.Add name) = codes "ADD" ++ behind_a_blank (name ++ [])
line_of_command (command.Load name) = codes "LOAD" ++ behind_a_blank (name ++ [])
line_of_command (command.LoadAll name) = codes "LOADALL" ++ behind_a_blank (name ++ [])
line_of_command (command.Reload name) = codes "RELOAD" ++ behind_a_blank (name ++ [])
line_of_command (command.Drop name version) = codes "DROP" ++ name_and_number name version []
line_of_command (command.Edit name seen edit) = line_of_edit name seen edit
line_of_command (command.Cards name view) = line_of_view name view
line_of_command (command.CardsAt name version) = codes "CARDS" ++ behind_a_blank (name ++ behind_a_blank (codes "AT" ++ behind_a_blank (decimal version ++ [])))
line_of_command (command.Changes name version) = codes "CHANGES" ++ name_and_number name version []
line_of_command (command.Save name Known) = codes "SAVE" ++ behind_a_blank (name ++ [])
line_of_command (command.Save name Any) = codes "SAVE" ++ behind_a_blank (name ++ behind_a_blank (codes "FORCE"))
line_of_command command.SaveAll = codes "SAVEALL"
line_of_command command.Image = codes "IMAGE"
line_of_command command.List = codes "LIST"
line_of_command command.Map = codes "MAP"
line_of_command (command.ImageOf name) = codes "IMAGE" ++ behind_a_blank (name ++ [])
line_of_command (command.ListOf name) = codes "LIST" ++ behind_a_blank (name ++ [])
line_of_command (command.Errors Every) = codes "ERRORS"
line_of_command (command.Errors (Of name)) = codes "ERRORS" ++ behind_a_blank (name ++ [])
line_of_command (command.Words name) = codes "ERRORS" ++ behind_a_blank (name ++ behind_a_blank (codes "WORDS"))
line_of_command command.Names = codes "SYMBOLS"
line_of_command (command.Symbols name) = codes "SYMBOLS" ++ behind_a_blank (name ++ [])
line_of_command command.Status = codes "STATUS"
line_of_command command.FileStatus = codes "STATUS FILES"
line_of_command command.Files = codes "FILES"
line_of_command (command.Wait version) = codes "WAIT" ++ behind_a_blank (decimal version ++ [])
line_of_command (command.Batch head) = line_of_head (codes "BATCH") head.name head.seen head.count
line_of_command (command.Put head) = line_of_head (codes "PUT") head.name (Exactly head.version) head.count
line_of_command (command.Undo name version) = codes "UNDO" ++ name_and_number name version []
line_of_command (command.Hello name) = codes "HELLO" ++ behind_a_blank (name ++ [])
line_of_command command.Help = codes "HELP"
line_of_command command.Bye = codes "BYE"

-- a place that can be written, and a card
abbrev pub IsLawfulEdit : Edit → Type 0
IsLawfulEdit (Insert at card) = (at ≤ greatest_number) × (card_of card ≡ IsCard card)
IsLawfulEdit (Replace at card) = (at ≤ greatest_number) × (card_of card ≡ IsCard card)
IsLawfulEdit (Remove at) = at ≤ greatest_number

-- a version that can be written
abbrev pub IsLawfulSeen : Seen → Type 0
IsLawfulSeen (Exactly version) = version ≤ greatest_number
IsLawfulSeen (Since version) = version ≤ greatest_number

-- a name, where there is one
abbrev pub IsLawfulName : Result (List ℕ) Refusal → Type 0
IsLawfulName (Ok name) = IsTrue (is_deck_name name)
IsLawfulName (Err refusal) = ⊥

-- a place and a number of cards that can be written, or a text that can be looked for
abbrev pub IsLawfulView : CardsView → Type 0
IsLawfulView All = ⊤
IsLawfulView (From place count) = (1 ≤ place) × (place ≤ greatest_number) × (count ≤ greatest_number)
IsLawfulView (With text) = (card_of text ≡ IsCard text) × IsTrue (is_sought_size (length text))

-- a command with a lawful name, numbers that can be written, and a card; where it is a batch, with a name and 1 to 100 edits; where it is a put, with a name and at most 20,000 cards
abbrev pub IsLawful : Command → Type 0
IsLawful (command.Add name) = IsTrue (is_deck_name name)
IsLawful (command.Load name) = IsTrue (is_deck_name name)
IsLawful (command.LoadAll name) = IsTrue (is_deck_name name)
IsLawful (command.Reload name) = IsTrue (is_deck_name name)
IsLawful (command.Drop name version) = IsTrue (is_deck_name name) × (version ≤ greatest_number)
IsLawful (command.Edit name seen edit) = IsTrue (is_deck_name name) × IsLawfulSeen seen × IsLawfulEdit edit
IsLawful (command.Cards name view) = IsTrue (is_deck_name name) × IsLawfulView view
IsLawful (command.CardsAt name version) = IsTrue (is_deck_name name) × (version ≤ greatest_number)
IsLawful (command.Changes name version) = IsTrue (is_deck_name name) × (version ≤ greatest_number)
IsLawful (command.Save name over) = IsTrue (is_deck_name name)
IsLawful command.SaveAll = ⊤
IsLawful command.Image = ⊤
IsLawful command.List = ⊤
IsLawful command.Map = ⊤
IsLawful (command.ImageOf name) = IsTrue (is_deck_name name)
IsLawful (command.ListOf name) = IsTrue (is_deck_name name)
IsLawful (command.Errors Every) = ⊤
IsLawful (command.Errors (Of name)) = IsTrue (is_deck_name name)
IsLawful (command.Words name) = IsTrue (is_deck_name name)
IsLawful command.Names = ⊤
IsLawful (command.Symbols name) = IsTrue (is_deck_name name)
IsLawful command.Status = ⊤
IsLawful command.FileStatus = ⊤
IsLawful command.Files = ⊤
IsLawful (command.Wait version) = version ≤ greatest_number
IsLawful (command.Batch head) = IsLawfulName head.name × IsLawfulSeen head.seen × IsTrue (is_batch_size head.count)
IsLawful (command.Put head) = IsLawfulName head.name × (head.version ≤ greatest_number) × IsTrue (is_put_size head.count)
IsLawful (command.Undo name version) = IsTrue (is_deck_name name) × (version ≤ greatest_number)
IsLawful (command.Hello name) = IsTrue (is_deck_name name)
IsLawful command.Help = ⊤
IsLawful command.Bye = ⊤
