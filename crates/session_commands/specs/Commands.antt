-- Which line of a session is which command, or why it is refused: a line that is none first, with its first word where no command begins with that, then the name, then the card (ours).
use Rattle.std.specs.Prelude.{ℕ, List, Option, Some, None, Result, Ok, Err, Bool, ◌&&◌, codes, length, drop, nat_le, option_and_then, if◌then◌else◌}
use Rattle.definitions.specs.{Characters.same_text, Cards.{Card, CardRead, IsCard, TooWide, BadCharacter, card_of}, DeckInput.is_deck_name, Fields.unbroken_front}
use Rattle.session_commands.specs.{declared.verbs.EditKind.EditKind, declared.verbs.Verb.Verb, declared.commands.Command.Command, declared.commands.BatchHead.BatchHead, declared.words.Seen.Seen, declared.words.Seen.TheVariants.{Exactly, Since}, declared.views.CardsView.CardsView, declared.views.CardsView.TheVariants.{All, From, With}, declared.views.ErrorsView.TheVariants.{Every, Of}, declared.refusals.Refusal.Refusal, declared.refusals.Refusal.TheVariants.{BadCommand, UnknownCommand, BadName}, Words.{from_blank, first_word, first_number, first_seen, behind_word}, UnknownWords.{can_be_told, told_word}, Verbs.verb_of, Sought.is_sought_size, Edits.{needs, only_if, made_of, is_end, fits_edit, edit_at}}
use Rattle.session_commands.specs.declared.verbs.Verb.TheVariants as verb
use Rattle.cards.specs.declared.edits.Edit.{Edit}
use Rattle.deck_files.specs.declared.deck_shelf.SaveOver.{SaveOver}
use Rattle.deck_files.specs.declared.deck_shelf.SaveOver.TheVariants as over
use Rattle.session_commands.specs.declared.commands.Command.TheVariants as command

-- the name that a word is
abbrev pub name_in : List ℕ → Result (List ℕ) Refusal
name_in word = if is_deck_name word then Ok word else Err BadName

-- a word of its own
abbrev pub alone : Command → List ℕ → Result Command Refusal
alone command rest = only_if (is_end rest) (Ok command)

-- name
abbrev pub only_name : List ℕ → Result (List ℕ) Refusal
only_name rest = needs (first_word rest) (λ name. only_if (is_end (behind_word rest)) (name_in name))

-- what stands behind the name of a save: nothing, or the word that lets it write over any file
abbrev pub save_over_in : List ℕ → Option SaveOver
save_over_in rest = if is_end rest then Some over.Known else if same_text rest (codes " FORCE") then Some over.Any else None

-- name, or name FORCE
abbrev pub save_in : List ℕ → Result Command Refusal
save_in rest =
    needs (first_word rest) (λ name.
    needs (save_over_in (behind_word rest)) (λ over. made_of (λ name. command.Save name over) (name_in name)))

-- those of a deck's cards that are shown from a place on, which counts from 1
abbrev pub view_from : ℕ → ℕ → List ℕ → Option CardsView
view_from place count rest = if nat_le 1 place && is_end rest then Some (From place count) else None

-- what stands behind the name where cards are shown: nothing, or place count
abbrev pub view_in : List ℕ → Option CardsView
view_in rest =
    let behind = behind_word rest in
    if is_end rest then Some All else
    option_and_then (λ place. option_and_then (λ count. view_from place count (behind_word behind)) (first_number behind)) (first_number rest)

-- the version behind the word AT that stands behind the name
abbrev pub at_in : List ℕ → Option ℕ
at_in rest = if same_text (unbroken_front (drop 1 rest)) (codes "AT") && is_end (behind_word (behind_word rest)) then first_number (behind_word rest) else None

-- of the cards of the deck of a name this, or else those that it had at a version
abbrev pub cards_by : List ℕ → Option CardsView → Option ℕ → Result Command Refusal
cards_by name (Some view) at = made_of (λ name. command.Cards name view) (name_in name)
cards_by name None at = needs at (λ version. made_of (λ name. command.CardsAt name version) (name_in name))

-- name, name place count, or name AT version
abbrev pub cards_in : List ℕ → Result Command Refusal
cards_in rest = needs (first_word rest) (λ name. cards_by name (view_in (behind_word rest)) (at_in (behind_word rest)))

-- a text that is looked for: a card of as many columns as such a text may have
abbrev pub sought_of : CardRead → Option Card
sought_of (IsCard columns) = if is_sought_size (length columns) then Some columns else None
sought_of TooWide = None
sought_of (BadCharacter column) = None

-- the text that is all that stands behind one blank
abbrev pub sought_in : List ℕ → Option Card
sought_in rest = sought_of (card_of (drop 1 rest))

-- name text
abbrev pub find_in : List ℕ → Result Command Refusal
find_in rest =
    needs (first_word rest) (λ name.
    needs (sought_in (behind_word rest)) (λ text. made_of (λ name. command.Cards name (With text)) (name_in name)))

-- nothing, or name, behind IMAGE
abbrev pub image_in : List ℕ → Result Command Refusal
image_in rest = if is_end rest then Ok command.Image else made_of command.ImageOf (only_name rest)

-- nothing, or name, behind LIST
abbrev pub list_in : List ℕ → Result Command Refusal
list_in rest = if is_end rest then Ok command.List else made_of command.ListOf (only_name rest)

-- behind ERRORS name nothing, or WORDS
abbrev pub errors_of : List ℕ → List ℕ → Result Command Refusal
errors_of name rest =
    if is_end rest then made_of (λ name. command.Errors (Of name)) (name_in name)
    else if same_text rest (codes " WORDS") then made_of command.Words (name_in name)
    else Err BadCommand

-- nothing, name, or name WORDS, behind ERRORS
abbrev pub errors_in : List ℕ → Result Command Refusal
errors_in rest = if is_end rest then Ok (command.Errors Every) else needs (first_word rest) (λ name. errors_of name (behind_word rest))

-- nothing, or name, behind SYMBOLS
abbrev pub symbols_in : List ℕ → Result Command Refusal
symbols_in rest = if is_end rest then Ok command.Names else made_of command.Symbols (only_name rest)

-- nothing, or FILES, behind STATUS
abbrev pub status_in : List ℕ → Result Command Refusal
status_in rest = if is_end rest then Ok command.Status else if same_text rest (codes " FILES") then Ok command.FileStatus else Err BadCommand

-- version
abbrev pub wait_in : List ℕ → Result Command Refusal
wait_in rest = needs (first_number rest) (λ version. only_if (is_end (behind_word rest)) (Ok (command.Wait version)))

-- name version
abbrev pub named_version : List ℕ → Result (List ℕ × ℕ) Refusal
named_version rest =
    needs (first_word rest) (λ name.
    needs (first_number (behind_word rest)) (λ version.
    only_if (is_end (behind_word (behind_word rest))) (made_of (λ name. (name, version)) (name_in name))))

-- the command that such a line is
abbrev pub of_version : (List ℕ → ℕ → Command) → Result (List ℕ × ℕ) Refusal → Result Command Refusal
of_version make read = made_of (λ (both : List ℕ × ℕ). make both.0 both.1) read

-- an edit of a deck, where the name is one
abbrev pub edit_of : Result (List ℕ) Refusal → Seen → Result Edit Refusal → Result Command Refusal
edit_of (Err refusal) seen edit = Err refusal
edit_of (Ok name) seen edit = made_of (command.Edit name seen) edit

-- name version at, and text but for a removal; a plus may stand behind the version
abbrev pub edit_in : EditKind → List ℕ → Result Command Refusal
edit_in kind rest =
    let behind = behind_word (behind_word rest) in
    needs (first_word rest) (λ name.
    needs (first_seen (behind_word rest)) (λ seen.
    needs (first_number behind) (λ at.
    only_if (fits_edit kind (behind_word behind)) (edit_of (name_in name) seen (edit_at kind at (behind_word behind))))))

-- how many edits a batch has at most
abbrev pub most_edits : ℕ
most_edits = 100

-- whether a batch may have so many edits
abbrev pub is_batch_size : ℕ → Bool
is_batch_size count = nat_le 1 count && nat_le count most_edits

-- how many cards a put has at most
abbrev pub most_put_cards : ℕ
most_put_cards = 20000

-- whether a put may have so many cards
abbrev pub is_put_size : ℕ → Bool
is_put_size count = nat_le count most_put_cards

-- name version n, where a plus may stand behind the version; the name is looked at when the lines behind are read
abbrev pub head_in : List ℕ → Result BatchHead Refusal
head_in rest =
    let behind = behind_word (behind_word rest) in
    needs (first_word rest) (λ name.
    needs (first_seen (behind_word rest)) (λ seen.
    needs (first_number behind) (λ count.
    only_if (is_end (behind_word behind)) (Ok (record { name = name_in name; seen = seen; count = count })))))

-- a batch, where it may have so many edits
abbrev pub batch_by : Result BatchHead Refusal → Result Command Refusal
batch_by (Ok head) = only_if (is_batch_size head.count) (Ok (command.Batch head))
batch_by (Err refusal) = Err refusal

-- a put, by who has seen this version; whoever would put over any later one gives no command
abbrev pub put_of : Result (List ℕ) Refusal → Seen → ℕ → Result Command Refusal
put_of name (Exactly version) count = only_if (is_put_size count) (Ok (command.Put (record { name = name; version = version; count = count })))
put_of name (Since version) count = Err BadCommand

-- a put, where it may have so many cards
abbrev pub put_by : Result BatchHead Refusal → Result Command Refusal
put_by (Ok head) = put_of head.name head.seen head.count
put_by (Err refusal) = Err refusal

-- the command of a verb, by what stands behind it
abbrev pub command_by : Verb → List ℕ → Result Command Refusal
command_by verb.Add rest = made_of command.Add (only_name rest)
command_by verb.Load rest = made_of command.Load (only_name rest)
command_by verb.LoadAll rest = made_of command.LoadAll (only_name rest)
command_by verb.Reload rest = made_of command.Reload (only_name rest)
command_by verb.Drop rest = of_version command.Drop (named_version rest)
command_by (verb.Edit kind) rest = edit_in kind rest
command_by verb.Cards rest = cards_in rest
command_by verb.Changes rest = of_version command.Changes (named_version rest)
command_by verb.Find rest = find_in rest
command_by verb.Save rest = save_in rest
command_by verb.SaveAll rest = alone command.SaveAll rest
command_by verb.Image rest = image_in rest
command_by verb.List rest = list_in rest
command_by verb.Map rest = alone command.Map rest
command_by verb.Errors rest = errors_in rest
command_by verb.Symbols rest = symbols_in rest
command_by verb.Status rest = status_in rest
command_by verb.Files rest = alone command.Files rest
command_by verb.Wait rest = wait_in rest
command_by verb.Batch rest = batch_by (head_in rest)
command_by verb.Put rest = put_by (head_in rest)
command_by verb.Undo rest = of_version command.Undo (named_version rest)
command_by verb.Hello rest = made_of command.Hello (only_name rest)
command_by verb.Help rest = alone command.Help rest
command_by verb.Bye rest = alone command.Bye rest

-- why a line is none whose first word begins no command: that word is shown, where it can be
abbrev pub refusal_of_word : List ℕ → Refusal
refusal_of_word word = if can_be_told word then UnknownCommand (told_word word) else BadCommand

-- the command of a verb, if there is one, or else the refusal of the word
abbrev pub command_or_word : Option Verb → List ℕ → List ℕ → Result Command Refusal
command_or_word (Some verb) word rest = command_by verb rest
command_or_word None word rest = Err (refusal_of_word word)

-- the command that a line is, or why it is refused
abbrev pub command_of : List ℕ → Result Command Refusal
command_of line = let word = unbroken_front line in command_or_word (verb_of word) word (from_blank line)
