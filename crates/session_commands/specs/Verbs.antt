-- The words that begin a line of a session, or of a batch (ours).
use Rattle.std.specs.Prelude.{ℕ, List, Option, Some, None, codes, if◌then◌else◌}
use Rattle.definitions.specs.Characters.{same_text}
use Rattle.session_commands.specs.declared.verbs.{EditKind.EditKind, Verb.Verb}
use Rattle.session_commands.specs.declared.verbs.EditKind.TheVariants as kind
use Rattle.session_commands.specs.declared.verbs.Verb.TheVariants as verb

-- the edit that a word asks for
abbrev pub edit_kind_of : List ℕ → Option EditKind
edit_kind_of word =
    if same_text word (codes "INS") then Some kind.Insert
    else if same_text word (codes "REP") then Some kind.Replace
    else if same_text word (codes "DEL") then Some kind.Remove
    else None

-- what a word asks for that is about files
abbrev pub file_verb_of : List ℕ → Option Verb
file_verb_of word =
    if same_text word (codes "LOAD") then Some verb.Load
    else if same_text word (codes "LOADALL") then Some verb.LoadAll
    else if same_text word (codes "RELOAD") then Some verb.Reload
    else if same_text word (codes "SAVE") then Some verb.Save
    else if same_text word (codes "SAVEALL") then Some verb.SaveAll
    else if same_text word (codes "FILES") then Some verb.Files
    else None

-- what another word asks for that asks for no edit
abbrev pub other_verb_of : List ℕ → Option Verb
other_verb_of word =
    if same_text word (codes "ADD") then Some verb.Add
    else if same_text word (codes "DROP") then Some verb.Drop
    else if same_text word (codes "CARDS") then Some verb.Cards
    else if same_text word (codes "CHANGES") then Some verb.Changes
    else if same_text word (codes "FIND") then Some verb.Find
    else if same_text word (codes "IMAGE") then Some verb.Image
    else if same_text word (codes "LIST") then Some verb.List
    else if same_text word (codes "MAP") then Some verb.Map
    else if same_text word (codes "ERRORS") then Some verb.Errors
    else if same_text word (codes "SYMBOLS") then Some verb.Symbols
    else if same_text word (codes "STATUS") then Some verb.Status
    else if same_text word (codes "WAIT") then Some verb.Wait
    else if same_text word (codes "BATCH") then Some verb.Batch
    else if same_text word (codes "PUT") then Some verb.Put
    else if same_text word (codes "UNDO") then Some verb.Undo
    else if same_text word (codes "HELLO") then Some verb.Hello
    else if same_text word (codes "HELP") then Some verb.Help
    else if same_text word (codes "BYE") then Some verb.Bye
    else None

-- a verb, or else another
abbrev pub verb_or : Option Verb → Option Verb → Option Verb
verb_or (Some verb) other = Some verb
verb_or None other = other

-- an edit, or else something else
abbrev pub edit_or : Option EditKind → Option Verb → Option Verb
edit_or (Some kind) other = Some (verb.Edit kind)
edit_or None other = other

-- what a word asks for
abbrev pub verb_of : List ℕ → Option Verb
verb_of word = edit_or (edit_kind_of word) (verb_or (file_verb_of word) (other_verb_of word))
