-- The texts of refusals (ours): the name, then the numbers in decimal, or the word, each after one blank.
use Rattle.std.specs.Prelude.{ℕ, List, ◌++◌, codes, decimal}
use Rattle.cards.specs.{CardReads.card_fault_text, declared.edits.EditFault.EditFault}
use Rattle.cards.specs.declared.edits.EditFault.TheVariants as fault
use Rattle.session_commands.specs.{declared.refusals.Refusal.Refusal, UnknownWords.text_of_word}
use Rattle.session_commands.specs.declared.refusals.Refusal.TheVariants as refusal

-- the text of an edit's fault
abbrev pub edit_fault_text : EditFault → List ℕ
edit_fault_text fault.NoSuchCard = codes "NoSuchCard"
edit_fault_text fault.DeckFull = codes "DeckFull"

-- the text of a refusal; behind the number of a line or an edit stands the text of its fault
abbrev pub refusal_text : Refusal → List ℕ
refusal_text refusal.OutOfMemory = codes "OutOfMemory"
refusal_text (refusal.BadCard fault) = card_fault_text fault
refusal_text refusal.NoSuchCard = codes "NoSuchCard"
refusal_text refusal.DeckFull = codes "DeckFull"
refusal_text refusal.Spent = codes "Spent"
refusal_text refusal.NameTaken = codes "NameTaken"
refusal_text refusal.NoDeck = codes "NoDeck"
refusal_text (refusal.OldVersion current) = codes "OldVersion " ++ decimal current
refusal_text refusal.TooManyDecks = codes "TooManyDecks"
refusal_text refusal.UnknownJob = codes "UnknownJob"
refusal_text (refusal.Stale current) = codes "Stale " ++ decimal current
refusal_text refusal.Foreign = codes "Foreign"
refusal_text refusal.NoPublication = codes "NoPublication"
refusal_text refusal.VersionsSpent = codes "VersionsSpent"
refusal_text refusal.ReadFault = codes "ReadFault"
refusal_text (refusal.BadLine line fault) = codes "BadLine " ++ (decimal line ++ (codes " " ++ card_fault_text fault))
refusal_text refusal.LastLineCut = codes "LastLineCut"
refusal_text (refusal.WriteFault sent) = codes "WriteFault " ++ decimal sent
refusal_text refusal.CannotOpen = codes "CannotOpen"
refusal_text refusal.BadCommand = codes "BadCommand"
refusal_text (refusal.UnknownCommand word) = codes "UnknownCommand " ++ text_of_word word
refusal_text refusal.BadName = codes "BadName"
refusal_text refusal.SeatsOut = codes "SeatsOut"
refusal_text (refusal.BadEdit number fault) = codes "BadEdit " ++ (decimal number ++ (codes " " ++ edit_fault_text fault))
refusal_text refusal.BatchSize = codes "BatchSize"
refusal_text refusal.FileExists = codes "FileExists"
refusal_text refusal.Busy = codes "Busy"
refusal_text refusal.NotKept = codes "NotKept"
refusal_text (refusal.Forgotten oldest) = codes "Forgotten " ++ decimal oldest
refusal_text refusal.NoChange = codes "NoChange"
refusal_text refusal.ReadOnly = codes "ReadOnly"
refusal_text (refusal.Touched card version) = codes "Touched " ++ (decimal card ++ (codes " " ++ decimal version))
