-- The texts of faults in files (ours).
use Rattle.std.specs.Prelude.{ℕ, List, ◌++◌, codes, decimal}
use Rattle.cards.specs.CardReads.{card_fault_text}
use Rattle.deck_files.specs.declared.load_fault.LoadFault.{LoadFault, TheVariants.{ReadFault, BadLine, LastLineCut, DeckFull, OutOfMemory}}

-- the name, and the line and the fault of its card, each after one blank
abbrev pub load_fault_text : LoadFault → List ℕ
load_fault_text ReadFault = codes "ReadFault"
load_fault_text (BadLine line fault) = codes "BadLine " ++ (decimal line ++ (codes " " ++ card_fault_text fault))
load_fault_text LastLineCut = codes "LastLineCut"
load_fault_text DeckFull = codes "DeckFull"
load_fault_text OutOfMemory = codes "OutOfMemory"
