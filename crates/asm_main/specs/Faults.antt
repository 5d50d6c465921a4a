-- The texts of faults (ours).
use Rattle.std.specs.Prelude.{ℕ, List, ◌++◌, codes, decimal}
use Rattle.cards.specs.CardReads.{card_fault_text}
use Rattle.asm_main.specs.declared.asm_fault.AsmFault.{AsmFault}
use Rattle.asm_main.specs.declared.asm_fault.AsmFault.TheVariants as asm

-- the name, and the numbers, each after one blank
abbrev pub fault_text : AsmFault → List ℕ
fault_text asm.OutOfMemory = codes "OutOfMemory"
fault_text asm.DeckFull = codes "DeckFull"
fault_text asm.NameTaken = codes "NameTaken"
fault_text asm.TooManyDecks = codes "TooManyDecks"
fault_text asm.ReadFault = codes "ReadFault"
fault_text (asm.BadLine line fault) = codes "BadLine " ++ (decimal line ++ (codes " " ++ card_fault_text fault))
fault_text asm.LastLineCut = codes "LastLineCut"
fault_text (asm.WriteFault sent) = codes "WriteFault " ++ decimal sent
fault_text (asm.BadName line) = codes "BadName " ++ decimal line
