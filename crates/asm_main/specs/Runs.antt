-- What a run does to its ports, and its status (ours).
use Rattle.std.specs.{Prelude.{ℕ, ◌==◌, ◌&&◌, if◌then◌else◌, List, Option, Result, Ok, Err, ⊤}, Io.KnownBytes.IsAtEnd}
use Rattle.text_ports.specs.Faults.{count_up}
use Rattle.asm_main.specs.declared.{asm_fault.AsmFault.AsmFault, asm_fault.AsmFault.TheVariants.{OutOfMemory, DeckFull, NameTaken, TooManyDecks, ReadFault, BadLine, LastLineCut, WriteFault, BadName}, running.Tally.Tally}

-- the fault came before anything was written
abbrev pub IsBeforeWriting : AsmFault → Type 0
IsBeforeWriting OutOfMemory = ⊤
IsBeforeWriting DeckFull = ⊤
IsBeforeWriting NameTaken = ⊤
IsBeforeWriting TooManyDecks = ⊤
IsBeforeWriting ReadFault = ⊤
IsBeforeWriting (BadLine line fault) = ⊤
IsBeforeWriting LastLineCut = ⊤
IsBeforeWriting (WriteFault sent) = ⊥
IsBeforeWriting (BadName line) = ⊤

-- before a fault of the writer, all was read
abbrev pub IsReadBeforeFault : AsmFault → Option (List ℕ) → Type 0
IsReadBeforeFault OutOfMemory left = ⊤
IsReadBeforeFault DeckFull left = ⊤
IsReadBeforeFault NameTaken left = ⊤
IsReadBeforeFault TooManyDecks left = ⊤
IsReadBeforeFault ReadFault left = ⊤
IsReadBeforeFault (BadLine line fault) left = ⊤
IsReadBeforeFault LastLineCut left = ⊤
IsReadBeforeFault (WriteFault sent) left = IsAtEnd left
IsReadBeforeFault (BadName line) left = ⊤

-- where anything was to be written, all was read
abbrev pub IsReadBefore : Result Tally AsmFault → Option (List ℕ) → Type 0
IsReadBefore (Ok tally) left = IsAtEnd left
IsReadBefore (Err fault) left = IsReadBeforeFault fault left

-- the reader's count of faults after the fault: one more where the reader failed
abbrev pub input_count_after : AsmFault → ℕ → ℕ
input_count_after OutOfMemory count = count
input_count_after DeckFull count = count
input_count_after NameTaken count = count
input_count_after TooManyDecks count = count
input_count_after ReadFault count = count_up count
input_count_after (BadLine line fault) count = count
input_count_after LastLineCut count = count
input_count_after (WriteFault sent) count = count
input_count_after (BadName line) count = count

-- the writer's count of faults after the fault: one more where the writer failed
abbrev pub output_count_after : AsmFault → ℕ → ℕ
output_count_after OutOfMemory count = count
output_count_after DeckFull count = count
output_count_after NameTaken count = count
output_count_after TooManyDecks count = count
output_count_after ReadFault count = count
output_count_after (BadLine line fault) count = count
output_count_after LastLineCut count = count
output_count_after (WriteFault sent) count = count_up count
output_count_after (BadName line) count = count

-- the counts behind a run: a fault of a port is reported only where that port failed
abbrev pub input_count_behind : Result Tally AsmFault → ℕ → ℕ
input_count_behind (Ok tally) count = count
input_count_behind (Err fault) count = input_count_after fault count

abbrev pub output_count_behind : Result Tally AsmFault → ℕ → ℕ
output_count_behind (Ok tally) count = count
output_count_behind (Err fault) count = output_count_after fault count

-- the exit status after a fault: 4 where no memory was left, 5 where the writer failed, 3 at any fault of the input
abbrev pub fault_status : AsmFault → ℕ
fault_status OutOfMemory = 4
fault_status DeckFull = 3
fault_status NameTaken = 3
fault_status TooManyDecks = 3
fault_status ReadFault = 3
fault_status (BadLine line fault) = 3
fault_status LastLineCut = 3
fault_status (WriteFault sent) = 5
fault_status (BadName line) = 3

-- the exit status: 0 where nothing is flagged and the map has no LINK line
abbrev pub run_status : Result Tally AsmFault → ℕ
run_status (Ok tally) = if (tally.errors == 0) && (tally.links == 0) then 0 else 1
run_status (Err fault) = fault_status fault
