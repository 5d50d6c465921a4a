-- What loading a file takes from its reader (ours).
use Rattle.std.specs.{Prelude.{ℕ, ◌≡◌, ◌≤◌, ⊤, List, ◌++◌, Option, Result, Ok, Err, IsOk, length}, Io.KnownBytes.{Consumes, IsAtEnd}}
use Rattle.definitions.specs.{Cards.Card, InputLines.lines_of}
use Rattle.text_ports.specs.Faults.{count_up}
use Rattle.deck_files.specs.{declared.load_fault.LoadFault.LoadFault, declared.load_fault.LoadFault.TheVariants.{ReadFault, BadLine, LastLineCut, DeckFull, OutOfMemory}, DeckFiles.cards_of_file, FileSums.sum_of, declared.file_sums.FileSum.FileSum}

-- the reader gave a whole file, which is this
abbrev pub GaveFile : Option (List ℕ) → Option (List ℕ) → Result (List Card) LoadFault → Type 0
GaveFile old new read = (file : List ℕ) × Consumes old new file × IsAtEnd new × (cards_of_file file ≡ read)

-- the reader gave the beginning of a file whose first fault this is, whatever follows
abbrev pub GaveFault : Option (List ℕ) → Option (List ℕ) → LoadFault → Type 0
GaveFault old new fault = (front : List ℕ) × Consumes old new front × ((rest : List ℕ) → cards_of_file (front ++ rest) ≡ Err fault)

-- the reader gave whole lines, each of which shows a card, and then the beginning of at most one line
pub record GaveCards (old new : Option (List ℕ)) : Type 0 where
  pub front : List ℕ
  pub line : List ℕ
  pub consumed : Consumes old new (front ++ line)
  pub cards : IsOk (cards_of_file front)
  pub one : length (lines_of line) ≤ 1

-- all was read, and the file has these cards
abbrev pub LoadsCards : Option (List ℕ) → Option (List ℕ) → List Card → Type 0
LoadsCards old new cards = GaveFile old new (Ok cards)

-- the same, and this is the sum of the file
abbrev pub LoadsSummed : Option (List ℕ) → Option (List ℕ) → List Card → FileSum → Type 0
LoadsSummed old new cards sum = (file : List ℕ) × Consumes old new file × IsAtEnd new × (cards_of_file file ≡ Ok cards) × (sum ≡ sum_of file)

-- what each fault says of the file
abbrev pub LoadsFault : LoadFault → Option (List ℕ) → Option (List ℕ) → Type 0
LoadsFault ReadFault old new = GaveCards old new
LoadsFault (BadLine line fault) old new = GaveFault old new (BadLine line fault)
LoadsFault LastLineCut old new = GaveFile old new (Err LastLineCut)
LoadsFault DeckFull old new = GaveFault old new DeckFull
LoadsFault OutOfMemory old new = (file : List ℕ) × Consumes old new file × IsOk (cards_of_file file)

-- the fault is that of a whole line; want of memory comes only where the line shows a card
abbrev pub IsFaultOf : LoadFault → Result Card LoadFault → Type 0
IsFaultOf ReadFault read = ⊥
IsFaultOf (BadLine line fault) read = read ≡ Err (BadLine line fault)
IsFaultOf LastLineCut read = ⊥
IsFaultOf DeckFull read = read ≡ Err DeckFull
IsFaultOf OutOfMemory read = IsOk read

-- the count of faults rises where the reader failed
abbrev pub count_after_load : LoadFault → ℕ → ℕ
count_after_load ReadFault faults = count_up faults
count_after_load (BadLine line fault) faults = faults
count_after_load LastLineCut faults = faults
count_after_load DeckFull faults = faults
count_after_load OutOfMemory faults = faults

-- a file whose bytes are known is refused with this fault
abbrev pub FaultsSo : LoadFault → List ℕ → Type 0
FaultsSo ReadFault file = ⊤
FaultsSo (BadLine line fault) file = cards_of_file file ≡ Err (BadLine line fault)
FaultsSo LastLineCut file = cards_of_file file ≡ Err LastLineCut
FaultsSo DeckFull file = cards_of_file file ≡ Err DeckFull
FaultsSo OutOfMemory file = ⊤
