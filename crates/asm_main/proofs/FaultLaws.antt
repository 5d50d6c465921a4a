-- What the faults of a step show of the input and of the ports.
use Rattle.std.proofs.Common.{ℕ, ◌≡◌, refl}
use Rattle.definitions.specs.DeckInput.{Input}
use Rattle.asm_main.specs.{declared.asm_fault.AsmFault.AsmFault, declared.asm_fault.AsmFault.TheVariants.{OutOfMemory, DeckFull, NameTaken, TooManyDecks, ReadFault, BadLine, LastLineCut, WriteFault, BadName}, Inputs.{IsFaultOf, cut_fault}, Runs.{IsBeforeWriting, input_count_after}}
use Rattle.deck_cuts.specs.Cuts.{IsFaultOf as IsCutFaultOf}
use Rattle.deck_cuts.specs.declared.cut_fault.CutFault.{CutFault}
use Rattle.deck_cuts.specs.declared.cut_fault.CutFault.TheVariants as cut

-- a fault of the cut is that of the run
pub IsFaultOf-cut : (input : Input) (fault : CutFault) → IsCutFaultOf input fault → IsFaultOf input (cut_fault fault)
IsFaultOf-cut input cut.OutOfMemory h = (refl, h)
IsFaultOf-cut input cut.DeckFull h = h
IsFaultOf-cut input cut.NameTaken h = h
IsFaultOf-cut input cut.TooManyDecks h = h
IsFaultOf-cut input (cut.BadName number) h = h

-- no reader failed
pub IsFaultOf-count : (input : Input) (fault : AsmFault) (count : ℕ) → IsFaultOf input fault → input_count_after fault count ≡ count
IsFaultOf-count input OutOfMemory count h = refl
IsFaultOf-count input DeckFull count h = refl
IsFaultOf-count input NameTaken count h = refl
IsFaultOf-count input TooManyDecks count h = refl
IsFaultOf-count input ReadFault count h = let other = h.0 in cc
IsFaultOf-count input (BadLine line fault) count h = refl
IsFaultOf-count input LastLineCut count h = refl
IsFaultOf-count input (WriteFault sent) count h = refl
IsFaultOf-count input (BadName line) count h = refl

-- nothing was written
pub IsFaultOf-before_writing : (input : Input) (fault : AsmFault) → IsFaultOf input fault → IsBeforeWriting fault
IsFaultOf-before_writing input OutOfMemory h = tt
IsFaultOf-before_writing input DeckFull h = tt
IsFaultOf-before_writing input NameTaken h = tt
IsFaultOf-before_writing input TooManyDecks h = tt
IsFaultOf-before_writing input ReadFault h = tt
IsFaultOf-before_writing input (BadLine line fault) h = tt
IsFaultOf-before_writing input LastLineCut h = tt
IsFaultOf-before_writing input (WriteFault sent) h = let other = h.0 in cc
IsFaultOf-before_writing input (BadName line) h = tt
