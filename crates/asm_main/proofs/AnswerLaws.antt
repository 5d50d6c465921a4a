-- The answers of the definitions, and those of a run.
use Rattle.std.{proofs.Common.{ℕ, ◌≡◌, ◌<◌, ◌^◌, List, [], ◌∷◌, ◌++◌, refl, sym, ap, ◌∙◌, arith, subst, Option, None, Some, IfSome}, specs.Prelude.{codes, decimal}}
use Rattle.definitions.specs.{Answer.{Answer, answer_to, answer_of, built}, Build.build_of, DeckInput.{Deck, Input, Decks, Faulty, InputFault, in_input_order}, Listing.line, Numerals.decimal_of}
use Rattle.definitions.specs.Answer as answers
use Rattle.definitions.specs.DeckInput as input
use Rattle.text_ports.proofs.Decimals.{decimal-same}
use Rattle.cards.specs.declared.card.CardFault.{CardFault}
use Rattle.cards.specs.declared.card.CardFault.TheVariants as card
use Rattle.asm_main.specs.{declared.asm_fault.AsmFault.AsmFault, declared.asm_fault.AsmFault.TheVariants.{OutOfMemory, DeckFull, NameTaken, TooManyDecks, ReadFault, BadLine, LastLineCut, WriteFault, BadName}, Builds.{Tells, IsToldBy}, Faults.fault_text, Inputs.{input_in, AreDecksOf, bad_line, AreSmall, IsSmallColumn, TellsFaultOf}}

-- decks that an input is are built
pub answered : (found : Input) (decks : List Deck) → AreDecksOf found decks → answer_to found ≡ built (build_of decks)
answered (Decks found) decks are = ap (λ (d : List Deck). built (build_of d)) (sym are)
answered (Faulty fault) decks are = absurd are

-- a number, and the texts around it
numbered : (front : List ℕ) (n : ℕ) (rest : List ℕ) → n < 2 ^ 64 → front ++ (decimal_of n ++ rest) ≡ front ++ (decimal n ++ rest)
numbered front n rest small = ap (λ (l : List ℕ). front ++ (l ++ rest)) (decimal-same n small)

-- the answer to a fault of the input
answer-faulty : (told : InputFault) (text : List ℕ) → answers.fault_text told ≡ text → (fault : AsmFault) → fault_text fault ≡ text → Tells (answer_to (Faulty told)) fault
answer-faulty told text e fault f = record { output = refl; message = ap (λ (l : List ℕ). line (codes "compass: " ++ l)) (e ∙ sym f); status = refl }

-- the answer to an input with this fault shows it
tells : (found : Input) (told : InputFault) (fault : AsmFault) → found ≡ Faulty told → answers.fault_text told ≡ fault_text fault → Tells (answer_to found) fault
tells found told fault e text = subst (λ (i : Input). Tells (answer_to i) fault) (sym e) (answer-faulty told (fault_text fault) text fault refl)

-- the same for what is wrong with a line
line-told : (found : Input) (number : ℕ) (fault : CardFault) → number < 2 ^ 64 → IsSmallColumn fault → found ≡ Faulty (bad_line number fault) → Tells (answer_to found) (BadLine number fault)
line-told found number card.TooWide small few e = tells found (input.BadLineTooWide number) (BadLine number card.TooWide) e (numbered (codes "BadLine ") number (codes " TooWide") small)
line-told found number (card.BadCharacter column) small few e =
    tells found (input.BadLineBadCharacter number column) (BadLine number (card.BadCharacter column)) e
    (numbered (codes "BadLine ") number (codes " BadCharacter " ++ decimal_of column) small
    ∙ ap (λ (l : List ℕ). codes "BadLine " ++ (decimal number ++ (codes " BadCharacter " ++ l))) (decimal-same column few))

-- a fault of the input is reported by the answer
pub told-by : (bytes : List ℕ) (fault : AsmFault) → AreSmall fault → TellsFaultOf (input_in bytes) fault → IsToldBy (answer_of bytes) fault
told-by bytes OutOfMemory small is = tt
told-by bytes DeckFull small is = tells (input_in bytes) input.DeckFull DeckFull is refl
told-by bytes NameTaken small is = tells (input_in bytes) input.NameTaken NameTaken is refl
told-by bytes TooManyDecks small is = tells (input_in bytes) input.TooManyDecks TooManyDecks is refl
told-by bytes ReadFault small is = tt
told-by bytes (BadLine number fault) small is = line-told (input_in bytes) number fault small.0 small.1 is
told-by bytes LastLineCut small is = tells (input_in bytes) input.LastLineCut LastLineCut is refl
told-by bytes (WriteFault sent) small is = tt
told-by bytes (BadName number) small is = tells (input_in bytes) (input.BadName number) (BadName number) is (ap (λ (l : List ℕ). codes "BadName " ++ l) (decimal-same number small))

-- the same where the bytes may be unknown
pub told-where : (bytes : Option (List ℕ)) (fault : AsmFault) → AreSmall fault → IfSome bytes (λ b. TellsFaultOf (input_in b) fault) → IfSome bytes (λ b. IsToldBy (answer_of b) fault)
told-where None fault small is = tt
told-where (Some bytes) fault small is = told-by bytes fault small is
