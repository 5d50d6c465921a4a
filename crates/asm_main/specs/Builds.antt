-- What a run writes, counts and says: the build of the decks of its input (ours).
use Rattle.std.specs.{Prelude.{ℕ, ◌≡◌, ◌<◌, ⊤, List, [], ◌++◌, Option, Result, Ok, Err, length, take, codes, IfSome}, Io.KnownBytes.{Appends, Keeps}}
use Rattle.definitions.specs.{Answer.{Answer, answer_of}, Build.{Build, build_of}, DeckInput.Deck, Listing.line}
use Rattle.asm_main.specs.{Faults.fault_text, Inputs.{input_in, AreDecksOf, input_fault}, Runs.run_status, declared.asm_fault.AsmFault.AsmFault, declared.asm_fault.AsmFault.TheVariants.{OutOfMemory, DeckFull, NameTaken, TooManyDecks, ReadFault, BadLine, LastLineCut, WriteFault, BadName}, declared.running.Tally.Tally}

-- the count of a build
abbrev pub Counts : Build → Tally → Type 0
Counts build tally = (tally.errors ≡ build.errors) × (tally.links ≡ build.links)

-- the decks of the input, where its bytes are known, were built, and all of that went out
pub record IsBuilt (bytes old new : Option (List ℕ)) (tally : Tally) : Type 0 where
  pub decks : List Deck
  pub found : IfSome bytes (λ b. AreDecksOf (input_in b) decks)
  pub output : Appends old new (build_of decks).text
  pub counts : Counts (build_of decks) tally

-- so much of it went out, and not all
pub record IsPartBuilt (bytes old new : Option (List ℕ)) (sent : ℕ) : Type 0 where
  pub decks : List Deck
  pub found : IfSome bytes (λ b. AreDecksOf (input_in b) decks)
  pub part : sent < length (build_of decks).text
  pub output : Appends old new (take sent (build_of decks).text)

-- what went out before a fault: part of the build where the writer failed, else nothing
abbrev pub IsOutputAfter : Option (List ℕ) → Option (List ℕ) → Option (List ℕ) → AsmFault → Type 0
IsOutputAfter bytes old new OutOfMemory = Keeps old new
IsOutputAfter bytes old new DeckFull = Keeps old new
IsOutputAfter bytes old new NameTaken = Keeps old new
IsOutputAfter bytes old new TooManyDecks = Keeps old new
IsOutputAfter bytes old new ReadFault = Keeps old new
IsOutputAfter bytes old new (BadLine number fault) = Keeps old new
IsOutputAfter bytes old new LastLineCut = Keeps old new
IsOutputAfter bytes old new (WriteFault sent) = IsPartBuilt bytes old new sent
IsOutputAfter bytes old new (BadName number) = Keeps old new

-- what a run wrote, by how it ended: the build, or what went out before the fault
abbrev pub IsWrittenAfter : Result Tally AsmFault → Option (List ℕ) → Option (List ℕ) → Option (List ℕ) → Type 0
IsWrittenAfter (Ok tally) bytes old new = IsBuilt bytes old new tally
IsWrittenAfter (Err fault) bytes old new = IsOutputAfter bytes old new fault

-- a run that ended well gave this answer
pub record Gives (answer : Answer) (old new : Option (List ℕ)) (tally : Tally) : Type 0 where
  pub output : Appends old new answer.output
  pub message : answer.message ≡ []
  pub status : run_status (Ok tally) ≡ answer.status

-- a run that reported a fault of the input reported this answer
pub record Tells (answer : Answer) (fault : AsmFault) : Type 0 where
  pub output : answer.output ≡ []
  pub message : answer.message ≡ line (codes "compass: " ++ fault_text fault)
  pub status : answer.status ≡ 3

-- where the fault is one of the input, it reported this answer
abbrev pub IsToldBy : Answer → AsmFault → Type 0
IsToldBy answer fault = IfSome (input_fault fault) (λ told. Tells answer fault)

-- where the bytes of the input are known, the fault reported their answer
abbrev pub IsToldOf : Option (List ℕ) → AsmFault → Type 0
IsToldOf bytes fault = IfSome bytes (λ all. IsToldBy (answer_of all) fault)

-- what of an answer went out before a fault: so much where the writer failed
abbrev pub IsPartOf : Answer → Option (List ℕ) → Option (List ℕ) → AsmFault → Type 0
IsPartOf answer old new (WriteFault sent) = (sent < length answer.output) × Appends old new (take sent answer.output)
IsPartOf answer old new fault = ⊤

-- where the bytes of the input are known, so much of their answer went out before the fault
abbrev pub IsPartFor : Option (List ℕ) → Option (List ℕ) → Option (List ℕ) → AsmFault → Type 0
IsPartFor bytes old new fault = IfSome bytes (λ all. IsPartOf (answer_of all) old new fault)
