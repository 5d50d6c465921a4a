-- Bytes that go to a writer: all of them, or up to a fault (ours).
use Rattle.std.specs.{Prelude.{ℕ, ◌<◌, List, Option, Result, Ok, Err, length, take}, Io.KnownBytes.Appends}
use Rattle.text_ports.specs.{Faults.count_up, declared.writing.Broken.Broken}

-- all the bytes went out; or exactly the first `sent` of them, not all
abbrev pub Sends : {T : Type 0} → Option (List ℕ) → Option (List ℕ) → List ℕ → Result T Broken → Type 0
Sends old new bytes (Ok done) = Appends old new bytes
Sends old new bytes (Err broken) = (broken.sent < length bytes) × Appends old new (take broken.sent bytes)

-- the count of faults rises exactly at one
abbrev pub count_after_sending : {T : Type 0} → Result T Broken → ℕ → ℕ
count_after_sending (Ok done) faults = faults
count_after_sending (Err broken) faults = count_up faults
