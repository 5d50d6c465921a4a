-- Ports that count their faults (ours).
use Rattle.std.specs.{Prelude.{ℕ, ◌+◌, ◌-◌, ◌^◌, ◌<◌, ◌≤◌, min, List, [], ◌∷◌, ◌++◌, Bool, true, false, Option, None, Some, length, take}, Io.KnownBytes.{Appends, Consumes, IsAtEnd, Keeps}}
use Rattle.text_ports.specs.{declared.counted.ByteIs.ByteIs, Lines.{line_feed, IsUnbroken}, declared.held_lines.HeldIs.HeldIs, declared.lines.LineIs.LineIs}
use Rattle.text_ports.specs.declared.counted.ByteIs.TheVariants as byte
use Rattle.text_ports.specs.declared.held_lines.HeldIs.TheVariants as held
use Rattle.text_ports.specs.declared.lines.LineIs.TheVariants as line

-- one fault more; the count stays at its greatest value
abbrev pub count_up : ℕ → ℕ
count_up faults = min (faults + 1) (2 ^ 64 - 1)

-- the count rises exactly at a fault
abbrev pub count_after_read : ByteIs → ℕ → ℕ
count_after_read (byte.Byte b) faults = faults
count_after_read byte.End faults = faults
count_after_read byte.Fault faults = count_up faults

abbrev pub count_after_write : Option ℕ → ℕ → ℕ
count_after_write (Some taken) faults = faults
count_after_write None faults = count_up faults

abbrev pub count_after_flush : Bool → ℕ → ℕ
count_after_flush true faults = faults
count_after_flush false faults = count_up faults

abbrev pub count_after_line : LineIs → ℕ → ℕ
count_after_line line.Line faults = faults
count_after_line line.End faults = faults
count_after_line line.Cut faults = faults
count_after_line line.TooLong faults = faults
count_after_line line.Fault faults = count_up faults

-- what a reader loses when it is asked for one byte
abbrev pub GivesByte : Option (List ℕ) → Option (List ℕ) → ByteIs → Type 0
GivesByte old new (byte.Byte b) = Consumes old new (b ∷ [])
GivesByte old new byte.End = Consumes old new [] × IsAtEnd new
GivesByte old new byte.Fault = Consumes old new []

-- what a reader loses of what it holds: a line with its line feed, or nothing
abbrev pub TakesHeld : Option (List ℕ) → Option (List ℕ) → HeldIs → List ℕ → Type 0
TakesHeld old new held.Line line = Consumes old new (line ++ line_feed ∷ []) × IsUnbroken line × (length line ≤ 256)
TakesHeld old new held.Other line = Consumes old new []
TakesHeld old new held.Fault line = Consumes old new []

-- the count rises exactly at a fault
abbrev pub count_after_held : HeldIs → ℕ → ℕ
count_after_held held.Line faults = faults
count_after_held held.Other faults = faults
count_after_held held.Fault faults = count_up faults

-- what a writer gains when it is offered bytes: at least one of them, or nothing at a fault
abbrev pub Takes : Option (List ℕ) → Option (List ℕ) → Option ℕ → List ℕ → Type 0
Takes old new (Some taken) bytes = (0 < taken) × (taken ≤ length bytes) × Appends old new (take taken bytes)
Takes old new None bytes = Keeps old new
