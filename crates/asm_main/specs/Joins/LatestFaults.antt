-- The error of the latest call that failed (ours).
use Rattle.std.specs.Prelude.{Option, Some, Result, Ok, Err}

-- that of a call, or else that of the calls before it
abbrev pub latest_fault : {T E : Type 0} → Option E → Result T E → Option E
latest_fault before (Ok value) = before
latest_fault before (Err error) = Some error
