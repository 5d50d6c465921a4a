-- The publications of a service (ours): the latest that was delivered.
use Rattle.std.specs.Prelude.{ℕ, Option, Some, None, max}

-- the latest version that was delivered, once this one was, too: two deliveries may be shown in the other order
abbrev pub later_of : ℕ → Option ℕ → ℕ
later_of version (Some latest) = max latest version
later_of version None = version
