-- How long a client may keep a session waiting (ours). All times are in nanoseconds.
use Rattle.std.specs.{Prelude.{ℕ, ◌+◌, ◌-◌, ◌==◌, Bool, List, Option, None, Some, length, min, slice_get, if◌then◌else◌}, Duration.max_nanos, List.list_any}
use Rattle.definitions.specs.Characters.{line_feed}

-- how long the reads of the rest of a line may take together: half a minute
abbrev pub line_nanos : ℕ
line_nanos = 30000000000

-- how long a read may wait: inside a line, whose reads have taken so long, what is left of the half minute; where no line is begun as long as a client may be idle
abbrev pub wait_for : Option ℕ → ℕ → ℕ
wait_for (Some spent) idle = line_nanos - spent
wait_for None idle = idle

-- how long the reads of a line have taken behind one that took so long and read no line feed: the read that the line begins in does not count
abbrev pub spent_within : ℕ → Option ℕ → Option ℕ
spent_within took None = Some 0
spent_within took (Some spent) = Some (min (spent + took) max_nanos)

-- the same behind a read with this last byte, if it read any, and with a line feed or none: a line feed at its end ends a line and begins none, and one before its end ends a line and begins another
abbrev pub spent_by : Option ℕ → Bool → ℕ → Option ℕ → Option ℕ
spent_by None has_end took spent = spent
spent_by (Some last) has_end took spent = if last == line_feed then None else if has_end then Some 0 else spent_within took spent

-- the same behind a read of these bytes
abbrev pub spent_behind : List ℕ → ℕ → Option ℕ → Option ℕ
spent_behind bytes took spent = spent_by (slice_get bytes (length bytes - 1)) (list_any (λ c. c == line_feed) bytes) took spent
