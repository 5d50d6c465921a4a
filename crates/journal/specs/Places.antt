-- Where the reading of a journal is (ours): how many records were read, at which byte the next one begins, and how many bytes were read. The numbers stay at the greatest of 64 bits.
use Rattle.std.specs.Prelude.{ℕ, ◌+◌, ◌-◌, ◌^◌, min}
use Rattle.journal.specs.declared.places.Place.{Place}

-- a number, at most the greatest of 64 bits
abbrev pub capped : ℕ → ℕ
capped n = min n (2 ^ 64 - 1)

-- the place in front of a journal
abbrev pub at_start : Place
at_start = record { records = 0; begin = 0; bytes = 0 }

-- more bytes were read
abbrev pub advanced : ℕ → Place → Place
advanced count place = record place { bytes = capped (place.bytes + count) }

-- the bytes that were read end a record
abbrev pub behind_record : Place → Place
behind_record place = record place { records = capped (place.records + 1); begin = place.bytes }
