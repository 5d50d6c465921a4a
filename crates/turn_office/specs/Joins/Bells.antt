-- The bells of an office, on which those who wait for their turn sleep (ours).
use Rattle.std.specs.Prelude.{ℕ, ◌+◌, ◌%◌, ◌<◌, ◌≤◌}
use Rattle.turn_office.specs.declared.bells.TheConstants.{BELLS, FIRST_BELL, WORDS}

-- how many seats an office has at most, and so how many tickets are out at the same time
abbrev pub most_seats : ℕ
most_seats = 64

-- two tickets that may be out at the same time
abbrev pub AreOutTogether : ℕ → ℕ → Type 0
AreOutTogether t other = (t < other + most_seats) × (other < t + most_seats)

-- the word is a bell
abbrev pub IsBell : ℕ → Type 0
IsBell word = (FIRST_BELL ≤ word) × (word < WORDS)

-- the bell of a ticket
abbrev pub bell_of : ℕ → ℕ
bell_of ticket = FIRST_BELL + ticket % BELLS
