-- What the calls of whoever answers for a desk make of it (ours): each relation has who answers before, what is asked, what is answered, and who answers after.
use Rattle.std.specs.Prelude.{ℕ, ◌≡◌, List, codes}
use Rattle.turn_office.specs.{Histories.Answers, Seats.{OfficeFacts, SeatFacts}}
use Rattle.desk_core.specs.{Desks.Desk, Steps.Steps, declared.calls.{Change.Change, Question.Question, Question.TheVariants.Status, Call.Call}, declared.calls.Call.TheVariants.{Make, Ask}, declared.replies.Reply.Reply}
use Rattle.session_line.specs.{declared.greetings.Greeting.Greeting, Greetings.MeetsAlone}

pub record DeskRelations (C : Type 0) : Type 1 where
  -- a change, and the reply
  pub changes : C → Change → Reply → C → Type 0
  -- a question, and the reply
  pub asks : C → Question → Reply → C → Type 0
  -- the version that a session waits for, and the reply
  pub awaits : C → ℕ → Reply → C → Type 0
  -- the name that a session gives, and what it is answered
  pub greets : C → List ℕ → Greeting → C → Type 0
  -- a session begins: nothing is asked and nothing answered
  pub begins : C → C → Type 0

-- the call that makes a change of who has given no name
abbrev pub unnamed : Change → Call
unnamed change = Make (codes "0") change

-- those of who is called for a desk and knows of no session, by what one call makes: it keeps no names, and nobody is heard who publishes while a session waits, so that is answered at once
abbrev pub alone : {C : Type 0} → (C → Call → Reply → C → Type 0) → DeskRelations C
alone makes = record {
  changes = λ old change reply new. makes old (unnamed change) reply new;
  asks = λ old question reply new. makes old (Ask question) reply new;
  awaits = λ old version reply new. makes old (Ask Status) reply new;
  greets = λ old name greeting new. MeetsAlone makes old greeting new;
  begins = λ old new. new ≡ old;
}

-- one call from a seat: office and seat stay, and the reply is the desk's at one point of one legal history, which begins with all that the seat had seen and ends with the call
abbrev pub AsksSeat : OfficeFacts Desk → SeatFacts Call Reply → Call → Reply → OfficeFacts Desk → SeatFacts Call Reply → Type 0
AsksSeat office seat call reply office_after seat_after =
    (office_after ≡ office) × (seat_after.office ≡ seat.office) × (seat_after.number ≡ seat.number) × Answers Steps office.seats office.first seat.number call reply seat.seen seat_after.seen

-- what one call of who has a seat of an office makes
abbrev pub asks_seat : {C : Type 0} → (C → OfficeFacts Desk) → (C → SeatFacts Call Reply) → C → Call → Reply → C → Type 0
asks_seat office seat old call reply new = AsksSeat (office old) (seat old) call reply (office new) (seat new)
