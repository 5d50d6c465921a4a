-- A command of a session that is refused changes nothing of a desk whose changes are kept, alone or at a seat.
use Rattle.std.proofs.Common.{ℕ, List, ◌∙◌}
use Rattle.deck_files.specs.ShelfRelations.{ShelfRelations}
use Rattle.turn_office.specs.Seats.{OfficeFacts, SeatFacts}
use Rattle.desk_core.{specs.Desks.Desk, specs.Steps.Steps, specs.declared.calls.Change.Change, specs.declared.calls.Question.{Question, TheVariants.Status}, specs.declared.calls.Call.Call, specs.declared.replies.Reply.Reply, specs.Runs.IsUnchanged, proofs.Outcomes.unchanged_itself, proofs.Publishing.{asked_leaves, refused_leaves}}
use Rattle.session_line.{specs.declared.greetings.Greeting.Greeting, specs.declared.rights.Rights.Rights, specs.DeskRelations.asks_seat, specs.Refusing.RefusesCommand, specs.Serving.Sides, proofs.RefusedCommands.{IsSteady, command-same}, proofs.SessionKinds.change_fits}
use Rattle.kept_desk.{specs.Doors.door_of, specs.EndsRelations.EndsRelations, specs.Greeting.{GreetsAmong, lacking, listed}, specs.Waiting.{SleepsOn, not_yet, once_more, AwaitsPublication, shown, time_up}, specs.Refused.ChangesNothing, proofs.RefusedChanges.{IsQuiet, stays-same, refused-same}, proofs.SeatSteps.seat-quiet}

module _ {C E S : Type 0} (makes : C → Call → Reply → C → Type 0) (IsSame : C → C → Type 0) (quiet : IsQuiet makes IsSame) (ends : EndsRelations E) (files : ShelfRelations S) where
  -- a session that sleeps between two questions
  asleep-same : (version : ℕ) (desk : C) (before : E) (last : C) (after : E) → SleepsOn makes ends.sleeps version desk before last after → IsSame desk last
  asleep-same version desk before _ _ not_yet = quiet.same desk
  asleep-same version desk before _ _ (once_more middle next between after so_far once) =
      quiet.joined desk middle next (asleep-same version desk before middle between so_far) (quiet.asked middle next Status once.reply once.asked)

  awaited-same : (version : ℕ) (desk : C) (before : E) (reply : Reply) (next : C) (after : E) → AwaitsPublication makes ends.sleeps version desk before reply next after → IsSame desk next
  awaited-same version desk before reply next after (shown middle so_far made there) =
      quiet.joined desk middle next (asleep-same version desk before middle after so_far) (quiet.asked middle next Status reply made)
  awaited-same version desk before reply next after (time_up middle last between so_far once made) =
      quiet.joined desk last next (quiet.joined desk middle last (asleep-same version desk before middle between so_far) (quiet.asked middle last Status once.reply once.asked)) (quiet.asked last next Status reply made)

  greeted-same : (name : List ℕ) (desk : C) (before : E) (greeting : Greeting) (next : C) (after : E) → GreetsAmong makes ends name desk before greeting next after → IsSame desk next
  greeted-same name desk before greeting next after (lacking told stays same) = stays-same makes IsSame quiet ends desk next stays
  greeted-same name desk before greeting next after (listed sessions between status lists asked names told) = quiet.asked desk next Status status asked

  door-steady : IsSteady (door_of makes ends) (λ (old new : C × E). IsSame old.0 new.0)
  door-steady = record {
    same = λ (desk : C × E). quiet.same desk.0;
    joined = λ (first second third : C × E). quiet.joined first.0 second.0 third.0;
    refused = λ (desk next : C × E) (change : Change) (reply : Reply) made is. refused-same makes IsSame quiet ends change desk next reply made is;
    asked = λ (desk next : C × E) (question : Question) (reply : Reply) made. quiet.asked desk.0 next.0 question reply made.0;
    awaited = λ (desk next : C × E) (version : ℕ) (reply : Reply) awaits. awaited-same version desk.0 desk.1 reply next.0 next.1 awaits;
    greeted = λ (desk next : C × E) (name : List ℕ) (greeting : Greeting) greets. greeted-same name desk.0 desk.1 greeting next.0 next.1 greets;
  }

  pub door-same : (rights : Rights) (old new : Sides (C × E) S) → RefusesCommand rights (door_of makes ends) files old new → IsSame old.desk.0 new.desk.0
  door-same rights old new is = command-same (door_of makes ends) files (λ (o n : C × E). IsSame o.0 n.0) door-steady rights old new is

joined-unchanged : (first second third : Desk) → IsUnchanged first second → IsUnchanged second third → IsUnchanged first third
joined-unchanged first second third one other = record { version = other.version ∙ one.version; decks = other.decks ∙ one.decks; publication = other.publication ∙ one.publication }

-- a desk that nobody shares
alone-quiet : IsQuiet Steps IsUnchanged
alone-quiet = record {
  same = unchanged_itself;
  joined = joined-unchanged;
  fits = change_fits;
  silent = refused_leaves;
  asked = λ (desk next : Desk) (question : Question) (reply : Reply) made. (asked_leaves desk next question reply made).unchanged;
}

pub command-unchanged : {E S : Type 0} (ends : EndsRelations E) (files : ShelfRelations S) (rights : Rights) (old new : Sides (Desk × E) S) → RefusesCommand rights (door_of Steps ends) files old new → IsUnchanged old.desk.0 new.desk.0
command-unchanged ends files rights old new is = door-same Steps IsUnchanged alone-quiet ends files rights old new is

pub seat-unchanged : {C E S : Type 0} (office : C → OfficeFacts Desk) (seat : C → SeatFacts Call Reply) (ends : EndsRelations E) (files : ShelfRelations S) (rights : Rights) (old new : Sides (C × E) S) →
    RefusesCommand rights (door_of (asks_seat office seat) ends) files old new → ChangesNothing (seat old.desk.0) (seat new.desk.0)
seat-unchanged {C} office seat ends files rights old new is =
    door-same (asks_seat office seat) (λ (o n : C). ChangesNothing (seat o) (seat n)) (seat-quiet office seat) ends files rights old new is
