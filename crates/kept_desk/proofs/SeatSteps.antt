-- What a call from a seat adds to what the seat has seen.
use Rattle.std.proofs.{Common.{◌≡◌, ℕ, ◌==◌, Bool, true, cond, List, [], ◌∷◌, ◌++◌, All, refl, sym, ap, subst, ◌∙◌, append_assoc, append-nil, eq-eqb}, lemmas.List.Elements.{All-nil, All-append, All-push, filter-append}}
use Rattle.turn_office.specs.{declared.history.Entry.Entry, Histories.{Answers, Leads, entry, entries_by}, Seats.{OfficeFacts, SeatFacts}}
use Rattle.desk_core.{specs.Desks.Desk, specs.Runs.History, specs.Steps.Steps, specs.declared.calls.Change.Change, specs.declared.calls.Question.Question, specs.declared.calls.Call.Call, specs.declared.calls.Call.TheVariants.{Make, Ask}, specs.declared.replies.Reply.Reply, proofs.Publishing.{asked_leaves, refused_leaves}}
use Rattle.session_line.{specs.DeskRelations.{AsksSeat, asks_seat}, specs.Joins.Kinds.fits_change, proofs.SessionKinds.change_fits}
use Rattle.kept_desk.{specs.Refused.{LeavesAll, ChangesNothing}, proofs.RefusedChanges.IsQuiet}

-- the last of steps
last-step : (first last : Desk) (before : History) (number : ℕ) (call : Call) (reply : Reply) → Leads Steps first (before ++ entry number call reply ∷ []) last → (desk : Desk) × Steps desk call reply last
last-step first last [] number call reply leads = (first, subst (λ (desk : Desk). Steps first call reply desk) leads.2 leads.1)
last-step first last (one ∷ before) number call reply leads = last-step leads.0 last before number call reply leads.2

-- a reply from a seat to a change fits it
reply-fits : (seats : ℕ) (first : Desk) (number : ℕ) (by : List ℕ) (change : Change) (reply : Reply) (seen now : History) → Answers Steps seats first number (Make by change) reply seen now → fits_change change reply ≡ true
reply-fits seats first number by change reply seen now answers =
    let last = answers.legal.last in
    let made = last-step first last (seen ++ answers.between) number (Make by change) reply (subst (λ (log : History). Leads Steps first log last) answers.ends answers.legal.leads) in
    change_fits made.0 last by change reply made.1

-- the entries of the seat are those of its call
own-entries : (number : ℕ) (call : Call) (reply : Reply) (between : History) → entries_by number between ≡ [] → entries_by number (between ++ entry number call reply ∷ []) ≡ entry number call reply ∷ []
own-entries number call reply between silent =
    let made : History = entry number call reply ∷ [] in
    filter-append (λ (e : Entry Call Reply). e.by == number) between made
    ∙ (ap (λ (log : History). log ++ entries_by number made) silent ∙ ap (λ (own : Bool). cond own (entry number call reply ∷ []) []) (eq-eqb number number refl))

-- no call
pub changes-none : (seat : SeatFacts Call Reply) → ChangesNothing seat seat
changes-none seat = record { same = refl; behind = []; seen = sym (append-nil seat.seen); left = All-nil LeavesAll }

-- one call that leaves the desk
pub changes-one : (office office_after : OfficeFacts Desk) (seat after : SeatFacts Call Reply) (call : Call) (reply : Reply) → AsksSeat office seat call reply office_after after → LeavesAll (entry seat.number call reply) → ChangesNothing seat after
changes-one office office_after seat after call reply asks leaves =
    let answers = asks.3 in
    let own : Entry Call Reply = entry seat.number call reply in
    record {
      same = asks.2;
      behind = answers.between ++ own ∷ [];
      seen = answers.ends ∙ append_assoc seat.seen answers.between (own ∷ []);
      left = subst (λ (log : History). All LeavesAll log) (sym (own-entries seat.number call reply answers.between answers.silent)) (All-push LeavesAll [] own (All-nil LeavesAll) leaves);
    }

-- calls, and more calls
pub changes-joined : (first second third : SeatFacts Call Reply) → ChangesNothing first second → ChangesNothing second third → ChangesNothing first third
changes-joined first second third one other = record {
  same = other.same ∙ one.same;
  behind = one.behind ++ other.behind;
  seen = other.seen ∙ (ap (λ (log : History). log ++ other.behind) one.seen ∙ append_assoc first.seen one.behind other.behind);
  left =
      let later : All LeavesAll (entries_by first.number other.behind) = subst (λ (n : ℕ). All LeavesAll (entries_by n other.behind)) one.same other.left in
      subst (λ (log : History). All LeavesAll log) (sym (filter-append (λ (e : Entry Call Reply). e.by == first.number) one.behind other.behind))
      (All-append LeavesAll (entries_by first.number one.behind) (entries_by first.number other.behind) one.left later);
}

-- a seat
pub seat-quiet : {C : Type 0} (office : C → OfficeFacts Desk) (seat : C → SeatFacts Call Reply) → IsQuiet (asks_seat office seat) (λ (old new : C). ChangesNothing (seat old) (seat new))
seat-quiet {C} office seat = record {
  same = λ (desk : C). changes-none (seat desk);
  joined = λ (first second third : C). changes-joined (seat first) (seat second) (seat third);
  fits = λ (desk next : C) (by : List ℕ) (change : Change) (reply : Reply) made.
      reply-fits (office desk).seats (office desk).first (seat desk).number by change reply (seat desk).seen (seat next).seen made.3;
  silent = λ (desk next : C) (by : List ℕ) (change : Change) (reply : Reply) made silent.
      changes-one (office desk) (office next) (seat desk) (seat next) (Make by change) reply made (λ (before after : Desk) steps. refused_leaves before after by change reply steps silent);
  asked = λ (desk next : C) (question : Question) (reply : Reply) made.
      changes-one (office desk) (office next) (seat desk) (seat next) (Ask question) reply made (λ (before after : Desk) steps. (asked_leaves before after question reply steps).unchanged);
}
