-- Turns one after the other.
use Rattle.std.proofs.{Common.{◌≡◌, ℕ, ◌+◌, ◌<◌, List, [], ◌∷◌, ◌++◌, length, All, Some, None, refl, sym, ap, ◌∙◌, subst, arith, length-append}, lemmas.List.Elements.{All-nil, All-push}, lemmas.List.flat_map_more}
use Rattle.turn_office.specs.{declared.history.Entry.Entry, Histories.Leads}
use Rattle.desk_core.specs.{Desks.Desk, Steps.Steps, Runs.History}
use Rattle.deck_workers.specs.{Rounds.{Round, entries_of, entries_in}, Jobs.CountsWithin}
use Rattle.work_meter.specs.Counts.{Counts}
use Rattle.desk_tests.specs.{Settling.{GoesOn, SettlesOn, used_up, ended, IsTurn, round_bound, rounds_bound, round_least, rounds_least}, declared.settling.Settled.Settled, declared.settling.Settled.TheVariants.Turns}

-- one history behind another
pub leads-append : {T C R : Type 0} (allowed : T → C → R → T → Type 0) (first middle last : T) (before behind : List (Entry C R)) → Leads allowed first before middle → Leads allowed middle behind last → Leads allowed first (before ++ behind) last
leads-append allowed first middle last [] behind leads more = subst (λ t. Leads allowed t behind last) (sym leads) more
leads-append allowed first middle last (e ∷ es) behind leads more = (leads.0, leads.1, leads-append allowed leads.0 middle last es behind leads.2 more)

-- the entries of rounds and of one more
pub entries-more : (number : ℕ) (rounds : List Round) (round : Round) → entries_in number rounds ++ entries_of number round ≡ entries_in number (rounds ++ round ∷ [])
entries-more number rounds round = flat_map_more (entries_of number) [] rounds round

-- so many turns that did not end it
pub record WentOn (turns : ℕ) (first last : Desk) (old new : Counts) : Type 0 where
  pub rounds : List Round
  pub go_on : All GoesOn rounds
  pub count : length rounds ≡ turns
  pub leads : Leads Steps first (entries_in 0 rounds) last
  pub counts : CountsWithin (rounds_least rounds) (rounds_bound rounds) old new

-- no turn yet
pub not-yet : (desk : Desk) (meter : Counts) → WentOn 0 desk desk meter meter
not-yet desk meter = record {
  rounds = [];
  go_on = All-nil GoesOn;
  count = refl;
  leads = refl;
  counts = record {
    few = record { sized_rises = omega arith; sized_few = omega arith; coded_rises = omega arith; coded_few = omega arith };
    sized_all = λ room. omega arith;
    coded_all = λ room. omega arith;
  };
}

rounds_bound-more : (rounds : List Round) (round : Round) → rounds_bound (rounds ++ round ∷ []) ≡ rounds_bound rounds + round_bound round
rounds_bound-more [] round = omega arith
rounds_bound-more (one ∷ rounds) round = let rest = rounds_bound-more rounds round in omega (arith, rest)

rounds_least-more : (rounds : List Round) (round : Round) → rounds_least (rounds ++ round ∷ []) ≡ rounds_least rounds + round_least round
rounds_least-more [] round = omega arith
rounds_least-more (one ∷ rounds) round = let rest = rounds_least-more rounds round in omega (arith, rest)

-- what rounds count, and one more
counts-more : (rounds : List Round) (round : Round) (old middle new : Counts) → CountsWithin (rounds_least rounds) (rounds_bound rounds) old middle →
    CountsWithin (round_least round) (round_bound round) middle new →
    CountsWithin (rounds_least (rounds ++ round ∷ [])) (rounds_bound (rounds ++ round ∷ [])) old new
counts-more rounds round old middle new before here =
    let most = rounds_bound-more rounds round in
    let least = rounds_least-more rounds round in
    record {
      few = record {
        sized_rises = omega (arith, before.few.sized_rises, here.few.sized_rises);
        sized_few = omega (arith, most, before.few.sized_few, here.few.sized_few);
        coded_rises = omega (arith, before.few.coded_rises, here.few.coded_rises);
        coded_few = omega (arith, most, before.few.coded_few, here.few.coded_few);
      };
      sized_all = λ room.
          let first = before.sized_all (omega (arith, room, most)) in
          let second = here.sized_all (omega (arith, room, most, before.few.sized_few)) in
          omega (arith, least, first, second);
      coded_all = λ room.
          let first = before.coded_all (omega (arith, room, most)) in
          let second = here.coded_all (omega (arith, room, most, before.few.coded_few)) in
          omega (arith, least, first, second);
    }

-- one turn more
pub once-more : (turns : ℕ) (first middle last : Desk) (old between new : Counts) → WentOn turns first middle old between → IsTurn middle None last between new → WentOn (turns + 1) first last old new
once-more turns first middle last old between new went turn = record {
  rounds = went.rounds ++ turn.round ∷ [];
  go_on = All-push GoesOn went.rounds turn.round went.go_on (turn.is_round, turn.end_is);
  count = length-append went.rounds (turn.round ∷ []) ∙ ap (λ (n : ℕ). n + 1) went.count;
  leads = subst (λ (entries : History). Leads Steps first entries last) (entries-more 0 went.rounds turn.round) (leads-append Steps first middle last (entries_in 0 went.rounds) (entries_of 0 turn.round) went.leads turn.leads);
  counts = counts-more went.rounds turn.round old between new went.counts turn.counts;
}

-- the turns are used up
pub settles-used : (turns most : ℕ) (first last : Desk) (old new : Counts) → turns ≡ most → WentOn turns first last old new → SettlesOn most first Turns last old new
settles-used turns most first last old new all went = (used_up went.rounds went.go_on (went.count ∙ all) refl went.leads, went.counts)

-- one turn ends it
pub settles-ended : (turns most : ℕ) (first middle last : Desk) (settled : Settled) (old between new : Counts) → turns < most → WentOn turns first middle old between → IsTurn middle (Some settled) last between new →
    SettlesOn most first settled last old new
settles-ended turns most first middle last settled old between new less went turn = (
  ended went.rounds turn.round went.go_on (let counted = went.count in omega arith) turn.is_round turn.end_is
      (leads-append Steps first middle last (entries_in 0 went.rounds) (entries_of 0 turn.round) went.leads turn.leads),
  counts-more went.rounds turn.round old between new went.counts turn.counts,
)
