-- Rounds from a desk without leases end where nothing is due.
use Rattle.std.{proofs.Common.{◌≡◌, inl, inr, ℕ, zero, suc, ◌+◌, ◌≤◌, false, cond, is_some, Option, Some, None, refl, ap, ◌∙◌, arith}, specs.List.list_any, proofs.lemmas.Bool.cases_Bool}
use Rattle.desk_core.{specs.Desks.{Desk, Lease, greatest_number}, specs.Joins.Calls.{Claim, Do, Idle}, specs.Answers.{Answer, answers}, specs.Claiming.{claim, is_behind, is_published}, specs.Steps.answer, specs.Runs.{History, Runs}, specs.Rounds.{after_job, after_round, after_rounds, most_rounds}, specs.Progress.{is_given, has_leases}, proofs.Progress.neither, proofs.EachDeck.own-last, proofs.RoundsLeft.{link_rounds, rounds_left, few_left, some_in}, proofs.DeckRounds.{IsResting, Goes, deck_round}, proofs.LinkRounds.{idle_claimed, link_round}}

-- rounds at an idle desk leave it as it is
idle_stays : (rounds : ℕ) (desk : Desk) → claim desk ≡ answers (Idle desk.version) desk → after_rounds rounds desk ≡ desk
idle_stays zero desk idle = refl
idle_stays (suc rounds) desk idle = ap (after_rounds rounds) (ap (λ (a : Answer). after_job a.reply a.desk) idle) ∙ idle_stays rounds desk idle

-- the claim after so many rounds shows that this version is published
abbrev Ends : ℕ → Desk → ℕ → Type 0
Ends rounds desk version = (answer (Do Claim) (after_rounds rounds desk)).reply ≡ Idle version

ends_idle : (rounds : ℕ) (desk : Desk) → claim desk ≡ answers (Idle desk.version) desk → Ends rounds desk desk.version
ends_idle rounds desk idle = ap (λ (d : Desk). (claim d).reply) (idle_stays rounds desk idle) ∙ ap (λ (a : Answer). a.reply) idle

-- each round that is not idle leaves fewer
ends_next : (rounds : ℕ) (desk : Desk) → Goes desk (after_round desk) → rounds_left desk ≤ suc rounds → desk.leases + suc rounds ≤ greatest_number →
    ((next : Desk) → IsResting next → rounds_left next ≤ rounds → next.leases + rounds ≤ greatest_number → Ends rounds next next.version) → Ends (suc rounds) desk desk.version
ends_next rounds desk goes few room later =
    let fewer = goes.fewer in
    let given = goes.leases in
    later (after_round desk) goes.resting (omega arith) (omega arith) ∙ ap (λ n. Idle n) goes.version

ends_within : (rounds : ℕ) (desk : Desk) → IsResting desk → rounds_left desk ≤ rounds → desk.leases + rounds ≤ greatest_number → Ends rounds desk desk.version
ends_within zero desk resting few room = elim (cases_Bool (list_any is_behind desk.decks)) [
  | inl behind ↦ absurd (let some = some_in desk.decks behind in omega arith)
  | inr built ↦ elim (cases_Bool (is_published desk.version desk.publication)) [
    | inl published ↦ ends_idle zero desk (idle_claimed desk built published)
    | inr unpublished ↦ absurd (let one : link_rounds desk ≡ 1 = ap (λ b. cond b 0 1) unpublished in omega arith)
  ]
]
ends_within (suc rounds) desk resting few room = elim (cases_Bool (list_any is_behind desk.decks)) [
  | inl behind ↦ ends_next rounds desk (deck_round desk resting behind (omega arith)) few room (ends_within rounds)
  | inr built ↦ elim (cases_Bool (is_published desk.version desk.publication)) [
    | inl published ↦ ends_idle (suc rounds) desk (idle_claimed desk built published)
    | inr unpublished ↦ ends_next rounds desk (link_round desk built resting unpublished (omega arith)) few room (ends_within rounds)
  ]
]

none_linked : (link : Option Lease) → is_some link ≡ false → link ≡ None
none_linked None none = refl
none_linked (Some lease) none = cc

-- from each desk without leases that is reached
pub ends_at_idle : (begun : ℕ) (history : History) (desk : Desk) → Runs begun history desk → has_leases desk ≡ false → desk.leases + most_rounds desk ≤ greatest_number →
    (answer (Do Claim) (after_rounds (most_rounds desk) desk)).reply ≡ Idle desk.version
ends_at_idle begun history desk runs free room =
    let both = neither (list_any is_given desk.decks) (is_some desk.link) free in
    ends_within (most_rounds desk) desk (record { own = own-last begun history desk runs; ungiven = both.0; unlinked = none_linked desk.link both.1 }) (few_left desk) room
