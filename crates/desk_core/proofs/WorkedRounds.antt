-- A worked desk: its rounds, where a record that came back late is of other cards.
use Rattle.std.proofs.Common.{◌≡◌, [], ◌∷◌, codes, refl}
use Rattle.desk_core.{specs.Joins.Edits.Replace, specs.Desks.{Desk, new_desk}, specs.Joins.Calls.{FromRecord, FromCards, LinkJob, Idle}, specs.Steps.answer, specs.Rounds.{after_rounds, most_rounds}, proofs.Worked.{desk_after, deck_m, kept, result, job, A, B, C, replace, add, claim}}

-- M was edited while its job was out, and the result that came then has a record of two cards
abbrev late : Desk
late = desk_after (add (deck_m A) ∷ claim ∷ replace 1 (codes "*B") ∷ result 1 1 1 (codes "*C" ∷ C) ∷ []) new_desk

-- what the claim of each round gives: the record is tried, then the cards, then the link
pub three_rounds : (answer claim late).reply ∷ (answer claim (after_rounds 1 late)).reply ∷ (answer claim (after_rounds 2 late)).reply ∷ (answer claim (after_rounds 3 late)).reply ∷ []
    ≡ job 2 1 2 (FromRecord (kept (codes "*C" ∷ C))) (Replace 1 (codes "*B") ∷ []) ∷ job 3 1 2 (FromCards B) []
    ∷ LinkJob (record { lease = 4; version = 2; objects = deck_m B ∷ [] }) ∷ Idle 2 ∷ []
three_rounds = refl

pub so_many : most_rounds late ≡ 3
so_many = refl
