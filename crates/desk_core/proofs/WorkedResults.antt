-- Worked histories: results that come late, records that go back, a deck dropped and added anew, a desk without decks.
use Rattle.std.proofs.Common.{◌≡◌, ℕ, List, [], ◌∷◌, ◌++◌, reverse, take, map, codes, Some, None, refl}
use Rattle.desk_core.{specs.Joins.Language.{listing_of, image_of}, specs.Joins.Edits.Replace, specs.Desks.new_desk, specs.Joins.Calls.{Call, FromRecord, FromCards, Changed, Shown, StatusIs, LinkJob, Idle, AllOut, Stored, Cleared, Refused, NoPublication, UnknownJob, Stale, Foreign, Out, Behind, Ready}, specs.Runs.{History, decks_at}, specs.Jobs.{since_job, accepted_edits, handed_edits}, proofs.Worked.{replies_to, history_of, M, deck_m, kept, result, job, A, B, C, D, replace, add, claim, deliver_link, show, give_up, drop, status}}

-- a stale result gives its record back, and the next job carries it with the one edit
pub late_result : replies_to (
    add (deck_m A) ∷ claim ∷ replace 1 (codes "*B") ∷ result 1 1 1 A ∷ result 1 1 1 A ∷ claim ∷ result 2 1 2 B
    ∷ claim ∷ deliver_link 3 (record { version = 2; decks = deck_m B ∷ [] }) ∷ claim ∷ show ∷ []) new_desk
    ≡ Changed 1 ∷ job 1 1 1 (FromCards A) [] ∷ Changed 2 ∷ Refused (Stale 2) ∷ Refused UnknownJob ∷ job 2 1 2 (FromRecord (kept A)) (Replace 1 (codes "*B") ∷ []) ∷ Stored
    ∷ LinkJob (record { lease = 3; version = 2; objects = deck_m B ∷ [] }) ∷ Stored ∷ Idle 2 ∷ Shown (record { version = 2; decks = deck_m B ∷ [] }) ∷ []
late_result = refl

-- three edits while results are stale or stored, one more, and a job that is given up
abbrev edits_and_results : List Call
edits_and_results =
    add (deck_m A) ∷ claim ∷ replace 1 (codes "*B") ∷ replace 2 (codes "*C") ∷ result 1 1 1 A ∷ claim ∷ replace 3 (codes "*D") ∷ result 2 1 3 C
    ∷ claim ∷ result 3 1 4 D ∷ replace 4 (codes "*A") ∷ claim ∷ give_up 4 ∷ []

-- of several jobs only the first carries cards, until the record is given up
pub one_job_with_cards : replies_to (edits_and_results ++ claim ∷ []) new_desk
    ≡ Changed 1 ∷ job 1 1 1 (FromCards A) [] ∷ Changed 2 ∷ Changed 3 ∷ Refused (Stale 3)
    ∷ job 2 1 3 (FromRecord (kept A)) (Replace 1 (codes "*B") ∷ Replace 1 (codes "*C") ∷ []) ∷ Changed 4 ∷ Refused (Stale 4)
    ∷ job 3 1 4 (FromRecord (kept C)) (Replace 1 (codes "*D") ∷ []) ∷ Stored ∷ Changed 5
    ∷ job 4 1 5 (FromRecord (kept D)) (Replace 1 (codes "*A") ∷ []) ∷ Cleared ∷ job 5 1 5 (FromCards A) [] ∷ []
one_job_with_cards = refl

-- the first so many of these calls, with their replies, newest first
abbrev told_by : ℕ → History
told_by count = reverse (history_of (take count edits_and_results) new_desk)

-- the edits since the latest job: before any, with two since the first, and after the loss; and all that was accepted and handed out
pub edits_since : map (λ (count : ℕ). since_job 1 (told_by count)) (1 ∷ 5 ∷ 13 ∷ []) ≡ None ∷ Some (Replace 1 (codes "*B") ∷ Replace 1 (codes "*C") ∷ []) ∷ None ∷ []
edits_since = refl

pub all_accepted : accepted_edits 1 (told_by 13) ≡ Replace 1 (codes "*B") ∷ Replace 1 (codes "*C") ∷ Replace 1 (codes "*D") ∷ Replace 1 (codes "*A") ∷ []
all_accepted = refl

pub all_handed_out : handed_edits 1 (told_by 13) ≡ accepted_edits 1 (told_by 13)
all_handed_out = refl

-- the decks after the first two accepted changes
pub decks_at_two : decks_at 0 2 (history_of edits_and_results new_desk) ≡ deck_m B ∷ []
decks_at_two = refl

-- a deck dropped and added anew has another identity, and the lease of the old one has ended
pub dropped_and_added_anew : replies_to (
    add (deck_m []) ∷ claim ∷ drop M 1 ∷ add (deck_m []) ∷ result 1 1 1 [] ∷ claim ∷ give_up 2 ∷ give_up 2 ∷ []) new_desk
    ≡ Changed 1 ∷ job 1 1 1 (FromCards []) [] ∷ Changed 2 ∷ Changed 3 ∷ Refused UnknownJob ∷ job 2 3 3 (FromCards []) [] ∷ Cleared ∷ Refused UnknownJob ∷ []
dropped_and_added_anew = refl

-- a late result is not taken for the new deck, under its own lease or under the new deck's
pub late_for_another_deck : replies_to (
    add (deck_m []) ∷ claim ∷ drop M 1 ∷ add (deck_m []) ∷ claim ∷ result 1 1 1 [] ∷ result 1 3 3 [] ∷ result 2 1 1 [] ∷ claim ∷ result 3 3 3 [] ∷ []) new_desk
    ≡ Changed 1 ∷ job 1 1 1 (FromCards []) [] ∷ Changed 2 ∷ Changed 3 ∷ job 2 3 3 (FromCards []) [] ∷ Refused UnknownJob ∷ Refused UnknownJob ∷ Refused Foreign
    ∷ job 3 3 3 (FromCards []) [] ∷ Stored ∷ []
late_for_another_deck = refl

-- a new desk has to be linked before anything is shown
pub new_desk_is_linked : replies_to (show ∷ claim ∷ claim ∷ deliver_link 1 (record { version = 0; decks = [] }) ∷ show ∷ claim ∷ []) new_desk
    ≡ Refused NoPublication ∷ LinkJob (record { lease = 1; version = 0; objects = [] }) ∷ AllOut ∷ Stored ∷ Shown (record { version = 0; decks = [] }) ∷ Idle 0 ∷ []
new_desk_is_linked = refl

-- the texts of a publication without decks
pub empty_listing : listing_of [] ≡ codes "MAP" ++ 10 ∷ codes "END" ++ 10 ∷ []
empty_listing = refl

pub empty_image : image_of [] ≡ codes "END" ++ 10 ∷ []
empty_image = refl

-- the status of a deck that is behind, given out, stored
pub states : replies_to (add (deck_m []) ∷ status ∷ claim ∷ status ∷ claim ∷ result 1 1 1 [] ∷ status ∷ []) new_desk
    ≡ Changed 1 ∷ StatusIs 1 None (record { name = M; version = 1; cards = 0; state = Behind; decks_behind = 0 } ∷ []) ∷ job 1 1 1 (FromCards []) []
    ∷ StatusIs 1 None (record { name = M; version = 1; cards = 0; state = Out; decks_behind = 0 } ∷ []) ∷ AllOut ∷ Stored
    ∷ StatusIs 1 None (record { name = M; version = 1; cards = 0; state = Ready; decks_behind = 0 } ∷ []) ∷ []
states = refl
