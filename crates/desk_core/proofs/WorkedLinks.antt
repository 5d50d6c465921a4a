-- A worked history: links that come late, a link that ends an older one, and what is given up.
use Rattle.std.proofs.Common.{◌≡◌, ℕ, List, [], ◌∷◌, codes, refl}
use Rattle.desk_core.{specs.Joins.Language.Card, specs.Joins.Edits.Replace, specs.Desks.{Publication, new_desk}, specs.Joins.Calls.{FromRecord, FromCards, Reply, Changed, Shown, LinkJob, AllOut, Stored, Cleared, Refused, NoPublication, UnknownJob, Stale}, proofs.Worked.{replies_to, deck_m, kept, result, job, A, B, replace, add, claim, deliver_link, show, give_up}}

-- a publication of M alone
abbrev of_m : ℕ → List Card → Publication
of_m version cards = record { version = version; decks = deck_m cards ∷ [] }

-- the job that links M alone
abbrev link : ℕ → ℕ → List Card → Reply
link lease version cards = LinkJob (record { lease = lease; version = version; objects = deck_m cards ∷ [] })

pub late_links : replies_to (
    add (deck_m A) ∷ claim ∷ result 1 1 1 A ∷ claim ∷ claim ∷ replace 1 (codes "*B") ∷ deliver_link 2 (of_m 1 B) ∷ deliver_link 2 (of_m 1 A) ∷ show
    ∷ claim ∷ result 3 1 2 B ∷ claim ∷ replace 2 (codes "*A") ∷ claim ∷ result 5 1 3 A ∷ claim ∷ deliver_link 4 (of_m 2 B) ∷ deliver_link 6 (of_m 3 A)
    ∷ replace 3 (codes "*B") ∷ show ∷ claim ∷ give_up 7 ∷ claim ∷ result 8 1 4 B ∷ claim ∷ give_up 9 ∷ claim ∷ []) new_desk
    ≡ Changed 1 ∷ job 1 1 1 (FromCards A) [] ∷ Stored ∷ link 2 1 A ∷ AllOut ∷ Changed 2 ∷ Refused (Stale 2) ∷ Refused UnknownJob ∷ Refused NoPublication
    ∷ job 3 1 2 (FromRecord (kept A)) (Replace 1 (codes "*B") ∷ []) ∷ Stored ∷ link 4 2 B ∷ Changed 3
    ∷ job 5 1 3 (FromRecord (kept B)) (Replace 1 (codes "*A") ∷ []) ∷ Stored ∷ link 6 3 A ∷ Refused UnknownJob ∷ Stored
    ∷ Changed 4 ∷ Shown (of_m 3 A) ∷ job 7 1 4 (FromRecord (kept A)) (Replace 1 (codes "*B") ∷ []) ∷ Cleared ∷ job 8 1 4 (FromCards B) [] ∷ Stored
    ∷ link 9 4 B ∷ Cleared ∷ link 10 4 B ∷ []
late_links = refl
