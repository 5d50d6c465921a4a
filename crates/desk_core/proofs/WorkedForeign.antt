-- Worked histories: results that are not of the deck, and publications that are not of the desk.
use Rattle.std.proofs.Common.{◌≡◌, ℕ, List, [], ◌∷◌, codes, Some, None, refl}
use Rattle.desk_core.{specs.Joins.Language.{Card, Deck}, specs.Desks.{Publication, new_desk}, specs.Joins.Calls.{Call, FromCards, Reply, Changed, DeckJob, LinkJob, Idle, Stored, Refused, UnknownJob, Foreign}, proofs.Worked.{replies_to, M, deck_m, A, B, deliver, add, claim, deliver_link}}

-- a result for version 1 of M, under a lease: the cards that the record and the object are of
abbrev result : ℕ → List Card → List Card → Call
result lease kept object = deliver (record { lease = lease; deck = 1; version = 1; kept = Some (record { deck = deck_m kept }); object = deck_m object })

-- a spent record, with a sound object
abbrev spent_result : ℕ → Call
spent_result lease = deliver (record { lease = lease; deck = 1; version = 1; kept = None; object = deck_m A })

-- a publication of M
abbrev of_m : ℕ → List Card → Publication
of_m version cards = record { version = version; decks = deck_m cards ∷ [] }

-- each job of M carries the cards, since each record before it was lost
abbrev job : ℕ → Reply
job lease = DeckJob (record { lease = lease; deck = 1; version = 1; name = M; start = FromCards A; edits = [] })

abbrev link : ℕ → Reply
link lease = LinkJob (record { lease = lease; version = 1; objects = deck_m A ∷ [] })

pub foreign_results : replies_to (
    add (deck_m A) ∷ claim ∷ result 1 B B ∷ result 1 A A ∷ claim ∷ result 2 A B ∷ claim ∷ spent_result 3 ∷ claim ∷ result 4 A A
    ∷ claim ∷ deliver_link 5 (of_m 1 B) ∷ claim ∷ deliver_link 6 (of_m 0 A) ∷ claim ∷ deliver_link 7 (of_m 1 A) ∷ deliver_link 7 (of_m 1 A) ∷ claim ∷ []) new_desk
    ≡ Changed 1 ∷ job 1 ∷ Refused Foreign ∷ Refused UnknownJob ∷ job 2 ∷ Refused Foreign ∷ job 3 ∷ Refused Foreign ∷ job 4 ∷ Stored
    ∷ link 5 ∷ Refused Foreign ∷ link 6 ∷ Refused Foreign ∷ link 7 ∷ Stored ∷ Refused UnknownJob ∷ Idle 1 ∷ []
foreign_results = refl

-- the deck N, of M's card
abbrev deck_n : Deck
deck_n = record { name = codes "N"; cards = A }

-- a result under a lease: the identity and the version that it names, the deck of its record, and that of its object
abbrev result_for : ℕ → ℕ → ℕ → Deck → Deck → Call
result_for lease deck version kept object = deliver (record { lease = lease; deck = deck; version = version; kept = Some (record { deck = kept }); object = object })

-- a result is the deck's only where identity, version and both names are
pub foreign_names : replies_to (
    add (deck_m A) ∷ claim ∷ result_for 1 2 1 (deck_m A) (deck_m A) ∷ claim ∷ result_for 2 1 0 (deck_m A) (deck_m A)
    ∷ claim ∷ result_for 3 1 1 deck_n (deck_m A) ∷ claim ∷ result_for 4 1 1 (deck_m A) deck_n ∷ claim ∷ result_for 5 1 1 (deck_m A) (deck_m A) ∷ []) new_desk
    ≡ Changed 1 ∷ job 1 ∷ Refused Foreign ∷ job 2 ∷ Refused Foreign ∷ job 3 ∷ Refused Foreign ∷ job 4 ∷ Refused Foreign ∷ job 5 ∷ Stored ∷ []
foreign_names = refl
