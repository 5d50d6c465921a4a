-- Claim: what is due next (ours).
use Rattle.std.specs.{Prelude.{ℕ, ◌+◌, ◌==◌, Bool, false, not, ◌&&◌, List, [], find, is_none, Option, Some, None, if◌then◌else◌}, List.list_any}
use Rattle.desk_core.specs.{Joins.Edits.Edit, Desks.{Desk, DeskDeck, Kept, Publication, is_leased_at, decks_of, with_deck}, Joins.Calls.{Start, FromRecord, FromCards, DeckWork, DeckJob, LinkJob, Idle, AllOut}, Answers.{Answer, answers, unless, against_next}}

-- a deck without an object of its version is behind
abbrev pub is_behind : DeskDeck → Bool
is_behind deck = not deck.built

-- whether a deck is behind and not given to anybody
abbrev pub is_free : DeskDeck → Bool
is_free deck = is_behind deck && is_none deck.lease

-- what a job of a deck begins with: its record, or its cards where there is none
abbrev pub start_of : DeskDeck → Option Kept → Start
start_of deck None = FromCards deck.cards
start_of deck (Some kept) = FromRecord kept

-- the edits that go with the record; cards have been edited already
abbrev pub edits_for : DeskDeck → Option Kept → List Edit
edits_for deck None = []
edits_for deck (Some kept) = deck.waiting

-- a deck whose job is out: record and edits have moved into the job
abbrev pub given : ℕ → DeskDeck → DeskDeck
given number deck = record deck { kept = None; waiting = []; lease = Some (record { number = number; version = deck.version }) }

-- the job of a deck under the next lease
abbrev pub deck_work : ℕ → DeskDeck → DeckWork
deck_work number deck = record { lease = number; deck = deck.identity; version = deck.version; name = deck.name; start = start_of deck deck.kept; edits = edits_for deck deck.kept }

-- the desk hands out a deck
abbrev pub hand_out : DeskDeck → Desk → Answer
hand_out deck desk = answers (DeckJob (deck_work (desk.leases + 1) deck)) (with_deck deck.name (given (desk.leases + 1)) (record desk { leases = desk.leases + 1 }))

-- where decks are behind: the first that is free, if there is one
abbrev pub claim_deck : Desk → Option DeskDeck → Answer
claim_deck desk None = answers AllOut desk
claim_deck desk (Some deck) = unless (against_next desk.leases) desk (hand_out deck desk)

-- the desk hands out the link of its version, which ends an older link's lease
abbrev pub hand_out_link : Desk → Answer
hand_out_link desk = answers
    (LinkJob (record { lease = desk.leases + 1; version = desk.version; objects = decks_of desk }))
    (record desk { leases = desk.leases + 1; link = Some (record { number = desk.leases + 1; version = desk.version }) })

-- whether the publication is of this version
abbrev pub is_published : ℕ → Option Publication → Bool
is_published version None = false
is_published version (Some publication) = publication.version == version

-- where no deck is behind: the link of the present version, if that is neither published nor out
abbrev pub claim_link : Desk → Answer
claim_link desk =
    if is_published desk.version desk.publication then answers (Idle desk.version) desk
    else if is_leased_at desk.version desk.link then answers AllOut desk
    else unless (against_next desk.leases) desk (hand_out_link desk)

-- Claim
abbrev pub claim : Desk → Answer
claim desk = if list_any is_behind desk.decks then claim_deck desk (find is_free desk.decks) else claim_link desk
