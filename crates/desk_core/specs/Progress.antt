-- Whether a desk hands its work out (ours).
use Rattle.std.specs.{Prelude.{Bool, true, false, ◌||◌, is_some}, List.list_any}
use Rattle.desk_core.specs.{Desks.{Desk, DeskDeck}, Joins.Calls.{Reply, DeckJob, LinkJob, Idle, Refused, OutOfMemory, VersionsSpent}, Claiming.is_behind}

-- whether a deck is given to somebody
abbrev pub is_given : DeskDeck → Bool
is_given deck = is_some deck.lease

-- whether a lease is out, of a deck or of a link
abbrev pub has_leases : Desk → Bool
has_leases desk = list_any is_given desk.decks || is_some desk.link

-- whether a deck is behind
abbrev pub has_work : Desk → Bool
has_work desk = list_any is_behind desk.decks

-- whether a claim where a deck is behind is answered by a deck job; or there is no memory for one, or no number
abbrev pub hands_a_deck : Reply → Bool
hands_a_deck (DeckJob job) = true
hands_a_deck (Refused OutOfMemory) = true
hands_a_deck (Refused VersionsSpent) = true
hands_a_deck reply = false

-- whether a claim where none is behind is answered by the link job, or by Idle; or there is no memory for the job, or no number
abbrev pub hands_a_link : Reply → Bool
hands_a_link (LinkJob job) = true
hands_a_link (Idle version) = true
hands_a_link (Refused OutOfMemory) = true
hands_a_link (Refused VersionsSpent) = true
hands_a_link reply = false
