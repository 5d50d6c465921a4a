-- Rounds of work, each a claim and the call that ends the job that it gives, where memory is found (ours).
use Rattle.std.specs.Prelude.{ℕ, zero, suc, ◌+◌, ◌*◌, length, is_none, if◌then◌else◌}
use Rattle.desk_core.specs.{Joins.Edits.first_fault, Desks.Desk, Joins.Calls.{Claim, DeliverDeck, Publish, GiveUp, Call, Do, DeckWork, LinkWork, Reply, DeckJob, LinkJob}, Making.{start_cards, done_of}, Steps.answer}

-- the call that ends a deck job: what it makes is delivered; or it is given up, where one of its edits does not apply
abbrev pub end_of_deck : DeckWork → Call
end_of_deck work = if is_none (first_fault work.edits (start_cards work.start)) then Do (DeliverDeck (done_of work)) else Do (GiveUp work.lease)

-- the call that ends a link job: the desk is to publish
abbrev pub end_of_link : LinkWork → Call
end_of_link work = Do (Publish work.lease)

-- the desk after the call that ends the job of a reply; as it is where that gives none
abbrev pub after_job : Reply → Desk → Desk
after_job (DeckJob work) desk = (answer (end_of_deck work) desk).desk
after_job (LinkJob work) desk = (answer (end_of_link work) desk).desk
after_job _ desk = desk

-- the desk after a round
abbrev pub after_round : Desk → Desk
after_round desk = after_job (answer (Do Claim) desk).reply (answer (Do Claim) desk).desk

-- the desk after so many rounds
abbrev pub after_rounds : ℕ → Desk → Desk
after_rounds zero desk = desk
after_rounds (suc rounds) desk = after_rounds rounds (after_round desk)

-- how many rounds a desk needs at most: two for each deck, since a record that came back may be of other cards, and one for the link
abbrev pub most_rounds : Desk → ℕ
most_rounds desk = 2 * length desk.decks + 1
