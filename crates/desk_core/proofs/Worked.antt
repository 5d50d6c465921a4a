-- What the worked histories share: calls made one after the other from a desk, with memory found each time.
use Rattle.std.proofs.Common.{Some, ℕ, List, [], ◌∷◌, codes, refl, inl}
use Rattle.turn_office.specs.Histories.{Leads, entry}
use Rattle.desk_core.specs.{Joins.Language.{Card, Deck}, Joins.Edits.{Edit, Replace}, Desks.{Desk, Kept, Publication, new_desk}, Joins.Calls.{Exactly, Since, One, Batch, Change, AddDeck, PutDeck, DropDeck, EditDeck, Undo, Changes, CardsAt, Cards, Show, Status, Claim, Done, DeliverDeck, DeliverLink, GiveUp, Call, Make, Ask, Do, Start, Reply, DeckJob}, Steps.{answer, Steps}, Runs.{History, Runs}}

-- the replies, in order
abbrev pub replies_to : List Call → Desk → List Reply
replies_to [] desk = []
replies_to (call ∷ calls) desk = (answer call desk).reply ∷ replies_to calls (answer call desk).desk

-- the desk after the calls
abbrev pub desk_after : List Call → Desk → Desk
desk_after [] desk = desk
desk_after (call ∷ calls) desk = desk_after calls (answer call desk).desk

-- the history of the calls
abbrev pub history_of : List Call → Desk → History
history_of [] desk = []
history_of (call ∷ calls) desk = entry 0 call (answer call desk).reply ∷ history_of calls (answer call desk).desk

-- that history is legal
pub leads_through : (calls : List Call) (desk : Desk) → Leads Steps desk (history_of calls desk) (desk_after calls desk)
leads_through [] desk = refl
leads_through (call ∷ calls) desk = ((answer call desk).desk, inl (refl, refl), leads_through calls (answer call desk).desk)

-- so each worked history is a run of a new desk
pub runs_through : (calls : List Call) → Runs 0 (history_of calls new_desk) (desk_after calls new_desk)
runs_through calls = leads_through calls new_desk

-- the name of the only deck
abbrev pub M : List ℕ
M = codes "M"

-- the name of who edits
abbrev pub me : List ℕ
me = codes "7"

-- calls, where nothing shows who changes decks
abbrev made : Change → Call
made change = Make me change

abbrev pub add : Deck → Call
add deck = made (AddDeck deck)

abbrev pub put : Deck → ℕ → Call
put deck seen = made (PutDeck deck seen)

abbrev pub drop : List ℕ → ℕ → Call
drop name seen = made (DropDeck name seen)

-- by who edits
abbrev pub edit : List ℕ → ℕ → Edit → List ℕ → Call
edit name seen one by = Make by (EditDeck name (Exactly seen) (One one))

abbrev pub batch : List ℕ → ℕ → List Edit → List ℕ → Call
batch name seen edits by = Make by (EditDeck name (Exactly seen) (Batch edits))

abbrev pub edit_since : List ℕ → ℕ → Edit → List ℕ → Call
edit_since name seen one by = Make by (EditDeck name (Since seen) (One one))

abbrev pub batch_since : List ℕ → ℕ → List Edit → List ℕ → Call
batch_since name seen edits by = Make by (EditDeck name (Since seen) (Batch edits))

abbrev pub undo : List ℕ → ℕ → List ℕ → Call
undo name version by = Make by (Undo name version)

abbrev pub changes : List ℕ → ℕ → Call
changes name since = Ask (Changes name since)

abbrev pub cards_at : List ℕ → ℕ → Call
cards_at name version = Ask (CardsAt name version)

abbrev pub cards : List ℕ → Call
cards name = Ask (Cards name)

abbrev pub show : Call
show = Ask Show

abbrev pub status : Call
status = Ask Status

abbrev pub claim : Call
claim = Do Claim

abbrev pub deliver : Done → Call
deliver done = Do (DeliverDeck done)

abbrev pub deliver_link : ℕ → Publication → Call
deliver_link lease publication = Do (DeliverLink lease publication)

abbrev pub give_up : ℕ → Call
give_up lease = Do (GiveUp lease)

-- the deck of that name, with these cards
abbrev pub deck_m : List Card → Deck
deck_m cards = record { name = M; cards = cards }

-- a record of M with these cards
abbrev pub kept : List Card → Kept
kept cards = record { deck = deck_m cards }

-- a result for M: lease, identity, version, and the cards that record and object are of
abbrev pub result : ℕ → ℕ → ℕ → List Card → Call
result lease deck version cards = deliver (record { lease = lease; deck = deck; version = version; kept = Some (kept cards); object = deck_m cards })

-- the job of M
abbrev pub job : ℕ → ℕ → ℕ → Start → List Edit → Reply
job lease deck version start edits = DeckJob (record { lease = lease; deck = deck; version = version; name = M; start = start; edits = edits })

-- four decks of one card
abbrev pub A : List Card
A = codes "*A" ∷ []

abbrev pub B : List Card
B = codes "*B" ∷ []

abbrev pub C : List Card
C = codes "*C" ∷ []

abbrev pub D : List Card
D = codes "*D" ∷ []

-- the first card of M is replaced, by one who has seen this version
abbrev pub replace : ℕ → List ℕ → Call
replace seen card = edit M seen (Replace 1 card) me
