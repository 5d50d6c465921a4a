-- Worked histories: edits and batches, those that apply and those that are refused, and each limit.
use Rattle.std.{proofs.Common.{◌≡◌, ℕ, true, false, List, [], ◌∷◌, ◌++◌, replicate, map, codes, None, refl}, specs.List.range_with_len}
use Rattle.desk_core.specs.Joins.Edits as E
use Rattle.desk_core.{specs.Past.begun_at, specs.Desks.{Desk, new_desk}, specs.Joins.Calls.{Call, Reply, Changed, StatusIs, Idle, AllOut, Cleared, NoPublication, CardsAre, Refused, NoSuchCard, DeckFull, NameTaken, NoDeck, OldVersion, TooManyDecks, VersionsSpent, BadEdit, BatchSize}, specs.Steps.takes_memory, proofs.Worked.{replies_to, desk_after, M, me, deck_m, add, edit, cards, batch, drop, claim, give_up, show, status}}

-- two people edit one deck: who has not seen the latest version is refused
pub two_at_one_deck : replies_to (
    add (deck_m []) ∷ edit M 1 (E.Insert 1 (codes "*ONE")) me ∷ edit M 2 (E.Insert 2 (codes "*TWO")) me ∷ edit M 3 (E.Insert 1 (codes "*A")) me
    ∷ edit M 3 (E.Insert 1 (codes "*B")) me ∷ edit M 4 (E.Insert 1 (codes "*B")) me ∷ cards M ∷ []) new_desk
    ≡ Changed 1 ∷ Changed 2 ∷ Changed 3 ∷ Changed 4 ∷ Refused (OldVersion 4) ∷ Changed 5 ∷ CardsAre 5 (codes "*B" ∷ codes "*A" ∷ codes "*ONE" ∷ codes "*TWO" ∷ []) ∷ []
two_at_one_deck = refl

-- the deck M with two cards, at version 3
abbrev at_three : Desk
at_three = desk_after (add (deck_m []) ∷ edit M 1 (E.Insert 1 (codes "*A")) me ∷ edit M 2 (E.Insert 2 (codes "*B")) me ∷ []) new_desk

-- a batch is one change, and each of its edits applies to what the ones before it leave; with one that does not apply nothing is changed
pub batches : replies_to (
    batch M 3 (E.Insert 1 (codes "*X") ∷ E.Remove 3 ∷ E.Replace 2 (codes "*Y") ∷ []) me ∷ cards M ∷ batch M 4 (E.Remove 1 ∷ E.Remove 2 ∷ []) me ∷ cards M
    ∷ batch M 3 (E.Remove 1 ∷ []) me ∷ batch M 4 [] me ∷ batch M 4 (replicate 101 (E.Remove 9)) me ∷ batch (codes "N") 4 [] me ∷ []) at_three
    ≡ Changed 4 ∷ CardsAre 4 (codes "*X" ∷ codes "*Y" ∷ []) ∷ Refused (BadEdit 2 E.NoSuchCard) ∷ CardsAre 4 (codes "*X" ∷ codes "*Y" ∷ [])
    ∷ Refused (OldVersion 4) ∷ Refused BatchSize ∷ Refused BatchSize ∷ Refused NoDeck ∷ []
batches = refl

-- places count from 1, and a card may be inserted behind the last
pub places : replies_to (
    edit M 3 (E.Insert 0 []) me ∷ edit M 3 (E.Insert 4 []) me ∷ edit M 3 (E.Replace 0 []) me ∷ edit M 3 (E.Replace 3 []) me ∷ edit M 3 (E.Remove 0) me ∷ edit M 3 (E.Remove 3) me
    ∷ edit (codes "N") 3 (E.Remove 1) me ∷ edit M 3 (E.Insert 3 (codes "*C")) me ∷ edit M 4 (E.Remove 2) me ∷ edit M 5 (E.Replace 2 (codes "*D")) me ∷ cards M ∷ []) at_three
    ≡ Refused NoSuchCard ∷ Refused NoSuchCard ∷ Refused NoSuchCard ∷ Refused NoSuchCard ∷ Refused NoSuchCard ∷ Refused NoSuchCard
    ∷ Refused NoDeck ∷ Changed 4 ∷ Changed 5 ∷ Changed 6 ∷ CardsAre 6 (codes "*A" ∷ codes "*D" ∷ []) ∷ []
places = refl

-- a deck has at most 20,000 cards, when it is added and when it is edited; a full one can still be edited otherwise
pub full_deck : replies_to (
    add (deck_m (replicate 20001 [])) ∷ add (deck_m (replicate 20000 [])) ∷ edit M 1 (E.Insert 20002 []) me ∷ edit M 1 (E.Insert 20001 []) me
    ∷ batch M 1 (E.Remove 1 ∷ E.Insert 1 [] ∷ E.Insert 1 [] ∷ []) me ∷ edit M 1 (E.Remove 20000) me ∷ []) new_desk
    ≡ Refused DeckFull ∷ Changed 1 ∷ Refused NoSuchCard ∷ Refused DeckFull ∷ Refused (BadEdit 3 E.DeckFull) ∷ Changed 2 ∷ []
full_deck = refl

-- so many decks, with numbers for names
abbrev pub decks_from : ℕ → ℕ → List Call
decks_from first count = map (λ n. add (record { name = n ∷ []; cards = [] })) (range_with_len first count)

-- a desk has at most 64 decks, each of another name
pub full_desk : replies_to (add (record { name = 5 ∷ []; cards = replicate 20001 [] }) ∷ add (record { name = 64 ∷ []; cards = replicate 20001 [] }) ∷ drop (9 ∷ []) 10 ∷ decks_from 9 1 ++ decks_from 64 1)
    (desk_after (decks_from 0 64) new_desk)
    ≡ Refused NameTaken ∷ Refused TooManyDecks ∷ Changed 65 ∷ Changed 66 ∷ Refused TooManyDecks ∷ []
full_desk = refl

-- a desk that has come to the last version, or given the last lease
abbrev pub worn : ℕ → ℕ → Desk
worn version leases = record { version = version; leases = leases; decks = (record { name = M; cards = []; identity = 1; version = 1; built = false; kept = None; waiting = []; lease = None; past = begun_at 1 }) ∷ []; link = None; publication = None }

pub spent : replies_to (add (deck_m []) ∷ add (record { name = []; cards = [] }) ∷ drop M 2 ∷ drop M 1 ∷ edit M 1 (E.Remove 1) me ∷ edit M 1 (E.Insert 1 []) me ∷ batch M 1 (E.Remove 1 ∷ []) me ∷ batch M 1 (E.Insert 1 [] ∷ []) me ∷ claim ∷ [])
    (worn 4611686018427387904 4611686018427387904)
    ≡ Refused NameTaken ∷ Refused VersionsSpent ∷ Refused (OldVersion 1) ∷ Refused VersionsSpent ∷ Refused NoSuchCard ∷ Refused VersionsSpent ∷ Refused (BadEdit 1 E.NoSuchCard) ∷ Refused VersionsSpent ∷ Refused VersionsSpent ∷ []
spent = refl

-- a drop takes no memory, nor does what stores or clears; other changes, what is read and jobs do
pub memory_of_calls : map (λ (step : Call × Reply). takes_memory step.0 step.1) (
    (drop M 1, Changed 2) ∷ (give_up 1, Cleared) ∷ (claim, AllOut) ∷ (claim, Idle 0) ∷ (show, Refused NoPublication)
    ∷ (edit M 1 (E.Remove 1) me, Changed 2) ∷ (cards M, CardsAre 1 []) ∷ (status, StatusIs 0 None []) ∷ [])
    ≡ false ∷ false ∷ false ∷ false ∷ false ∷ true ∷ true ∷ true ∷ []
memory_of_calls = refl
