-- Changes of decks: AddDeck, PutDeck, DropDeck, and edits by who has seen the deck's present version (ours).
use Rattle.std.specs.Prelude.{ℕ, ◌+◌, ◌==◌, Bool, false, not, ◌&&◌, ◌||◌, nat_le, nat_lt, List, [], ◌∷◌, ◌++◌, length, filter, is_some, Option, Some, None, option_map, if◌then◌else◌}
use Rattle.desk_core.specs.{Joins.Language.{Card, Deck}, Joins.Causes.{when, first_cause}, Past.{begun_at, past_after}, Desks.{Desk, DeskDeck, most_decks, is_named, deck_named, with_deck}, Joins.Calls.{Changed, Refusal, NoSuchCard, DeckFull, NameTaken, NoDeck, OldVersion, TooManyDecks, BadEdit, BatchSize}, Answers.{Answer, answers, unless, against_next}}
use Rattle.desk_core.specs.Joins.Edits as E

-- what speaks against a change by who has seen this version: it is not the deck's present one
abbrev pub against_seen : ℕ → DeskDeck → Option Refusal
against_seen seen deck = when (not (seen == deck.version)) (OldVersion deck.version)

-- a change is answered with the new version
abbrev pub accepted : Desk → Answer
accepted desk = answers (Changed desk.version) desk

-- what speaks against the addition of a deck
abbrev pub against_add : Deck → Desk → Option Refusal
against_add deck desk = first_cause (
    when (is_some (deck_named deck.name desk)) NameTaken
    ∷ when (nat_le most_decks (length desk.decks)) TooManyDecks
    ∷ when (nat_lt E.most_cards (length deck.cards)) DeckFull
    ∷ against_next desk.version
    ∷ [])

-- an added deck: it has no object, no record, no waiting edits, no lease, and its past begins
abbrev pub added_deck : ℕ → Deck → DeskDeck
added_deck version deck = record { name = deck.name; cards = deck.cards; identity = version; version = version; built = false; kept = None; waiting = []; lease = None; past = begun_at version }

-- the desk with a deck more
abbrev pub added : Deck → Desk → Desk
added deck desk = record desk { version = desk.version + 1; decks = desk.decks ++ added_deck (desk.version + 1) deck ∷ [] }

-- Add
abbrev pub add_deck : Deck → Desk → Answer
add_deck deck desk = unless (against_add deck desk) desk (accepted (added deck desk))

-- what speaks against a deck that is put, by who has seen this version of the one of its name: 0 means that there was none
abbrev pub against_put : ℕ → Deck → Desk → Option DeskDeck → Option Refusal
against_put seen new desk None = if seen == 0 then against_add new desk else Some NoDeck
against_put seen new desk (Some deck) = first_cause (against_seen seen deck ∷ when (nat_lt E.most_cards (length new.cards)) DeckFull ∷ against_next desk.version ∷ [])

-- a deck with other cards is one that was added anew
abbrev pub replaced_deck : ℕ → List Card → DeskDeck → DeskDeck
replaced_deck version cards deck = added_deck version (record { name = deck.name; cards = cards })

-- the desk with a deck in the place of the one of its name, or behind the others where there is none
abbrev pub put : Deck → Desk → Option DeskDeck → Desk
put new desk None = added new desk
put new desk (Some deck) = with_deck new.name (replaced_deck (desk.version + 1) new.cards) (record desk { version = desk.version + 1 })

-- PutDeck, by the deck of its name
abbrev pub put_where : Deck → ℕ → Desk → Option DeskDeck → Answer
put_where new seen desk found = unless (against_put seen new desk found) desk (accepted (put new desk found))

-- PutDeck
abbrev pub put_deck : Deck → ℕ → Desk → Answer
put_deck new seen desk = put_where new seen desk (deck_named new.name desk)

-- what speaks against the drop of a deck
abbrev pub against_drop : ℕ → Desk → Option DeskDeck → Option Refusal
against_drop seen desk None = Some NoDeck
against_drop seen desk (Some deck) = first_cause (against_seen seen deck ∷ against_next desk.version ∷ [])

-- the desk without the deck of a name, and so without its lease
abbrev pub dropped : List ℕ → Desk → Desk
dropped name desk = record desk { version = desk.version + 1; decks = filter (λ deck. not (is_named name deck)) desk.decks }

-- DropDeck
abbrev pub drop_deck : List ℕ → ℕ → Desk → Answer
drop_deck name seen desk = unless (against_drop seen desk (deck_named name desk)) desk (accepted (dropped name desk))

-- edits of a deck wait where it has a record or its lease is out
abbrev pub waiting_after : List E.Edit → DeskDeck → List E.Edit
waiting_after edits deck = if is_some deck.kept || is_some deck.lease then deck.waiting ++ edits else deck.waiting

-- a deck with edits by who has this name: it has a new version, and no object of that, and the edits are kept
abbrev pub edited_deck : ℕ → List ℕ → List E.Edit → DeskDeck → DeskDeck
edited_deck version by edits deck = record deck { cards = E.edited_by edits deck.cards; version = version; built = false; waiting = waiting_after edits deck; past = past_after version by edits deck.cards deck.past }

-- the desk with edits of the deck of a name
abbrev pub edited : List ℕ → List ℕ → List E.Edit → Desk → Desk
edited name by edits desk = with_deck name (edited_deck (desk.version + 1) by edits) (record desk { version = desk.version + 1 })

-- the refusal that shows the fault of an edit
abbrev pub refusal_of : E.EditFault → Refusal
refusal_of E.NoSuchCard = NoSuchCard
refusal_of E.DeckFull = DeckFull

-- how many edits a change may have
abbrev pub most_edits : ℕ
most_edits = 100

-- whether these are so many edits as a change may have, one at least
abbrev pub is_batch : List E.Edit → Bool
is_batch edits = nat_le 1 (length edits) && nat_le (length edits) most_edits

-- the refusal that shows which edit of several does not apply, and why
abbrev pub bad_edit : ℕ × E.EditFault → Refusal
bad_edit fault = BadEdit fault.0 fault.1

-- what speaks against edits of a deck
abbrev pub against_edits : ℕ → List E.Edit → Desk → Option DeskDeck → Option Refusal
against_edits seen edits desk None = Some NoDeck
against_edits seen edits desk (Some deck) = first_cause (
    against_seen seen deck
    ∷ when (not (is_batch edits)) BatchSize
    ∷ option_map bad_edit (E.first_fault edits deck.cards)
    ∷ against_next desk.version
    ∷ [])

-- a refusal of edits, which shows no number where it is of one alone
abbrev pub shown : Bool → Refusal → Refusal
shown single (BadEdit number fault) = if single then refusal_of fault else BadEdit number fault
shown single refusal = refusal

-- EditDeck by who has seen this version and no other, one edit or several: all of them or none, as one change
abbrev pub edit_deck : Bool → List ℕ → ℕ → List E.Edit → List ℕ → Desk → Answer
edit_deck single name seen edits by desk = unless (option_map (shown single) (against_edits seen edits desk (deck_named name desk))) desk (accepted (edited name by edits desk))
