-- Calls that end a lease: DeliverDeck, DeliverLink, Publish, GiveUp (ours).
use Rattle.std.specs.{Prelude.{ℕ, ◌==◌, Bool, true, false, not, ◌&&◌, ◌||◌, List, [], ◌∷◌, find, is_none, Option, Some, None, if◌then◌else◌}, List.list_any}
use Rattle.desk_core.specs.{Joins.Language.{Card, Deck, same_text}, Desks.{Desk, DeskDeck, Kept, Publication, is_leased, is_leased_at, deck_of, decks_of, with_deck}, Joins.Calls.{Done, Stored, Published, Cleared, Refused, UnknownJob, Stale, Foreign}, Answers.{Answer, answers}, Claiming.is_behind}

-- whether cards are the same, one by one
abbrev pub same_cards : List Card → List Card → Bool
same_cards [] [] = true
same_cards (a ∷ as') (b ∷ bs) = same_text a b && same_cards as' bs
same_cards _ _ = false

-- whether decks have one name and the same cards
abbrev pub same_deck : Deck → Deck → Bool
same_deck a b = same_text a.name b.name && same_cards a.cards b.cards

-- whether decks are the same, in the same order
abbrev pub same_decks : List Deck → List Deck → Bool
same_decks [] [] = true
same_decks (a ∷ as') (b ∷ bs) = same_deck a b && same_decks as' bs
same_decks _ _ = false

-- the deck whose lease this is
abbrev pub deck_leased : ℕ → Desk → Option DeskDeck
deck_leased number desk = find (λ (deck : DeskDeck). is_leased number deck.lease) desk.decks

-- a deck whose record is lost, and with it the edits that waited for it: the next job carries the cards
abbrev pub lost : DeskDeck → DeskDeck
lost deck = record deck { kept = None; waiting = []; lease = None }

-- a deck whose record came back, without an object of the present version: the edits accepted since wait for the next job
abbrev pub given_back : Option Kept → DeskDeck → DeskDeck
given_back kept deck = record deck { kept = kept; lease = None }

-- a deck with record and object
abbrev pub stored : Option Kept → DeskDeck → DeskDeck
stored kept deck = record deck { kept = kept; built = true; lease = None }

-- whether a result names the deck and the version of the lease
abbrev pub is_for : Done → DeskDeck → Bool
is_for done deck = (done.deck == deck.identity) && is_leased_at done.version deck.lease

-- whether a record is of this deck
abbrev pub is_record_of : Deck → Option Kept → Bool
is_record_of deck None = false
is_record_of deck (Some kept) = same_deck kept.deck deck

-- whether record and object are of the deck as it is
abbrev pub is_sound : Done → DeskDeck → Bool
is_sound done deck = is_record_of (deck_of deck) done.kept && same_deck done.object (deck_of deck)

-- what becomes of a result for a deck whose lease was out: a stale one gives its record back, one that is not the deck's loses it
abbrev pub take_result : Done → Desk → DeskDeck → Answer
take_result done desk deck =
    if not (is_for done deck) || is_none done.kept then answers (Refused Foreign) (with_deck deck.name lost desk)
    else if not (done.version == deck.version) then answers (Refused (Stale deck.version)) (with_deck deck.name (given_back done.kept) desk)
    else if not (is_sound done deck) then answers (Refused Foreign) (with_deck deck.name lost desk)
    else answers Stored (with_deck deck.name (stored done.kept) desk)

-- what becomes of a result, by the deck whose lease it names
abbrev pub deliver_to : Done → Desk → Option DeskDeck → Answer
deliver_to done desk None = answers (Refused UnknownJob) desk
deliver_to done desk (Some deck) = take_result done desk deck

-- DeliverDeck
abbrev pub deliver_deck : Done → Desk → Answer
deliver_deck done desk = deliver_to done desk (deck_leased done.lease desk)

-- the desk without the lease of a link
abbrev pub unlinked : Desk → Desk
unlinked desk = record desk { link = None }

-- what becomes of a publication whose lease was out
abbrev pub take_link : Publication → Desk → Answer
take_link publication desk =
    if not (is_leased_at publication.version desk.link) then answers (Refused Foreign) (unlinked desk)
    else if not (publication.version == desk.version) then answers (Refused (Stale desk.version)) (unlinked desk)
    else if not (same_decks publication.decks (decks_of desk)) then answers (Refused Foreign) (unlinked desk)
    else answers Stored (record (unlinked desk) { publication = Some publication })

-- DeliverLink
abbrev pub deliver_link : ℕ → Publication → Desk → Answer
deliver_link number publication desk = if is_leased number desk.link then take_link publication desk else answers (Refused UnknownJob) desk

-- the publication of a desk as it is
abbrev pub own_publication : Desk → Publication
own_publication desk = record { version = desk.version; decks = decks_of desk }

-- the desk publishes its decks, where the lease of the link was given at its version and each deck has its object; the reply has the publication before
abbrev pub publish_own : Desk → Answer
publish_own desk =
    if not (is_leased_at desk.version desk.link) then answers (Refused (Stale desk.version)) (unlinked desk)
    else if list_any is_behind desk.decks then answers (Refused Foreign) (unlinked desk)
    else answers (Published desk.publication) (record (unlinked desk) { publication = Some (own_publication desk) })

-- Publish
abbrev pub publish : ℕ → Desk → Answer
publish number desk = if is_leased number desk.link then publish_own desk else answers (Refused UnknownJob) desk

-- a lease of no deck is a link's, or none
abbrev pub give_up_of : ℕ → Desk → Option DeskDeck → Answer
give_up_of number desk None = if is_leased number desk.link then answers Cleared (unlinked desk) else answers (Refused UnknownJob) desk
give_up_of number desk (Some deck) = answers Cleared (with_deck deck.name lost desk)

-- GiveUp
abbrev pub give_up : ℕ → Desk → Answer
give_up number desk = give_up_of number desk (deck_leased number desk)
