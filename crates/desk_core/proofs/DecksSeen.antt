-- Names and cards of a desk's decks, after each way in which the desk puts its decks in another form.
use Rattle.std.{proofs.Common.{◌≡◌, ℕ, Bool, true, false, cond, not, ◌||◌, List, [], ◌∷◌, ◌++◌, map, filter, find, is_some, Option, None, Some, refl, sym, ap, ap₂, ◌∙◌}, specs.List.list_any, proofs.lemmas.List.map-append}
use Rattle.desk_core.specs.{Joins.Language.{Card, Deck, same_text}, Joins.Edits.{Edit, edited_by}, Changes.{Put, edited_if_named, put_over, changed}, Desks.{DeskDeck, deck_of, is_named, put_if_named}, Changing.{edited_deck, added_deck, replaced_deck}}

kept_head : (named : Bool) (form deck : DeskDeck) → deck_of form ≡ deck_of deck → deck_of (cond named form deck) ≡ deck_of deck
kept_head true form deck same = same
kept_head false form deck same = refl

-- a form that keeps name and cards keeps those of all decks
pub decks_of-kept : (name : List ℕ) (form : DeskDeck → DeskDeck) → ((deck : DeskDeck) → deck_of (form deck) ≡ deck_of deck) → (decks : List DeskDeck) → map deck_of (map (put_if_named name form) decks) ≡ map deck_of decks
decks_of-kept name form same [] = refl
decks_of-kept name form same (deck ∷ decks) = ap₂ (λ (d : Deck) (ds : List Deck). d ∷ ds) (kept_head (is_named name deck) (form deck) deck (same deck)) (decks_of-kept name form same decks)

edited_head : (named : Bool) (version : ℕ) (who : List ℕ) (edits : List Edit) (deck : DeskDeck) →
    deck_of (cond named (edited_deck version who edits deck) deck) ≡ cond named (record { name = deck.name; cards = edited_by edits deck.cards }) (deck_of deck)
edited_head true version who edits deck = refl
edited_head false version who edits deck = refl

-- edits of the deck of a name are those of the decks that are seen
pub decks_of-edited : (name : List ℕ) (version : ℕ) (who : List ℕ) (edits : List Edit) (decks : List DeskDeck) →
    map deck_of (map (put_if_named name (edited_deck version who edits)) decks) ≡ map (edited_if_named name edits) (map deck_of decks)
decks_of-edited name version who edits [] = refl
decks_of-edited name version who edits (deck ∷ decks) = ap₂ (λ (d : Deck) (ds : List Deck). d ∷ ds) (edited_head (is_named name deck) version who edits deck) (decks_of-edited name version who edits decks)

dropped_head : (named : Bool) (deck : DeskDeck) (left : List DeskDeck) (seen : List Deck) → map deck_of left ≡ seen →
    map deck_of (cond (not named) (deck ∷ left) left) ≡ cond (not named) (deck_of deck ∷ seen) seen
dropped_head true deck left seen same = same
dropped_head false deck left seen same = ap (λ (ds : List Deck). deck_of deck ∷ ds) same

-- the drop of the deck of a name is that of the deck that is seen
pub decks_of-dropped : (name : List ℕ) (decks : List DeskDeck) →
    map deck_of (filter (λ deck. not (is_named name deck)) decks) ≡ filter (λ (deck : Deck). not (same_text name deck.name)) (map deck_of decks)
decks_of-dropped name [] = refl
decks_of-dropped name (deck ∷ decks) = dropped_head (is_named name deck) deck (filter (λ (d : DeskDeck). not (is_named name d)) decks) _ (decks_of-dropped name decks)

-- a deck that is added is seen at the end
pub decks_of-added : (version : ℕ) (deck : Deck) (decks : List DeskDeck) → map deck_of (decks ++ added_deck version deck ∷ []) ≡ map deck_of decks ++ deck ∷ []
decks_of-added version deck decks = map-append deck_of decks (added_deck version deck ∷ [])

either_named : (named : Bool) (deck : DeskDeck) (found : Option DeskDeck) (later : Bool) → later ≡ is_some found → (named || later) ≡ is_some (cond named (Some deck) found)
either_named true deck found later same = refl
either_named false deck found later same = same

-- a deck of a name is seen where one is found
any_named : (name : List ℕ) (decks : List DeskDeck) → list_any (λ (deck : Deck). same_text name deck.name) (map deck_of decks) ≡ is_some (find (is_named name) decks)
any_named name [] = refl
any_named name (deck ∷ decks) = either_named (is_named name deck) deck (find (is_named name) decks) _ (any_named name decks)

-- the decks that are seen after a put, by whether there is one of that name
put_seen : (new : Deck) (decks : List DeskDeck) (named : Bool) → is_some (find (is_named new.name) decks) ≡ named →
    changed (map deck_of decks) (Put new) ≡ cond named (map (put_over new) (map deck_of decks)) (map deck_of decks ++ new ∷ [])
put_seen new decks named is = ap (λ b. cond b (map (put_over new) (map deck_of decks)) (map deck_of decks ++ new ∷ [])) (any_named new.name decks ∙ is)

-- a deck that is put under a name of its own is seen at the end
pub decks_of-put_new : (version : ℕ) (new : Deck) (decks : List DeskDeck) → find (is_named new.name) decks ≡ None → map deck_of (decks ++ added_deck version new ∷ []) ≡ changed (map deck_of decks) (Put new)
decks_of-put_new version new decks none = decks_of-added version new decks ∙ sym (put_seen new decks false (ap (λ (o : Option DeskDeck). is_some o) none))

replaced_head : (named : Bool) (version : ℕ) (cards : List Card) (deck : DeskDeck) →
    deck_of (cond named (replaced_deck version cards deck) deck) ≡ cond named (record { name = deck.name; cards = cards }) (deck_of deck)
replaced_head true version cards deck = refl
replaced_head false version cards deck = refl

replaced_seen : (version : ℕ) (new : Deck) (decks : List DeskDeck) → map deck_of (map (put_if_named new.name (replaced_deck version new.cards)) decks) ≡ map (put_over new) (map deck_of decks)
replaced_seen version new [] = refl
replaced_seen version new (deck ∷ decks) = ap₂ (λ (d : Deck) (ds : List Deck). d ∷ ds) (replaced_head (is_named new.name deck) version new.cards deck) (replaced_seen version new decks)

-- and else in the place of the one of its name
pub decks_of-put_over : (version : ℕ) (new : Deck) (decks : List DeskDeck) (deck : DeskDeck) → find (is_named new.name) decks ≡ Some deck →
    map deck_of (map (put_if_named new.name (replaced_deck version new.cards)) decks) ≡ changed (map deck_of decks) (Put new)
decks_of-put_over version new decks deck found = replaced_seen version new decks ∙ sym (put_seen new decks true (ap (λ (o : Option DeskDeck). is_some o) found))
