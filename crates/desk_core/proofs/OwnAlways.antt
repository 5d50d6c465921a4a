-- The decks of a desk keep names of their own.
use Rattle.std.proofs.Common.{◌≡◌, ℕ, ◌+◌, Bool, true, false, cond, not, List, [], ◌∷◌, map, filter, find, Some, None, refl, sym, ap, ◌∙◌, subst}
use Rattle.desk_core.{specs.Joins.Language.same_text, specs.Desks.{Desk, DeskDeck, is_named, put_if_named}, specs.Joins.Calls.{Call, Reply}, specs.Changing.{added_deck, replaced_deck, edited_deck}, specs.Claiming.given, specs.Delivering.{lost, given_back, stored}, specs.Joins.OwnNames.HaveOwnNames, proofs.PlaceLaws.{fails-head, own-added}, proofs.StepKinds.{Kind, hands_deck, gives_deck_up, is_foreign, gives_back, stores, adds, puts_new, puts_over, drops, edits_deck}}

-- a deck in another form under its name
keeps-name : (named : Bool) (form deck : DeskDeck) → form.name ≡ deck.name → (cond named form deck).name ≡ deck.name
keeps-name true form deck same = same
keeps-name false form deck same = refl

find-put : (asked name : List ℕ) (form : DeskDeck → DeskDeck) (decks : List DeskDeck) → ((deck : DeskDeck) → (form deck).name ≡ deck.name) →
    find (is_named asked) decks ≡ None → find (is_named asked) (map (put_if_named name form) decks) ≡ None
find-put asked name form [] keeps none = refl
find-put asked name form (d ∷ decks) keeps none =
    let head = fails-head (is_named asked d) d (find (is_named asked) decks) none in
    let same = keeps-name (is_named name d) (form d) d (keeps d) in
    let other : is_named asked (put_if_named name form d) ≡ false = ap (λ (text : List ℕ). same_text asked text) same ∙ head.0 in
    ap (λ (b : Bool). cond b (Some (put_if_named name form d)) (find (is_named asked) (map (put_if_named name form) decks))) other ∙ find-put asked name form decks keeps head.1

-- decks keep names of their own where the one of a name has another form under it
pub own-put : (name : List ℕ) (form : DeskDeck → DeskDeck) (decks : List DeskDeck) → ((deck : DeskDeck) → (form deck).name ≡ deck.name) → HaveOwnNames decks → HaveOwnNames (map (put_if_named name form) decks)
own-put name form [] keeps own = tt
own-put name form (d ∷ decks) keeps own =
    let same = keeps-name (is_named name d) (form d) d (keeps d) in
    (subst (λ (text : List ℕ). find (is_named text) (map (put_if_named name form) decks) ≡ None) (sym same) (find-put d.name name form decks keeps own.0), own-put name form decks keeps own.1)

left-head : (pass : Bool) (asked : List ℕ) (d : DeskDeck) (left : List DeskDeck) → is_named asked d ≡ false → find (is_named asked) left ≡ None → find (is_named asked) (cond pass (d ∷ left) left) ≡ None
left-head true asked d left other none = ap (λ (b : Bool). cond b (Some d) (find (is_named asked) left)) other ∙ none
left-head false asked d left other none = none

find-left : (asked : List ℕ) (test : DeskDeck → Bool) (decks : List DeskDeck) → find (is_named asked) decks ≡ None → find (is_named asked) (filter test decks) ≡ None
find-left asked test [] none = refl
find-left asked test (d ∷ decks) none =
    let head = fails-head (is_named asked d) d (find (is_named asked) decks) none in
    left-head (test d) asked d (filter test decks) head.0 (find-left asked test decks head.1)

own-head : (pass : Bool) (d : DeskDeck) (left : List DeskDeck) → find (is_named d.name) left ≡ None → HaveOwnNames left → HaveOwnNames (cond pass (d ∷ left) left)
own-head true d left none own = (none, own)
own-head false d left none own = own

-- and where some of them go
own-left : (test : DeskDeck → Bool) (decks : List DeskDeck) → HaveOwnNames decks → HaveOwnNames (filter test decks)
own-left test [] own = tt
own-left test (d ∷ decks) own = own-head (test d) d (filter test decks) (find-left d.name test decks own.0) (own-left test decks own.1)

-- after each kind of step
pub own-kind : (desk : Desk) (call : Call) (reply : Reply) (next : Desk) → Kind desk call reply next → HaveOwnNames desk.decks → HaveOwnNames next.decks
own-kind desk call reply next (hands_deck deck free) own = own-put deck.name (given (desk.leases + 1)) desk.decks (λ d. refl) own
own-kind desk call reply next (gives_deck_up number deck out) own = own-put deck.name lost desk.decks (λ d. refl) own
own-kind desk call reply next (is_foreign done deck out) own = own-put deck.name lost desk.decks (λ d. refl) own
own-kind desk call reply next (gives_back done deck out there) own = own-put deck.name (given_back done.kept) desk.decks (λ d. refl) own
own-kind desk call reply next (stores done deck out there) own = own-put deck.name (stored done.kept) desk.decks (λ d. refl) own
own-kind desk call reply next (adds who deck none few) own = own-added desk.decks (added_deck (desk.version + 1) deck) none own
own-kind desk call reply next (puts_new who deck seen none few) own = own-added desk.decks (added_deck (desk.version + 1) deck) none own
own-kind desk call reply next (puts_over who deck seen before found few) own = own-put deck.name (replaced_deck (desk.version + 1) deck.cards) desk.decks (λ d. refl) own
own-kind desk call reply next (drops who name seen) own = own-left (λ deck. not (is_named name deck)) desk.decks own
own-kind desk call reply next (edits_deck c r name who edits deck found applied is) own = own-put name (edited_deck (desk.version + 1) who edits) desk.decks (λ d. refl) own
own-kind desk call reply next _ own = own
