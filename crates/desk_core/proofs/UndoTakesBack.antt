-- What takes a change back leads to the cards at the version before; and an undo of a deck's latest change makes it as it stands.
use Rattle.std.proofs.{Common.{◌≡◌, ℕ, zero, suc, ◌+◌, ◌-◌, ◌==◌, ◌≤◌, Bool, true, false, cond, List, [], ◌∷◌, ◌++◌, length, take, map, find, nat_lt, inl, inr, Option, Some, option_map, Result, Ok, Err, refl, sym, ap, ap₂, ◌∙◌, subst, arith, append_assoc, append-nil, eqb-true}, lemmas.Bool.{ltb-true, ltb-false, false_from_ne_true, cond_both}, lemmas.List.Sums.fold-append}
use Rattle.cards.specs.{declared.carrying.Touched.Touched, Carrying.{Whereabouts, seen_before, one_further, one_nearer, in_gap, carried_place, placed, in_front, stands_from, stands_after, carried}}
use Rattle.desk_core.{specs.Joins.Language.{Card, same_text}, specs.Joins.Edits.{Edit, Insert, Replace, Remove, edited, edited_by}, specs.Past.{KeptEdit, behind, change_at, backs_of}, specs.Desks.{Desk, DeskDeck, is_named, deck_named, put_if_named}, specs.Joins.Calls.{Undo, Make, Carried, Refused, OutOfMemory}, specs.Answers.Answer, specs.Changing.edited_deck, specs.Earlier.edits_behind, specs.Carrying.{made_in, cards_of, carried_since, against_carry, accept_carried, edit_since_of}, specs.Undoing.{backs_at, against_change, undo, undo_where}, specs.Steps.Steps, proofs.AnswerLaws.unrefused}
use Rattle.desk_core.specs.Changing as changing

-- those behind a version are the last of all
either-few : (b : Bool) (one : KeptEdit) (later rest : List KeptEdit) → length rest ≤ length later → length (cond b (one ∷ later) rest) ≤ suc (length later)
either-few true one later rest few = omega arith
either-few false one later rest few = omega (arith, few)

behind-few : (version : ℕ) (kept : List KeptEdit) → length (behind version kept) ≤ length kept
behind-few version [] = omega arith
behind-few version (one ∷ later) = either-few (nat_lt version one.version) one later (behind version later) (behind-few version later)

-- all but so many of the last
abbrev front_of : List KeptEdit → List KeptEdit → List KeptEdit
front_of all rest = take (length all - length rest) all

either-parts : (b : Bool) (one : KeptEdit) (later rest : List KeptEdit) → length rest ≤ length later → front_of later rest ++ rest ≡ later →
    front_of (one ∷ later) (cond b (one ∷ later) rest) ++ cond b (one ∷ later) rest ≡ one ∷ later
either-parts true one later rest few parts =
    let none : suc (length later) - suc (length later) ≡ 0 = omega arith in
    ap (λ (n : ℕ). take n (one ∷ later) ++ (one ∷ later)) none
either-parts false one later rest few parts =
    let more : suc (length later) - length rest ≡ suc (length later - length rest) = omega (arith, few) in
    ap (λ (n : ℕ). take n (one ∷ later) ++ rest) more ∙ ap (λ (kept : List KeptEdit). one ∷ kept) parts

behind-parts : (version : ℕ) (kept : List KeptEdit) → front_of kept (behind version kept) ++ behind version kept ≡ kept
behind-parts version [] = refl
behind-parts version (one ∷ later) = either-parts (nat_lt version one.version) one later (behind version later) (behind-few version later) (behind-parts version later)

not-later : (version other : ℕ) → nat_lt (version - 1) other ≡ false → nat_lt version other ≡ false
not-later version other early =
    let low = ltb-false (version - 1) other early in
    false_from_ne_true (nat_lt version other) (λ is. let less = ltb-true version other is in absurd (omega (arith, low, less)))

either-between : (early late : Bool) (one : KeptEdit) (later before after : List KeptEdit) → (early ≡ false → late ≡ false) →
    front_of (one ∷ later) (cond late (one ∷ later) after) ++ cond late (one ∷ later) after ≡ one ∷ later → front_of before after ++ after ≡ before →
    front_of (cond early (one ∷ later) before) (cond late (one ∷ later) after) ++ cond late (one ∷ later) after ≡ cond early (one ∷ later) before
either-between true late one later before after falls whole rest = whole
either-between false late one later before after falls whole rest =
    let no : false ≡ late = sym (falls refl) in
    subst (λ (b : Bool). front_of before (cond b (one ∷ later) after) ++ cond b (one ∷ later) after ≡ before) no rest

-- behind the version before stand the change of this one and all behind it
pub change-parts : (version : ℕ) (kept : List KeptEdit) → change_at version kept ++ behind version kept ≡ behind (version - 1) kept
change-parts version [] = refl
change-parts version (one ∷ later) =
    either-between (nat_lt (version - 1) one.version) (nat_lt version one.version) one later (behind (version - 1) later) (behind version later)
    (not-later version one.version) (behind-parts version (one ∷ later)) (change-parts version later)

-- what takes edits back, of those in front last
pub backs-append : (a b : List KeptEdit) → backs_of (a ++ b) ≡ backs_of b ++ backs_of a
backs-append [] b = sym (append-nil (backs_of b))
backs-append (one ∷ a) b = ap (λ (edits : List Edit). edits ++ one.back ∷ []) (backs-append a b) ∙ append_assoc (backs_of b) (backs_of a) (one.back ∷ [])

-- made on the cards at a version, what takes its change back gives those at the version before
pub brings_back : (version : ℕ) (deck : DeskDeck) → edited_by (backs_at version deck) (cards_of version deck) ≡ cards_of (version - 1) deck
brings_back version deck =
    let kept = deck.past.edits in
    sym (fold-append edited deck.cards (backs_of (behind version kept)) (backs_of (change_at version kept)))
    ∙ (ap (λ (edits : List Edit). edited_by edits deck.cards) (sym (backs-append (change_at version kept) (behind version kept)))
    ∙ ap (λ (all : List KeptEdit). edited_by (backs_of all) deck.cards) (change-parts version kept))

-- whereabouts of cards that all stand where the sender has them
abbrev StandStill : Whereabouts → Type 0
StandStill stands = (place : ℕ) → stands place ≡ Ok place

one-more : (place own : ℕ) → own ≤ place → (place == own) ≡ false → place - 1 + 1 ≡ place
one-more zero zero high other = cc
one-more zero (suc own) high other = absurd (omega (arith, high))
one-more (suc place) own high other = omega arith

one-on : (place own : ℕ) → nat_lt place own ≡ false → (place == own) ≡ false → place - 1 + 1 ≡ place
one-on place own far other = one-more place own (ltb-false place own far) other

abbrev at_place : Edit → ℕ
at_place (Insert place card) = place
at_place (Replace place card) = place
at_place (Remove place) = place

still-after : (stands : Whereabouts) (edit : Edit) → StandStill stands → StandStill (stands_after edit (at_place edit) stands)
still-after stands (Insert own card) still = λ place.
    cond_both (nat_lt place own) _ _ (λ o. stands_from o own stands ≡ Ok place) (λ near. still place)
    (λ far. cond_both (place == own) _ _ (λ o. stands_from o own stands ≡ Ok place) (λ same. ap (λ (n : ℕ). Ok n) (sym (eqb-true place own same)))
    (λ other. ap (λ (r : Result ℕ Touched). one_further r) (still (place - 1)) ∙ ap (λ (n : ℕ). Ok n) (one-on place own far other)))
still-after stands (Replace own card) still = still
still-after stands (Remove own) still = λ place.
    let back : place + 1 - 1 ≡ place = omega arith in
    cond_both (nat_lt place own) _ _ (λ o. stands_from o own stands ≡ Ok place) (λ near. still place)
    (λ far. ap (λ (r : Result ℕ Touched). one_nearer r) (still (place + 1)) ∙ ap (λ (n : ℕ). Ok n) back)

found-still : (stands : Whereabouts) (edit : Edit) → StandStill stands → carried_place stands edit ≡ Ok (at_place edit)
found-still stands (Insert own card) still = ap (λ (r : Result ℕ Touched). in_gap r (stands (own - 1))) (still own)
found-still stands (Replace own card) still = still own
found-still stands (Remove own) still = still own

placed-still : (edit : Edit) → placed (at_place edit) edit ≡ edit
placed-still (Insert own card) = refl
placed-still (Replace own card) = refl
placed-still (Remove own) = refl

-- edits behind which nothing was made are carried as they stand
pub carried-still : (stands : Whereabouts) (edits : List Edit) → StandStill stands → carried stands edits ≡ Ok edits
carried-still stands [] still = refl
carried-still stands (edit ∷ edits) still =
    ap (λ (r : Result ℕ Touched). elim r as (λ x. Result (List Edit) Touched) [ Ok now ↦ in_front (placed now edit) (carried (stands_after edit now stands) edits) | Err touched ↦ Err touched ]) (found-still stands edit still)
    ∙ ap₂ (λ (e : Edit) (r : Result (List Edit) Touched). in_front e r) (placed-still edit) (carried-still (stands_after edit (at_place edit) stands) edits (still-after stands edit still))

-- an answer that accepts edits that were carried shows those that were made
pub accepts-made : (name who : List ℕ) (desk : Desk) (deck : DeskDeck) (moved : Result (List Edit) Touched) (made before : ℕ) (edits : List Edit) →
    Carried made before edits ≡ (accept_carried name who desk deck moved).reply → (moved ≡ Ok edits) × ((accept_carried name who desk deck moved).desk ≡ changing.edited name who edits desk)
accepts-made name who desk deck (Ok told) made before edits e = let same : told ≡ edits = cc in (ap (λ (es : List Edit). Ok es) same, ap (λ (es : List Edit). changing.edited name who es desk) same)
accepts-made name who desk deck (Err touched) made before edits e = cc

found-head : (name : List ℕ) (form : DeskDeck → DeskDeck) (d deck : DeskDeck) (rest formed : Option DeskDeck) (named : Bool) → ((d : DeskDeck) → (form d).name ≡ d.name) → is_named name d ≡ named →
    cond named (Some d) rest ≡ Some deck → (rest ≡ Some deck → formed ≡ Some (form deck)) →
    cond (is_named name (cond named (form d) d)) (Some (cond named (form d) d)) formed ≡ Some (form deck)
found-head name form d deck rest formed true keeps is here later =
    let same : d ≡ deck = cc in
    let named : is_named name (form d) ≡ true = ap (λ (n : List ℕ). same_text name n) (keeps d) ∙ is in
    ap (λ (b : Bool). cond b (Some (form d)) formed) named ∙ ap (λ (x : DeskDeck). Some (form x)) same
found-head name form d deck rest formed false keeps is here later = ap (λ (b : Bool). cond b (Some d) formed) is ∙ later here

-- the deck of a name in another form
pub found-formed : (name : List ℕ) (form : DeskDeck → DeskDeck) (decks : List DeskDeck) (deck : DeskDeck) → ((d : DeskDeck) → (form d).name ≡ d.name) → find (is_named name) decks ≡ Some deck →
    find (is_named name) (map (put_if_named name form) decks) ≡ Some (form deck)
found-formed name form [] deck keeps found = cc
found-formed name form (d ∷ decks) deck keeps found =
    found-head name form d deck (find (is_named name) decks) (find (is_named name) (map (put_if_named name form) decks)) (is_named name d) keeps refl found (λ later. found-formed name form decks deck keeps later)

-- the latest change of a deck, taken back
pub latest_back : (desk next : Desk) (name who : List ℕ) (version : ℕ) (deck : DeskDeck) (made before : ℕ) (edits : List Edit) →
    deck_named name desk ≡ Some deck → edits_behind version deck ≡ [] → Steps desk (Make who (Undo name version)) (Carried made before edits) next →
    (after : DeskDeck) × (deck_named name next ≡ Some after) × (after.cards ≡ cards_of (version - 1) deck)
latest_back desk next name who version deck made before edits found none (inr starved) = let e : Carried made before edits ≡ Refused OutOfMemory = starved.1 in cc
latest_back desk next name who version deck made before edits found none (inl gave) =
    let backs = backs_at version deck in
    let last = accept_carried name who desk deck (carried_since version backs deck) in
    let over : undo name version who desk ≡ undo_where name version who desk (Some deck) = ap (undo_where name version who desk) found in
    let told : Carried made before edits ≡ (undo_where name version who desk (Some deck)).reply = gave.0 ∙ ap (λ (a : Answer). a.reply) over in
    let one = (unrefused (against_change version deck) desk (edit_since_of false name version backs who desk (Some deck)) (Carried made before edits) (λ refusal e. cc) told).1 in
    let told_on : Carried made before edits ≡ (edit_since_of false name version backs who desk (Some deck)).reply = told ∙ ap (λ (a : Answer). a.reply) one in
    let two = (unrefused (option_map (changing.shown false) (against_carry version backs desk deck)) desk last (Carried made before edits) (λ refusal e. cc) told_on).1 in
    let both = accepts-made name who desk deck (carried_since version backs deck) made before edits (told_on ∙ ap (λ (a : Answer). a.reply) two) in
    let still : carried_since version backs deck ≡ Ok backs = ap (λ (kept : List KeptEdit). carried (seen_before (made_in kept)) backs) none ∙ carried-still (seen_before []) backs (λ place. refl) in
    let same : edits ≡ backs = let e : Ok edits ≡ Ok backs = sym both.0 ∙ still in cc in
    let form = edited_deck (desk.version + 1) who edits in
    let is : next ≡ changing.edited name who edits desk = gave.1 ∙ (ap (λ (a : Answer). a.desk) (over ∙ (one ∙ two)) ∙ both.1) in
    let there : deck_named name next ≡ Some (form deck) = ap (λ (d : Desk). deck_named name d) is ∙ found-formed name form desk.decks deck (λ d. refl) found in
    let now : deck.cards ≡ cards_of version deck = sym (ap (λ (kept : List KeptEdit). edited_by (backs_of kept) deck.cards) none) in
    let cards : edited_by edits deck.cards ≡ cards_of (version - 1) deck =
    ap₂ (λ (es : List Edit) (cs : List Card). edited_by es cs) same now ∙ brings_back version deck in
    (form deck, there, cards)
