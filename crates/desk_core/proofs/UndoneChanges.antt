-- An accepted change of edits, taken back at once: the deck has its cards again.
use Rattle.std.proofs.{Common.{◌≡◌, ℕ, ◌+◌, ◌-◌, ◌≤◌, ◌<◌, Bool, true, false, cond, not, nat_le, nat_lt, List, [], ◌∷◌, Option, Some, None, inl, inr, refl, sym, ap, ap₂, ◌∙◌, arith}, lemmas.Bool.{leb-false, or_parts}}
use Rattle.turn_office.specs.declared.history.Entry.{Entry}
use Rattle.desk_core.{specs.Joins.Edits.{Edit, first_fault}, specs.Joins.Causes.when, specs.Changes.{Change, Edited}, specs.Past.{KeptEdit, backs_of}, specs.Desks.{Desk, DeskDeck, deck_named}, specs.Joins.Calls.{Undo, Call, Make, Reply, Carried, Refused, OutOfMemory, OldVersion, Forgotten, NoChange}, specs.Answers.Answer, specs.Changing.{edited_deck, edited, is_batch}, specs.Earlier.edits_behind, specs.Carrying.{cards_of, edit_since_of}, specs.Undoing.{backs_at, against_change, undo, undo_where}, specs.Steps.Steps, specs.Runs.{History, Runs, accepts, change_asked, change_in}, proofs.AnswerLaws.{unrefused, no-reason, all-clear}, proofs.PastAlways.{HasPast, past-named}, proofs.PastRises.{none-behind, rise-after, cards-after}, proofs.StepKinds.{Kind, leaves_desk, ends_link, publishes_decks, edits_deck, does, means, step-kind}, proofs.UndoTakesBack.{found-formed, latest_back}}
use Rattle.desk_core.specs.Joins.Edits as cards

change-told : (is : Bool) (asked : Option Change) (change : Change) → cond is asked None ≡ Some change → (is ≡ true) × (asked ≡ Some change)
change-told true asked change e = (refl, e)
change-told false asked change e = cc

-- edits that a step made of a deck of a name: they applied
record MadeEdits (desk next : Desk) (name : List ℕ) (edits : List Edit) (deck : DeskDeck) : Type 0 where
  by : List ℕ
  made : next ≡ edited name by edits desk
  applied : first_fault edits deck.cards ≡ None

-- what means nothing accepts nothing
none-accepted : (call : Call) (reply : Reply) → accepts reply ≡ true → means call reply ≡ false → ⊥
none-accepted call reply takes silent = let no : true ≡ false = sym takes ∙ (or_parts (accepts reply) (does call reply) silent).0 in cc

made-by : (desk : Desk) (name : List ℕ) (edits : List Edit) (deck : DeskDeck) (call : Call) (reply : Reply) (next : Desk) → deck_named name desk ≡ Some deck → accepts reply ≡ true → change_asked call reply ≡ Some (Edited name edits) →
    Kind desk call reply next → MadeEdits desk next name edits deck
made-by desk name edits deck call reply next found takes asked (edits_deck c r n who made d there applied is) =
    let told : Some (Edited n made) ≡ Some (Edited name edits) = sym is.asked ∙ asked in
    let named : n ≡ name = cc in
    let all : made ≡ edits = cc in
    let decks : Some d ≡ Some deck = sym there ∙ (ap (λ (x : List ℕ). deck_named x desk) named ∙ found) in
    let same : d ≡ deck = cc in
    record {
      by = who;
      made = ap₂ (λ (x : List ℕ) (es : List Edit). edited x who es desk) named all;
      applied = ap₂ (λ (es : List Edit) (x : DeskDeck). first_fault es x.cards) (sym all) (sym same) ∙ applied;
    }
made-by desk name edits deck call reply next found takes asked (leaves_desk c r silent) = absurd (none-accepted c r takes silent)
made-by desk name edits deck call reply next found takes asked (ends_link c r silent) = absurd (none-accepted c r takes silent)
made-by desk name edits deck call reply next found takes asked (publishes_decks c r publication silent shown version decks) = absurd (none-accepted c r takes silent)
made-by desk name edits deck call reply next found takes asked _ = absurd cc

-- the change of a deck that is asked for is kept where nothing speaks against it
kept-then : (version : ℕ) (deck : DeskDeck) → against_change version deck ≡ None → deck.past.since < version
kept-then version deck clear =
    let none = all-clear (when (nat_lt deck.version version) (OldVersion deck.version) ∷ when (nat_le version deck.past.since) (Forgotten deck.past.since) ∷ when (not (is_batch (backs_at version deck))) NoChange ∷ []) clear in
    leb-false version deck.past.since (no-reason (nat_le version deck.past.since) (Forgotten deck.past.since) none.1.0)

-- a change of edits, taken back at once
pub undone : (begun : ℕ) (history : History) (desk next last : Desk) (made : Entry Call Reply) (name who : List ℕ) (deck : DeskDeck) (edits moved : List Edit) (version before : ℕ) →
    Runs begun history desk → deck_named name desk ≡ Some deck → Steps desk made.call made.reply next → change_in made ≡ Some (Edited name edits) →
    Steps next (Make who (Undo name next.version)) (Carried version before moved) last → (after : DeskDeck) × (deck_named name last ≡ Some after) × (after.cards ≡ deck.cards)
undone begun history desk next last made name who deck edits moved version before runs found step asked undoes =
    let both = change-told (accepts made.reply) (change_asked made.call made.reply) (Edited name edits) asked in
    let by_edits = made-by desk name edits deck made.call made.reply next found both.0 both.1 (step-kind desk made.call made.reply next step) in
    at-next by_edits.by by_edits.made by_edits.applied undoes
  where
    at-next : (by : List ℕ) → next ≡ edited name by edits desk → first_fault edits deck.cards ≡ None → Steps next (Make who (Undo name next.version)) (Carried version before moved) last →
        (after : DeskDeck) × (deck_named name last ≡ Some after) × (after.cards ≡ deck.cards)
    at-next by is applied (inr starved) = absurd (let e : Carried version before moved ≡ Refused OutOfMemory = starved.1 in cc)
    at-next by is applied (inl gave) =
        let form = edited_deck (desk.version + 1) by edits in
        let same : next.version ≡ desk.version + 1 = ap (λ (d : Desk). d.version) is in
        let there : deck_named name next ≡ Some (form deck) = ap (λ (d : Desk). deck_named name d) is ∙ found-formed name form desk.decks deck (λ d. refl) found in
        let has : HasPast desk.version deck.cards deck.past = past-named begun history desk name deck runs found in
        let late : edits_behind next.version (form deck) ≡ [] =
        ap (λ (v : ℕ). edits_behind v (form deck)) same ∙ none-behind (desk.version + 1) (form deck).past.since (desk.version + 1) (form deck).past.edits (rise-after desk.version by edits deck.cards deck.past has.rises) (omega arith) in
        let back = latest_back next last name who next.version (form deck) version before moved there late (inl gave) in
        let over : undo name next.version who next ≡ undo_where name next.version who next (Some (form deck)) = ap (undo_where name next.version who next) there in
        let clear = unrefused (against_change next.version (form deck)) next (edit_since_of false name next.version (backs_at next.version (form deck)) who next (Some (form deck))) (Carried version before moved)
        (λ refusal e. cc) (gave.0 ∙ ap (λ (a : Answer). a.reply) over) in
        let kept : (form deck).past.since ≤ desk.version = let less = kept-then next.version (form deck) clear.0 in omega (arith, less, same) in
        let place : next.version - 1 ≡ desk.version = omega (arith, same) in
        let before : cards_of desk.version deck ≡ deck.cards = ap (λ (kept : List KeptEdit). cards.edited_by (backs_of kept) deck.cards) (none-behind desk.version deck.past.since desk.version deck.past.edits has.rises (omega arith)) in
        (back.0, back.1, back.2 ∙ (ap (λ (v : ℕ). cards_of v (form deck)) place ∙ (cards-after desk.version by edits deck.cards deck.past has.rises desk.version applied (omega arith) kept ∙ before)))
