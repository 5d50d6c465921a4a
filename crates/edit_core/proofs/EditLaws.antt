-- What edits leave of the cards of a record.
use Rattle.std.{specs.Prelude.{◌^◌, IfSome, is_none}, specs.List.count_by, proofs.Common.{◌≡◌, ℕ, ◌+◌, ◌-◌, ◌≤◌, ◌<◌, ◌==◌, Bool, true, false, List, [], ◌∷◌, ◌++◌, length, take, get_or, All, Option, Some, None, option_map, suc, refl, sym, ap, subst, ◌∙◌, arith}, proofs.Math.Seq.take-suc, proofs.lemmas.Bool.eqb-true, proofs.lemmas.List.{nil_from_length, take-take}, proofs.lemmas.List.Elements.{All-head, All-tail, All-push, All-weaker}}
use Rattle.definitions.specs.{Cards.Card, DeckKinds.kind_of_statements, Laws.Edits.{Edited, IsUntouched}, Laws.Rebound.{context_from, is_rebound}, Settled.Settled, Settling.settled_all, StatementItems.Context, Statements.Statement}
use Rattle.cards.{specs.declared.edits.Edit.Edit, specs.declared.edits.Edit.TheVariants.{Insert, Replace, Remove}, specs.declared.edits.EditFault.EditFault, specs.Edits.{fault_of, edited, edited_by, first_fault}, proofs.FaultLaws.{applies-in, edited-few, insert-front, replace-front, remove-front}}
use Rattle.deck_assembler.{specs.Joins.DeckParts.DeckParts, specs.Joins.DueCodes.{bound_otherwise, one_where, RisesReboundOf}, specs.Joins.Formers.known_in, specs.Joins.SizedDecks.IsSizedDeck, specs.Stays.RisesAnew, proofs.DueCodeCounts.bound-counted, proofs.SameLaws.never-bound, proofs.StayLaws.own-stay}
use Rattle.deck_assembler.proofs.FrontLaws.{front-still as still}
use Rattle.edit_core.{specs.Edited.{edits_bound, front_of, statement_count, AreDecksOf, IsRecordOf, RisesBehindFront, RisesToAnew, RisesToRebound}, specs.Faults.{against, against_all, record_fault}, specs.Records.{Record, ArePieces, piece_counts}, proofs.PieceLaws.deck-pieces}

-- what holds of the first cards holds of fewer
fewer : (n m : ℕ) (cards others : List Card) → n ≤ m → take m cards ≡ take m others → take n cards ≡ take n others
fewer n m cards others few e = sym (take-take n m cards few) ∙ ap (take n) e ∙ take-take n m others few

-- the cards before the one that an edit is of stay
front-one : (n : ℕ) (edit : Edit) (cards : List Card) → n ≤ front_of edit → fault_of edit cards ≡ None → take n (edited cards edit) ≡ take n cards
front-one n (Insert place card) cards few none = fewer n (place - 1) _ cards few (insert-front place card cards none)
front-one n (Replace place card) cards few none = fewer n (place - 1) _ cards few (replace-front place card cards)
front-one n (Remove place) cards few none = fewer n (place - 1) _ cards few (remove-front place cards)

-- the first of edits applies, and so do the others to what it leaves
first-of : (edit : Edit) (edits : List Edit) (cards : List Card) → first_fault (edit ∷ edits) cards ≡ None → (fault_of edit cards ≡ None) × (first_fault edits (edited cards edit) ≡ None)
first-of edit edits cards none = applies-in (edit ∷ edits) 0 edit cards (omega arith) refl none

-- the cards before those that edits are of stay
pub front-all : (n : ℕ) (edits : List Edit) (cards : List Card) → All (λ edit. n ≤ front_of edit) edits → first_fault edits cards ≡ None → take n (edited_by edits cards) ≡ take n cards
front-all n [] cards all none = refl
front-all n (edit ∷ edits) cards all none =
    let both = first-of edit edits cards none in
    front-all n edits (edited cards edit) (All-tail (λ e. n ≤ front_of e) edit edits all) both.1
    ∙ front-one n edit cards (All-head (λ e. n ≤ front_of e) edit edits all) both.0

-- edits that apply leave no more cards than a deck may have
pub few-all : (edits : List Edit) (cards : List Card) → first_fault edits cards ≡ None → length cards ≤ 20000 → length (edited_by edits cards) ≤ 20000
few-all [] cards none few = few
few-all (edit ∷ edits) cards none few =
    let both = first-of edit edits cards none in few-all edits (edited cards edit) both.1 (edited-few edit cards both.0 few)

-- what keeps a record from one edit alone
one-fault : (found : Option EditFault) →
    option_map (λ (f : ℕ × EditFault). record_fault f.1) (elim found as (λ x. Option (ℕ × EditFault)) [ Some fault ↦ Some (1, fault) | None ↦ option_map (λ (later : ℕ × EditFault). (later.0 + 1, later.1)) None ])
    ≡ option_map record_fault found
one-fault None = refl
one-fault (Some fault) = refl

pub against-one : (edit : Edit) (is_spent : Bool) (cards : List Card) → against_all (edit ∷ []) is_spent cards ≡ against edit is_spent cards
against-one edit true cards = refl
against-one edit false cards = one-fault (fault_of edit cards)

-- so many cards are before one edit more
pub front-more : (edits : List Edit) (k : ℕ) (edit : Edit) (old new : ℕ) → k < length edits → edit ≡ get_or edits k edit → new ≤ old → new ≤ front_of edit →
    All (λ e. old ≤ front_of e) (take k edits) → All (λ e. new ≤ front_of e) (take (k + 1) edits)
front-more edits k edit old new within is few here all =
    let one : k + 1 ≡ suc k = omega arith in
    let step : take (k + 1) edits ≡ take k edits ++ edit ∷ [] = ap (λ (n : ℕ). take n edits) one ∙ take-suc edits k edit within ∙ ap (λ e. take k edits ++ e ∷ []) (sym is) in
    subst (All (λ e. new ≤ front_of e)) (sym step)
    (All-push (λ e. new ≤ front_of e) (take k edits) edit (All-weaker (λ e. old ≤ front_of e) (λ e. new ≤ front_of e) (λ e h. omega (arith, h, few)) (take k edits) all) here)

-- the pieces of a record that is not spent
pub kept-pieces : (sized : Option DeckParts) (cards : List Card) (pieces : List ℕ) → IfSome sized (λ deck. IsSizedDeck cards deck × (pieces ≡ piece_counts deck.pieces)) → is_none sized ≡ false →
    ArePieces (statement_count cards) pieces
kept-pieces None cards pieces is some = cc
kept-pieces (Some deck) cards pieces is some = subst (ArePieces (statement_count cards)) (sym is.1) (deck-pieces cards deck is.0)

-- no edits leave a record as it is
pub none-made : (edits : List Edit) (made : Record) → (length edits == 0) ≡ true → IsRecordOf made.name made.cards made → IsRecordOf made.name (edited_by edits made.cards) made
none-made edits made none is = subst (λ (es : List Edit). IsRecordOf made.name (edited_by es made.cards) made) (sym (nil_from_length edits (eqb-true (length edits) 0 none))) is

-- the bound of some edits
pub bound-some : (edits : List Edit) (cards : List Card) → (length edits == 0) ≡ false → edits_bound edits cards ≡ statement_count (edited_by edits cards)
bound-some [] cards some = cc
bound-some (edit ∷ edits) cards some = refl

-- where nothing is counted
pub front-still : (edits : List Edit) (cards : List Card) (count : ℕ) → RisesBehindFront edits cards count count
front-still edits cards count = λ decks front are is. still decks front count is

-- so many cards stand before each one that an edit is of
pub decks-before : (edits : List Edit) (cards : List Card) (count : ℕ) (decks : Edited) → ((n : ℕ) → n ≤ 20000 → All (λ edit. n ≤ front_of edit) edits → n ≤ count) → AreDecksOf edits cards decks → length cards ≤ 20000 →
    decks.before ≤ count
decks-before edits cards count decks most are few = let within = are.within in most decks.before (omega (arith, within, few)) are.before

-- no statement of an untouched front is counted where none of one beside these places is
pub front-edited : (edits : List Edit) (own cards made : List Card) (before count now : ℕ) → own ≡ cards → made ≡ edited_by edits own → ((n : ℕ) → n ≤ 20000 → All (λ edit. n ≤ front_of edit) edits → n ≤ before) → length cards ≤ 20000 →
    ((decks : Edited) (front : List Statement) → decks.old ≡ known_in own → decks.new ≡ known_in made → decks.before ≤ before → IsUntouched decks front →
    length front + now ≤ length decks.new + count) → RisesBehindFront edits cards count now
front-edited edits own cards made before count now same after most few bound = λ decks front are is.
    bound decks front (are.old ∙ ap known_in (sym same)) (are.new ∙ ap (λ (l : List Card). known_in (edited_by edits l)) (sym same) ∙ ap known_in (sym after)) (decks-before edits cards before decks most are few) is

-- each statement that is not settled as one of the deck before is counted where it is so beside these cards
pub anew-edited : (edits : List Edit) (own cards made : List Card) (count now : ℕ) → own ≡ cards → made ≡ edited_by edits own → RisesAnew (kind_of_statements (known_in made)) (known_in own) (known_in made) count now → RisesToAnew edits cards count now
anew-edited edits own cards made count now same after anew =
    subst (λ (both : List Card × List Card). RisesAnew (kind_of_statements (known_in both.1)) (known_in both.0) (known_in both.1) count now) (λ i. (same i, (after ∙ ap (λ (l : List Card). edited_by edits l) same) i)) anew

-- without edits all statements are those of the deck
pub anew-none : (edits : List Edit) (cards : List Card) (count : ℕ) → (length edits == 0) ≡ true → RisesToAnew edits cards count count
anew-none edits cards count none =
    subst (λ (es : List Edit). RisesToAnew es cards count count) (sym (nil_from_length edits (eqb-true (length edits) 0 none))) (λ room. own-stay (kind_of_statements (known_in cards)) (known_in cards) [] (known_in cards) _ refl)

-- the same of what is bound otherwise, stated of the cards of an object
pub rebound-edited : (edits : List Edit) (own cards made shown items : List Card) (count start now : ℕ) → own ≡ cards → made ≡ edited_by edits own → own ≡ shown → made ≡ items → start ≡ count → RisesReboundOf shown items start now → RisesToRebound edits cards count now
rebound-edited edits own cards made shown items count start now same after object value begun rises =
    subst (λ (both : List Card × List Card). let old = known_in both.0 in let new = known_in both.1 in count + length new < 2 ^ 64 → count + count_by (is_rebound (context_from old) (context_from new)) (settled_all (kind_of_statements new) new) ≤ now)
    (λ i. ((sym object ∙ same) i, (sym value ∙ after ∙ ap (λ (l : List Card). edited_by edits l) same) i))
    (λ room.
    let known = known_in items in
    let there = rises (omega (arith, room, begun)) in
    let counted = bound-counted (context_from (known_in shown)) (context_from known) (settled_all (kind_of_statements known) known) in
    omega (arith, there, counted, begun))

none-bound : (context : Context) (settled : List Settled) → bound_otherwise context context settled ≡ 0
none-bound context [] = refl
none-bound context (latest ∷ earlier) = let rest = none-bound context earlier in let one = ap one_where (never-bound context context latest refl refl refl) in omega (arith, rest, one)

-- without edits none is bound otherwise
pub rebound-none : (edits : List Edit) (cards : List Card) (count : ℕ) → (length edits == 0) ≡ true → RisesToRebound edits cards count count
rebound-none edits cards count none =
    let known = known_in cards in
    let settled = settled_all (kind_of_statements known) known in
    let counted = bound-counted (context_from known) (context_from known) settled in
    let still = none-bound (context_from known) settled in
    subst (λ (es : List Edit). RisesToRebound es cards count count) (sym (nil_from_length edits (eqb-true (length edits) 0 none))) (λ room. omega (arith, counted, still))
