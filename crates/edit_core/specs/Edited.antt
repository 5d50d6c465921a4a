-- What edits leave of a record (ours).
use Rattle.std.specs.{Prelude.{◌≡◌, ℕ, ⊤, ◌+◌, ◌-◌, ◌^◌, ◌<◌, ◌≤◌, All, true, false, List, [], ◌∷◌, length, reverse, Option, None, Result, Err, IfOk, IfErr}, List.count_by, Option.ForSome}
use Rattle.definitions.specs.{Cards.Card, DeckKinds.{kind_of_statements, up_to_end}, Laws.Edits.{Edited, IsUntouched, IsWithinDue}, Laws.Rebound.{context_from, is_rebound, IsWithinDueCode}, Settling.settled_all, Statements.{Statement, statements_of}}
use Rattle.cards.specs.{declared.edits.Edit.Edit, declared.edits.Edit.TheVariants.{Insert, Replace, Remove}, Counts.count_after, Edits.edited_by}
use Rattle.statement_coder.specs.Meters.{Counts}
use Rattle.deck_assembler.specs.Stays.{RisesAnew}
use Rattle.edit_core.specs.{declared.faults.RecordFault.RecordFault, declared.faults.RecordFault.TheVariants.OutOfMemory, Records.{Record, ArePieces}}

-- how many statements these cards have up to END
abbrev pub statement_count : List Card → ℕ
statement_count cards = length (up_to_end (statements_of (reverse cards)))

-- how many statements are sized at most, and coded, in making edits at once: those up to END of the cards that they leave, and none where there are no edits
abbrev pub edits_bound : List Edit → List Card → ℕ
edits_bound [] cards = 0
edits_bound (edit ∷ edits) cards = statement_count (edited_by (edit ∷ edits) cards)

-- how many cards stand before the one that an edit is of
abbrev pub front_of : Edit → ℕ
front_of (Insert place card) = place - 1
front_of (Replace place card) = place - 1
front_of (Remove place) = place - 1

-- how many of so many cards stand behind the one that an edit is of
abbrev pub count_behind : Edit → ℕ → ℕ
count_behind (Insert place card) count = count - (place - 1)
count_behind (Replace place card) count = count - (place - 1) - 1
count_behind (Remove place) count = count - (place - 1) - 1

-- so many cards stand behind the one that each of these edits is of; there are so many before the first edit
abbrev pub StandBehind : ℕ → List Edit → ℕ → Type 0
StandBehind behind [] count = ⊤
StandBehind behind (edit ∷ edits) count = (behind ≤ count_behind edit count) × StandBehind behind edits (count_after edit count)

-- a record of this name and these cards, with all that is kept of them
pub record IsRecordOf (name : List ℕ) (cards : List Card) (made : Record) : Type 0 where
  pub name_is : made.name ≡ name
  pub cards_are : made.cards ≡ cards
  pub unspent : made.is_spent ≡ false
  pub pieces_are : ArePieces (statement_count cards) made.pieces

-- how edits of a record end: where something speaks against them, with that fault, and nothing changes; else memory alone may lack, and then the record is spent
pub record EndsAs {T : Type 0} (against : Option RecordFault) (cards : List Card) (old new : Record) (counted counts : Counts) (result : Result T RecordFault) : Type 0 where
  pub refused : ForSome against (λ fault. (result ≡ Err fault) × (new ≡ old) × (counts ≡ counted))
  pub accepted : against ≡ None → IfErr result (λ fault. fault ≡ OutOfMemory)
  pub made : IfOk result (λ _. IsRecordOf old.name cards new)
  pub lost : result ≡ Err OutOfMemory → new.is_spent ≡ true

-- a deck with these cards before edits and after them; so many cards stand before each one that an edit is of
pub record AreDecksOf (edits : List Edit) (cards : List Card) (decks : Edited) : Type 0 where
  pub old : decks.old ≡ up_to_end (statements_of (reverse cards))
  pub new : decks.new ≡ up_to_end (statements_of (reverse (edited_by edits cards)))
  pub before : All (λ edit. decks.before ≤ front_of edit) edits
  pub within : decks.before ≤ length cards

-- a count rises by no more than the statements behind those that stand untouched in front of both decks
abbrev pub RisesBehindFront : List Edit → List Card → ℕ → ℕ → Type 0
RisesBehindFront edits cards count now =
    (decks : Edited) (front : List Statement) → AreDecksOf edits cards decks → IsUntouched decks front → length front + now ≤ length decks.new + count

-- so many cards stand unchanged behind each one that an edit is of, and end both decks
pub record StandUnchanged (edits : List Edit) (cards : List Card) (decks : Edited) : Type 0 where
  pub behind : ℕ
  pub few : behind ≤ length cards
  pub stand : StandBehind behind edits (length cards)
  pub of_old : decks.old_behind + behind ≡ length cards
  pub of_new : decks.new_behind + behind ≡ length (edited_by edits cards)

-- a count rises by no more than is due for the edit of one deck into the other, and the 128 statements of a piece
abbrev pub RisesToDue : List Edit → List Card → ℕ → ℕ → Type 0
RisesToDue edits cards count now = (decks : Edited) → AreDecksOf edits cards decks → StandUnchanged edits cards decks → IsWithinDue decks 128 (now - count)

-- and by none without an edit
abbrev pub RisesWithinDue : List Edit → List Card → ℕ → ℕ → Type 0
RisesWithinDue [] cards count now = now ≡ count
RisesWithinDue (edit ∷ edits) cards count now = RisesToDue (edit ∷ edits) cards count now

-- and by one at least for each statement that edits leave and that is settled as none of the deck before them, unless that is beyond its greatest value
abbrev pub RisesToAnew : List Edit → List Card → ℕ → ℕ → Type 0
RisesToAnew edits cards count now =
    let new = up_to_end (statements_of (reverse (edited_by edits cards))) in RisesAnew (kind_of_statements new) (up_to_end (statements_of (reverse cards))) new count now

-- as due, where what is counted is coded: with the statements of the front and of the tail that are bound otherwise
abbrev pub RisesToDueCode : List Edit → List Card → ℕ → ℕ → Type 0
RisesToDueCode edits cards count now = (decks : Edited) → AreDecksOf edits cards decks → StandUnchanged edits cards decks → IsWithinDueCode decks 128 (now - count)

abbrev pub RisesWithinDueCode : List Edit → List Card → ℕ → ℕ → Type 0
RisesWithinDueCode [] cards count now = now ≡ count
RisesWithinDueCode (edit ∷ edits) cards count now = RisesToDueCode (edit ∷ edits) cards count now

-- and by one at least for each statement that edits leave and that is bound otherwise than in the deck before them, unless that is beyond its greatest value
abbrev pub RisesToRebound : List Edit → List Card → ℕ → ℕ → Type 0
RisesToRebound edits cards count now =
    let old = up_to_end (statements_of (reverse cards)) in
    let new = up_to_end (statements_of (reverse (edited_by edits cards))) in
    count + length new < 2 ^ 64 → count + count_by (is_rebound (context_from old) (context_from new)) (settled_all (kind_of_statements new) new) ≤ now

-- what edits made at once count at most, whether they are made or not
pub record CountsAtOnce (edits : List Edit) (cards : List Card) (old new : Counts) : Type 0 where
  pub sized : new.sized ≤ old.sized + edits_bound edits cards
  pub sized_front : RisesBehindFront edits cards old.sized new.sized
  pub sized_rises : old.sized ≤ new.sized
  pub coded : new.coded ≤ old.coded + edits_bound edits cards
  pub coded_rises : old.coded ≤ new.coded

-- at least, once they are made
pub record CountsAnew (edits : List Edit) (cards : List Card) (old new : Counts) : Type 0 where
  pub sized : RisesToAnew edits cards old.sized new.sized
  pub coded : RisesToRebound edits cards old.coded new.coded

-- at most what is due, where there are edits
pub record CountsToDue (edits : List Edit) (cards : List Card) (old new : Counts) : Type 0 where
  pub sized : RisesToDue edits cards old.sized new.sized
  pub coded : RisesToDueCode edits cards old.coded new.coded

-- and nothing without an edit
pub record CountsWithinDue (edits : List Edit) (cards : List Card) (old new : Counts) : Type 0 where
  pub sized : RisesWithinDue edits cards old.sized new.sized
  pub coded : RisesWithinDueCode edits cards old.coded new.coded
