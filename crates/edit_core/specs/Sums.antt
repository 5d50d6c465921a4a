-- What is due for edits, one after the other (ours).
use Rattle.std.specs.Prelude.{ℕ, ⊤, ◌≡◌, ◌+◌, ◌-◌, ◌*◌, ◌≤◌, List, [], ◌∷◌, ◌++◌, length, min}
use Rattle.definitions.specs.{Cards.Card, Laws.Edits.{Edited, IsUntouched, Split, DoAgree}, Laws.Rebound.{rebound_front, rebound_tail}, Statements.Statement}
use Rattle.cards.specs.{Counts.count_after, Edits.{edited, edited_by}, declared.edits.Edit.Edit}
use Rattle.statement_coder.specs.Meters.{Counts}
use Rattle.edit_core.specs.Edited.{front_of, count_behind, statement_count, AreDecksOf, RisesToAnew, RisesToRebound, StandUnchanged}

-- where that ends what is due for an edit: with the deck, or where both decks agree
pub data Ends (decks : Edited) : Type 0 where
  AtEnd : Ends decks
  Agreeing : (split : Split) → DoAgree decks split → Ends decks

-- how many statements of the new deck stand in front of that
abbrev pub in_front : (decks : Edited) → Ends decks → ℕ
in_front decks AtEnd = length decks.new
in_front decks (Agreeing split agree) = length split.new_front

-- how many of those behind it are bound otherwise
abbrev pub rebound_behind : (decks : Edited) → Ends decks → ℕ
rebound_behind decks AtEnd = 0
rebound_behind decks (Agreeing split agree) = rebound_tail decks split.new_front split.new_tail

-- one way to state what is due for an edit of these cards: both decks, statements that stand untouched in front, and an end; where the kind of the deck changes, that is the end of the deck
pub record DueFor (edit : Edit) (cards : List Card) : Type 0 where
  pub decks : Edited
  pub are : AreDecksOf (edit ∷ []) cards decks
  pub stand : StandUnchanged (edit ∷ []) cards decks
  pub front : List Statement
  pub untouched : IsUntouched decks front
  pub ends : Ends decks

-- one for each of edits in order, of the decks before that edit and behind it
abbrev pub DueForEach : List Edit → List Card → Type 0
DueForEach [] cards = ⊤
DueForEach (edit ∷ edits) cards = DueFor edit cards × DueForEach edits (edited cards edit)

-- how many statements stand in all of these fronts
abbrev pub fronts_sum : (edits : List Edit) (cards : List Card) → DueForEach edits cards → ℕ
fronts_sum [] cards each = 0
fronts_sum (edit ∷ edits) cards each = length each.0.front + fronts_sum edits (edited cards edit) each.1

-- how many in front of all of these ends
abbrev pub ends_sum : (edits : List Edit) (cards : List Card) → DueForEach edits cards → ℕ
ends_sum [] cards each = 0
ends_sum (edit ∷ edits) cards each = in_front each.0.decks each.0.ends + ends_sum edits (edited cards edit) each.1

-- how many in all of these fronts, and behind all of these ends, are bound otherwise
abbrev pub rebound_sum : (edits : List Edit) (cards : List Card) → DueForEach edits cards → ℕ
rebound_sum [] cards each = 0
rebound_sum (edit ∷ edits) cards each =
    (rebound_front each.0.decks each.0.front + rebound_behind each.0.decks each.0.ends) + rebound_sum edits (edited cards edit) each.1

-- of so many cards, with so many before those that some edits are of and so many behind them: how many stand between those and the ones that others are of, which have so many before them and behind them
abbrev pub apart : ℕ → ℕ → ℕ → ℕ → ℕ → ℕ
apart count before behind other_before other_behind = (other_before - (count - behind)) + (before - (count - other_behind))

-- how many stand between the card of each of these edits and those that the ones before it are of
abbrev pub between_from : ℕ → ℕ → List Edit → ℕ → ℕ
between_from before behind [] count = 0
between_from before behind (edit ∷ edits) count =
    apart count before behind (front_of edit) (count_behind edit count)
    + between_from (min before (front_of edit)) (min behind (count_behind edit count)) edits (count_after edit count)

-- how many cards stand between edits of so many
abbrev pub cards_between : List Edit → ℕ → ℕ
cards_between [] count = 0
cards_between (edit ∷ edits) count = between_from (front_of edit) (count_behind edit count) edits (count_after edit count)

-- a count rises by no more than is due for each edit, one after the other, however that is stated, and so many more
abbrev pub RisesWithinSum : ℕ → List Edit → List Card → ℕ → ℕ → Type 0
RisesWithinSum more edits cards count now = (each : DueForEach edits cards) → fronts_sum edits cards each + now ≤ ends_sum edits cards each + more + count

-- the same, where what is counted is coded
abbrev pub RisesWithinSumCode : ℕ → List Edit → List Card → ℕ → ℕ → Type 0
RisesWithinSumCode more edits cards count now =
    (each : DueForEach edits cards) → fronts_sum edits cards each + now ≤ ends_sum edits cards each + rebound_sum edits cards each + more + count

-- both, of edits made at once: as is due for each, with the 128 of a piece once and the cards between them
pub record CountsWithinSums (edits : List Edit) (cards : List Card) (old new : Counts) : Type 0 where
  pub sized : RisesWithinSum (128 + cards_between edits (length cards)) edits cards old.sized new.sized
  pub coded : RisesWithinSumCode (128 + cards_between edits (length cards)) edits cards old.coded new.coded

-- how many statements have all the decks that edits leave one after the other, each up to END
abbrev pub statements_sum : List Edit → List Card → ℕ
statements_sum [] cards = 0
statements_sum (edit ∷ edits) cards = statement_count (edited cards edit) + statements_sum edits (edited cards edit)

-- what edits count, made one after the other: no more than the sum of what is due for each, with the 128 of a piece for each, nor than the statements of each deck that they leave
pub record CountsInOrder (edits : List Edit) (cards : List Card) (old new : Counts) : Type 0 where
  pub sized : RisesWithinSum (128 * length edits) edits cards old.sized new.sized
  pub coded : RisesWithinSumCode (128 * length edits) edits cards old.coded new.coded
  pub sized_rises : old.sized ≤ new.sized
  pub sized_few : new.sized ≤ old.sized + statements_sum edits cards
  pub coded_rises : old.coded ≤ new.coded
  pub coded_few : new.coded ≤ old.coded + statements_sum edits cards

-- the edits of groups, one group behind the other
abbrev pub edits_in : List (List Edit) → List Edit
edits_in [] = []
edits_in (group ∷ groups) = group ++ edits_in groups

-- in these groups of edits, made one behind the other, a count rises as is stated of each
abbrev pub RisesByGroups : (List Edit → List Card → ℕ → ℕ → Type 0) → List (List Edit) → List Card → ℕ → ℕ → Type 0
RisesByGroups Rises [] cards count now = count ≡ now
RisesByGroups Rises (group ∷ groups) cards count now = (between : ℕ) × ((count ≤ between) × (Rises group cards count between × RisesByGroups Rises groups (edited_by group cards) between now))

-- and the groups are made of these edits, in their order
pub record RisesInGroups (Rises : List Edit → List Card → ℕ → ℕ → Type 0) (edits : List Edit) (cards : List Card) (count now : ℕ) : Type 0 where
  pub groups : List (List Edit)
  pub all : edits_in groups ≡ edits
  pub rises : RisesByGroups Rises groups cards count now

-- what edits in groups count at least: in each group as edits made at once
pub record CountsAnewInGroups (edits : List Edit) (cards : List Card) (old new : Counts) : Type 0 where
  pub sized : RisesInGroups RisesToAnew edits cards old.sized new.sized
  pub coded : RisesInGroups RisesToRebound edits cards old.coded new.coded
