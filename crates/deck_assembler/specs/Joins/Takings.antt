-- What taking the statements of an edited deck beside an old one makes, and counts.
use Rattle.std.specs.Prelude.{ℕ, ◌≡◌, ◌≤◌, ◌<◌, ◌+◌, ◌-◌, ◌^◌, ◌⊎◌, List, [], ◌∷◌, length, min}
use Rattle.cards.specs.{Joins.Spans.statement_at, declared.statement_list.Span.Span}
use Rattle.definitions.specs.{Cards.Card, DeckKinds.{kind_of_statements, up_to_end}, Laws.Edits.{DoAgree, Edited, IsUntouched, Split}, Statements.Statement, declared.deck_kind.DeckKind.DeckKind}
use Rattle.statement_coder.specs.Meters.{Counts, RisesBy}
use Rattle.deck_assembler.specs.{Joins.DeckParts.DeckParts, Joins.FirstStatements.{all_statements, first_statements, IsEnding}, Joins.Formers.{known_in, IsFormerOf}, Joins.Meetings.{IsBounded, IsNextKnown, StandApart, WillAgree}, Joins.OldDecks.{GoesOn, IsKeptOn, IsOnSpan, StandsInFront}, Joins.SizedDecks.IsSizedDeck, Joins.Sizers.IsSizer, Joins.Tails.{HasTailIfAny, HasTailWithin}, Stays.{IsCountedOrStays, RisesAnew}, declared.former.Former.Former, declared.old_deck.OldDeck.OldDeck, declared.sizer.Sizer.Sizer}
use Rattle.deck_assembler.specs.declared.old_deck.Stage.TheVariants as stages

-- an old deck of some cards goes on with none of the statements of these taken
abbrev pub HasOld : DeckKind → List Card → OldDeck → Type 0
HasOld kind cards deck = (of : List Card) × IsKeptOn kind of cards [] deck

-- the first so many spans are the statements up to END, which are taken; a tail begins where the old deck has it, and in time
pub record AreTaken (kind : DeckKind) (cards : List Card) (spans : List Span) (deck : OldDeck) (sizer : Sizer) (count tail : ℕ) : Type 0 where
  pub ended : IsEnding cards spans count
  pub taken : IsSizer kind cards (first_statements cards spans count) sizer
  pub has_tail : (of : List Card) → IsKeptOn kind of cards [] deck → HasTailIfAny kind of cards tail (first_statements cards spans count)
  pub within : (of : List Card) (front : List Statement) (limit : ℕ) → IsKeptOn kind of cards [] deck → StandsInFront of (up_to_end (all_statements cards spans)) front deck →
      IsBounded cards spans front limit → WillAgree kind of cards limit [] deck → HasTailWithin kind of cards tail (first_statements cards spans count) limit

-- what that counts at most, whether memory lacked or not
pub record CountsTaking (kind : DeckKind) (cards : List Card) (spans : List Span) (deck : OldDeck) (old new : Counts) : Type 0 where
  pub sized : new.sized ≤ old.sized + length (up_to_end (all_statements cards spans))
  pub front : (of : List Card) (front : List Statement) → IsKeptOn kind of cards [] deck → StandsInFront of (up_to_end (all_statements cards spans)) front deck →
      length front + new.sized ≤ length (up_to_end (all_statements cards spans)) + old.sized
  pub due : (of : List Card) (front : List Statement) (limit : ℕ) → IsKeptOn kind of cards [] deck → StandsInFront of (up_to_end (all_statements cards spans)) front deck →
      IsBounded cards spans front limit → WillAgree kind of cards limit [] deck → length front + new.sized ≤ limit + old.sized
  pub rises : old.sized ≤ new.sized
  pub coded : new.coded ≡ old.coded

-- and at least, once they are taken
pub record CountsTaken (kind : DeckKind) (cards : List Card) (spans : List Span) (deck : OldDeck) (count : ℕ) (old new : Counts) : Type 0 where
  pub anew : (of : List Card) → IsKeptOn kind of cards [] deck → RisesAnew kind (known_in of) (first_statements cards spans count) old.sized new.sized
  pub all : deck.stage ≡ stages.Over → RisesBy (length (up_to_end (all_statements cards spans))) old.sized new.sized

-- the statement of a span is taken: the old deck goes on behind it, its front where that does, and both are still found to agree in time
pub record IsOneTaken (kind : DeckKind) (of cards : List Card) (earlier : List Statement) (span : Span) (old : OldDeck) (made : Sizer) (new : OldDeck) : Type 0 where
  pub taken : IsSizer kind cards (statement_at cards span ∷ earlier) made
  pub kept_on : IsKeptOn kind of cards (statement_at cards span ∷ earlier) new
  pub front : GoesOn of cards earlier span old → (new.stage ≡ stages.Front) × (new.before ≡ old.before)
  pub due : (limit : ℕ) → IsNextKnown cards earlier span limit → WillAgree kind of cards limit earlier old → WillAgree kind of cards limit (statement_at cards span ∷ earlier) new

-- so it is wherever the span is the next one
abbrev pub TakesOne : DeckKind → List Card → Span → Sizer → OldDeck → Sizer → OldDeck → Type 0
TakesOne kind cards span sizer old made new = (of : List Card) (earlier : List Statement) → IsOnSpan kind of cards earlier span sizer old → IsOneTaken kind of cards earlier span old made new

-- what that counts at most: nothing where a front goes on, nor behind a limit in which both decks agree
pub record CountsOne (kind : DeckKind) (cards : List Card) (span : Span) (sizer : Sizer) (deck : OldDeck) (old new : Counts) : Type 0 where
  pub kept : (of : List Card) (earlier : List Statement) → IsOnSpan kind of cards earlier span sizer deck → GoesOn of cards earlier span deck → new.sized ≡ old.sized
  pub in_time : (of : List Card) (earlier : List Statement) (limit : ℕ) → IsOnSpan kind of cards earlier span sizer deck → IsNextKnown cards earlier span limit →
      WillAgree kind of cards limit earlier deck → (new.sized ≡ old.sized) ⊎ (length earlier < limit)
  pub sized : new.sized ≤ old.sized + 1
  pub rises : old.sized ≤ new.sized
  pub coded : new.coded ≡ old.coded

-- and at least
pub record CountsOneTaken (kind : DeckKind) (cards : List Card) (span : Span) (sizer : Sizer) (deck : OldDeck) (old new : Counts) : Type 0 where
  pub anew : (of : List Card) (earlier : List Statement) → IsOnSpan kind of cards earlier span sizer deck → IsCountedOrStays kind (known_in of) earlier (statement_at cards span) old.sized new.sized
  pub all : deck.stage ≡ stages.Over → new.sized ≡ min (old.sized + 1) (2 ^ 64 - 1)

-- the deck of all these statements, and its tail
pub record IsMade (kind : DeckKind) (cards : List Card) (old : OldDeck) (deck : DeckParts) (tail : ℕ) : Type 0 where
  pub deck_is : IsSizedDeck cards deck
  pub has_tail : (of : List Card) → IsKeptOn kind of cards [] old → HasTailIfAny kind of cards tail (known_in cards)
  pub within : (of : List Card) (front : List Statement) (limit : ℕ) → IsKeptOn kind of cards [] old → StandsInFront of (known_in cards) front old →
      length front ≤ limit → limit < length (known_in cards) → WillAgree kind of cards limit [] old → HasTailWithin kind of cards tail (known_in cards) limit

-- what making it counts at most, whether memory lacked or not
pub record CountsMaking (kind : DeckKind) (cards : List Card) (deck : OldDeck) (old new : Counts) : Type 0 where
  pub sized : new.sized ≤ old.sized + length (known_in cards)
  pub front : (of : List Card) (front : List Statement) → IsKeptOn kind of cards [] deck → StandsInFront of (known_in cards) front deck → length front + new.sized ≤ length (known_in cards) + old.sized
  pub due : (of : List Card) (front : List Statement) (limit : ℕ) → IsKeptOn kind of cards [] deck → StandsInFront of (known_in cards) front deck →
      length front ≤ limit → limit < length (known_in cards) → WillAgree kind of cards limit [] deck → length front + new.sized ≤ limit + old.sized
  pub rises : old.sized ≤ new.sized
  pub coded : new.coded ≡ old.coded

-- and at least, once it is made
pub record CountsMade (kind : DeckKind) (cards : List Card) (deck : OldDeck) (old new : Counts) : Type 0 where
  pub anew : (of : List Card) → IsKeptOn kind of cards [] deck → RisesAnew kind (known_in of) (known_in cards) old.sized new.sized
  pub all : deck.stage ≡ stages.Over → RisesBy (length (known_in cards)) old.sized new.sized

-- what is kept of the deck before an edit, which has so many cards in front of the edited one and behind it
pub record IsFormerDeck (old cards : List Card) (before behind : ℕ) (former : Former) : Type 0 where
  pub former_is : IsFormerOf old former
  pub before_is : former.before ≡ before
  pub kinds : (former.kind ≡ kind_of_statements (known_in cards)) ⊎ (former.tail ≡ 0)
  pub tail : HasTailIfAny (kind_of_statements (known_in cards)) old cards former.tail (known_in cards)
  pub within : (decks : Edited) (front : List Statement) (split : Split) → StandApart old cards before behind decks → decks.before ≤ before → IsUntouched decks front → DoAgree decks split →
      length split.new_front + 128 < length (known_in cards) → HasTailWithin (kind_of_statements (known_in cards)) old cards former.tail (known_in cards) (length split.new_front + 128)

-- what the edited deck counts at most, whether memory lacked or not
pub record CountsEdited (old cards : List Card) (before behind : ℕ) (counted counts : Counts) : Type 0 where
  pub sized : counts.sized ≤ counted.sized + length (known_in cards)
  pub front : (decks : Edited) (front : List Statement) → decks.old ≡ known_in old → decks.new ≡ known_in cards → decks.before ≤ before → IsUntouched decks front →
      length front + counts.sized ≤ length decks.new + counted.sized
  pub due : (decks : Edited) (front : List Statement) (split : Split) → StandApart old cards before behind decks → decks.before ≤ before → IsUntouched decks front → DoAgree decks split →
      length front + counts.sized ≤ (length split.new_front + 128) + counted.sized
  pub rises : counted.sized ≤ counts.sized
  pub coded : counts.coded ≡ counted.coded

-- a count rises by one at least for each statement of the edited deck that is settled as none of the old one
abbrev pub RisesAnewOf : List Card → List Card → ℕ → ℕ → Type 0
RisesAnewOf old cards count now = RisesAnew (kind_of_statements (known_in cards)) (known_in old) (known_in cards) count now
