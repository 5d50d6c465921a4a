-- The past of each deck led to its cards, and its versions rise to the desk's, in every run.
use Rattle.std.proofs.Common.{◌≡◌, ℕ, ◌+◌, ◌≤◌, List, length, Some, sym, subst, arith}
use Rattle.desk_core.{specs.Joins.Language.Card, specs.Led.{HaveLed, IsPastOf}, specs.Past.Past, specs.Desks.{Desk, DeskDeck, new_desk_at, is_named, deck_named}, specs.Earlier.edits_behind, specs.Carrying.cards_of, specs.Runs.{History, Runs}, proofs.CardCounts.edited_by-few, proofs.EachDeck.{OfDeck, IsKept, AllSo, so-through}, proofs.PastLaws.{past-begun, past-more, past-behind, backs-bring}, proofs.PastRises.{Rise, rise-later, rise-after}, proofs.TellingDecks.found_told}

-- cards, no more than a deck may have, to which a past led whose versions rise to this one
pub record HasPast (version : ℕ) (cards : List Card) (past : Past) : Type 0 where
  pub few : length cards ≤ 20000
  pub led : IsPastOf past.edits cards
  pub rises : Rise past.since version past.edits

abbrev pub PastOf : ℕ → List ℕ → List Card → Past → Type 0
PastOf version name cards past = HasPast version cards past

-- each change keeps it
pub past-kept : (version : ℕ) → IsKept PastOf version
past-kept version = record {
  begins = λ name cards few. record { few = few; led = past-begun cards few; rises = omega arith };
  edits = λ name by made cards past has none. record {
    few = edited_by-few made cards none has.few;
    led = past-more (version + 1) by made cards past has.led none;
    rises = rise-after version by made cards past has.rises;
  };
  later = λ name cards past has. record { few = has.few; led = has.led; rises = rise-later past.since version past.edits has.rises };
}

-- and so it holds of the deck of a name
pub past-named : (begun : ℕ) (history : History) (desk : Desk) (name : List ℕ) (deck : DeskDeck) → Runs begun history desk → deck_named name desk ≡ Some deck → HasPast desk.version deck.cards deck.past
past-named begun history desk name deck runs found =
    let so : AllSo PastOf desk = so-through PastOf (new_desk_at begun) desk history past-kept runs (record { own = tt; all = tt }) in
    (found_told (OfDeck PastOf desk.version) (is_named name) desk.decks deck so.all found).0

-- the edits behind a version led from the cards of that version
pub led-behind : (now version : ℕ) (deck : DeskDeck) → HasPast now deck.cards deck.past → HaveLed (cards_of version deck) (edits_behind version deck) deck.cards
led-behind now version deck has =
    let past = past-behind version deck.past.edits deck.cards has.led in
    subst (λ (cards : List Card). HaveLed cards (edits_behind version deck) deck.cards) (sym (backs-bring (edits_behind version deck) deck.cards past)) past.led

pub led_there : (begun : ℕ) (history : History) (desk : Desk) (name : List ℕ) (deck : DeskDeck) (version : ℕ) → Runs begun history desk → deck_named name desk ≡ Some deck →
    HaveLed (cards_of version deck) (edits_behind version deck) deck.cards
led_there begun history desk name deck version runs found = led-behind desk.version version deck (past-named begun history desk name deck runs found)
