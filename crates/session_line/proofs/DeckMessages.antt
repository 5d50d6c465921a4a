-- The lines of the messages of a deck.
use Rattle.std.{proofs.Common.{ℕ, ◌≡◌, List, [], ◌++◌, sym, ap, ap₂, subst, ◌∙◌}, specs.Prelude.flat_map}
use Rattle.definitions.specs.{Cards.Card, DeckInput.Deck, Objects.object_of}
use Rattle.deck_objects.specs.{Joins.PartsOf.ArePartsOf, declared.lines.Line.Line, declared.object.ObjectParts.ObjectParts}
use Rattle.session_line.{specs.Joins.FlagWalks.flags_in, specs.Joins.MessageWalks.AddsMessages, specs.Messages.{AreMessages, Lettered, deck_letters, letters_of}, proofs.FlagSteps.deck-flags}

-- what is put behind nothing, of what a deck's parts have
pub deck-messages : (deck : Deck) (parts : ObjectParts) (name : List ℕ) (cards : List Card) (lines : List Line) (old new : List ℕ) →
    ArePartsOf deck.cards parts (object_of deck) → name ≡ deck.name → cards ≡ deck.cards → lines ≡ parts.lines.items → old ≡ [] →
    AddsMessages name (flat_map letters_of (flags_in 0 cards lines)) old new → AreMessages deck.name (deck_letters deck) new
deck-messages deck parts name cards lines old new are name-is cards-is lines-is none adds =
    let whole : adds.lines ≡ new = sym (adds.is ∙ ap (λ (l : List ℕ). l ++ adds.lines) none) in
    let letters : flat_map letters_of (flags_in 0 cards lines) ≡ deck_letters deck =
    ap₂ (λ (c : List Card) (l : List Line). flat_map letters_of (flags_in 0 c l)) cards-is lines-is ∙ ap (flat_map letters_of) (deck-flags deck parts are) in
    subst (λ (n : List ℕ). AreMessages n (deck_letters deck) new) name-is
    (subst (λ (l : List Lettered). AreMessages name l new) letters
    (subst (λ (l : List ℕ). AreMessages name (flat_map letters_of (flags_in 0 cards lines)) l) whole adds.are))
