-- Edits carried over those of others, computed.
use Rattle.std.proofs.Common.{ℕ, ◌≡◌, List, [], ◌∷◌, Result, Ok, Err, refl}
use Rattle.definitions.specs.Cards.{Card}
use Rattle.cards.specs.{declared.edits.Edit.Edit, declared.edits.Edit.TheVariants.{Insert, Replace, Remove}, declared.carrying.MadeEdit.MadeEdit, declared.carrying.Touched.Touched, Carrying.{seen_before, carried}}

-- cards of the sender, and one of another
abbrev x : Card
x = 88 ∷ []

abbrev y : Card
y = 89 ∷ []

abbrev z : Card
z = 90 ∷ []

-- an edit that made a version
abbrev makes : ℕ → Edit → MadeEdit
makes version edit = record { version = version; edit = edit }

-- edits of the sender behind those that others made
abbrev behind : List MadeEdit → List Edit → Result (List Edit) Touched
behind made edits = carried (seen_before made) edits

-- what is touched
abbrev changed : ℕ → ℕ → Result (List Edit) Touched
changed card version = Err (record { card = card; version = version })

-- nobody changed anything
same_deck : behind [] (Insert 1 x ∷ Replace 2 y ∷ Remove 1 ∷ []) ≡ Ok (Insert 1 x ∷ Replace 2 y ∷ Remove 1 ∷ [])
same_deck = refl

-- a card put and a card removed in front move the place
moved_places : behind (makes 4 (Insert 1 z) ∷ makes 5 (Insert 1 z) ∷ makes 6 (Remove 3) ∷ []) (Replace 2 x ∷ []) ≡ Ok (Replace 3 x ∷ [])
moved_places = refl

-- what is behind does not
places_stay : behind (makes 4 (Insert 3 z) ∷ makes 5 (Remove 4) ∷ []) (Remove 2 ∷ []) ≡ Ok (Remove 2 ∷ [])
places_stay = refl

-- a card that was removed, or replaced, the first time in version 5
removed : behind (makes 4 (Insert 1 z) ∷ makes 5 (Remove 3) ∷ []) (Replace 2 x ∷ []) ≡ changed 2 5
removed = refl

replaced : behind (makes 4 (Insert 1 z) ∷ makes 5 (Replace 3 z) ∷ makes 6 (Replace 3 y) ∷ []) (Remove 2 ∷ []) ≡ changed 2 5
replaced = refl

-- an insertion goes in front of the card that it names; where that was changed, behind the one before it; where both were, nowhere
in_front_of_it : behind (makes 4 (Insert 2 z) ∷ []) (Insert 2 x ∷ []) ≡ Ok (Insert 3 x ∷ [])
in_front_of_it = refl

behind_the_other : behind (makes 4 (Insert 2 z) ∷ makes 5 (Remove 3) ∷ []) (Insert 2 x ∷ []) ≡ Ok (Insert 2 x ∷ [])
behind_the_other = refl

both_changed : behind (makes 4 (Replace 1 z) ∷ makes 5 (Replace 2 z) ∷ []) (Insert 2 x ∷ []) ≡ changed 2 5
both_changed = refl

-- nobody changes the beginning and the end, here of two cards
at_the_beginning : behind (makes 4 (Insert 1 z) ∷ makes 5 (Replace 2 z) ∷ []) (Insert 1 x ∷ []) ≡ Ok (Insert 1 x ∷ [])
at_the_beginning = refl

at_the_end : behind (makes 4 (Replace 2 z) ∷ makes 5 (Insert 3 z) ∷ []) (Insert 3 x ∷ []) ≡ Ok (Insert 4 x ∷ [])
at_the_end = refl

-- a batch is numbered in what the ones before leave: card 3 is what was card 2, and what the sender put nobody touched
own_cards : behind (makes 4 (Insert 1 z) ∷ []) (Insert 1 x ∷ Replace 1 y ∷ Remove 3 ∷ Insert 3 x ∷ []) ≡ Ok (Insert 2 x ∷ Replace 2 y ∷ Remove 4 ∷ Insert 4 x ∷ [])
own_cards = refl

-- a touched card is known by its number among those that the sender saw
told_as_seen : behind (makes 4 (Insert 1 z) ∷ makes 6 (Replace 3 z) ∷ []) (Insert 1 x ∷ Remove 2 ∷ Insert 1 y ∷ Replace 3 x ∷ []) ≡ changed 2 6
told_as_seen = refl
