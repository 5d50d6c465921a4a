-- How the code carries edits, one behind the other, at places that it keeps (ours).
use Rattle.std.specs.Prelude.{◌≡◌, ◌≤◌, ◌<◌, ℕ, ◌+◌, ◌*◌, ◌^◌, List, [], ◌∷◌, ◌++◌, length, take, get_or, Result, Ok, Err}
use Rattle.cards.specs.{declared.edits.Edit.Edit, declared.edits.Edit.TheVariants.{Insert, Replace, Remove}, declared.carrying.Touched.Touched, Carrying.{Whereabouts, stands_after, placed}}

-- where the sender's cards stand once edits of his are made at these places of now
abbrev pub stands_through : List Edit → List ℕ → Whereabouts → Whereabouts
stands_through [] places stands = stands
stands_through (edit ∷ edits) [] stands = stands
stands_through (edit ∷ edits) (place ∷ places) stands = stands_through edits places (stands_after edit place stands)

-- edits, as many of them at other places as there are places
abbrev pub placed_all : List Edit → List ℕ → List Edit
placed_all [] places = []
placed_all (edit ∷ edits) [] = edit ∷ edits
placed_all (edit ∷ edits) (place ∷ places) = placed place edit ∷ placed_all edits places

-- the place that an edit names
abbrev pub place_in : Edit → ℕ
place_in (Insert place card) = place
place_in (Replace place card) = place
place_in (Remove place) = place

-- the places that edits name are among those of a deck
abbrev pub AreLow : List Edit → Type 0
AreLow edits = (k : ℕ) (edit : Edit) → k < length edits → edit ≡ get_or edits k edit → place_in edit ≤ 20001

-- the first so many places are no further than so many edits of others and the edits before each can have moved a card
abbrev pub AreNear : ℕ → ℕ → List ℕ → Type 0
AreNear count made places = (k : ℕ) → k < count → get_or places k 0 ≤ 2 ^ 32 + made + 2 * k + 2

-- edits in front of those that are carried
abbrev pub in_front_all : List Edit → Result (List Edit) Touched → Result (List Edit) Touched
in_front_all front (Ok edits) = Ok (front ++ edits)
in_front_all front (Err touched) = Err touched

-- the places where edits are made, as the edits there; or what was touched
abbrev pub carried_to : List Edit → Result (List ℕ) Touched → Result (List Edit) Touched
carried_to edits (Ok places) = Ok (placed_all edits (take (length edits) places))
carried_to edits (Err touched) = Err touched

-- edits that were carried, or what was touched
abbrev pub carried_as : {A : Type 0} → Result A Touched → List Edit → Result (List Edit) Touched
carried_as (Ok done) edits = Ok edits
carried_as (Err touched) edits = Err touched
