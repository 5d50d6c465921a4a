-- Edits carried over those that others made since their sender looked (ours). Places count from 1: 0 stands for the beginning of the deck, and one more than there are cards for its end.
use Rattle.std.specs.Prelude.{ℕ, ◌+◌, ◌-◌, ◌==◌, nat_le, nat_lt, List, [], ◌∷◌, Option, Some, None, Result, Ok, Err, if◌then◌else◌}
use Rattle.cards.specs.declared.{edits.Edit.Edit, edits.Edit.TheVariants.{Insert, Replace, Remove}, carrying.MadeEdit.MadeEdit, carrying.Touched.Touched, carrying.Origin.Origin, carrying.Origin.TheVariants.{Same, Own, Further, Nearer}}

-- where the card of a place stands after an edit of another; nowhere as it was, where the edit is of it
abbrev pub moved : Edit → ℕ → Option ℕ
moved (Insert other card) place = Some (if nat_le other place then place + 1 else place)
moved (Replace other card) place = if other == place then None else Some place
moved (Remove other) place = if other == place then None else Some (if nat_lt other place then place - 1 else place)

-- where the card of a number that stands at this place stands after edits that others made in order; or the version that changed it first
abbrev pub place_after : ℕ → ℕ → List MadeEdit → Result ℕ Touched
place_after number place [] = Ok place
place_after number place (made ∷ later) = elim (moved made.edit place) as (λ x. Result ℕ Touched) [
  | Some next ↦ place_after number next later
  | None ↦ Err (record { card = number; version = made.version })
]

-- where the cards that the sender has stand now, by the places that they have for him; or which change keeps one from standing as he has it
abbrev pub Whereabouts : Type 0
Whereabouts = ℕ → Result ℕ Touched

-- where the cards stand that he saw before others made these edits
abbrev pub seen_before : List MadeEdit → Whereabouts
seen_before made place = place_after place place made

-- a place, one further on
abbrev pub one_further : Result ℕ Touched → Result ℕ Touched
one_further (Ok place) = Ok (place + 1)
one_further (Err touched) = Err touched

-- a place, one further in front
abbrev pub one_nearer : Result ℕ Touched → Result ℕ Touched
one_nearer (Ok place) = Ok (place - 1)
one_nearer (Err touched) = Err touched

-- in front of a card, or, where that was changed, behind the one before it
abbrev pub in_gap : Result ℕ Touched → Result ℕ Touched → Result ℕ Touched
in_gap (Ok place) before = Ok place
in_gap (Err touched) (Ok place) = Ok (place + 1)
in_gap (Err touched) (Err other) = Err touched

-- where an edit of the sender is made now: at the card that it names, an insertion in front of that card or behind the one before it
abbrev pub carried_place : Whereabouts → Edit → Result ℕ Touched
carried_place stands (Insert place card) = in_gap (stands place) (stands (place - 1))
carried_place stands (Replace place card) = stands place
carried_place stands (Remove place) = stands place

-- an edit at another place
abbrev pub placed : ℕ → Edit → Edit
placed now (Insert place card) = Insert now card
placed now (Replace place card) = Replace now card
placed now (Remove place) = Remove now

-- where the sender has from what he has at a place, once an edit of his is made
abbrev pub origin_of : Edit → ℕ → Origin
origin_of (Insert own card) place = if nat_lt place own then Same place else if place == own then Own else Further (place - 1)
origin_of (Replace own card) place = Same place
origin_of (Remove own) place = if nat_lt place own then Same place else Nearer (place + 1)

-- where that stands now, by where it stood before and where the edit is made
abbrev pub stands_from : Origin → ℕ → Whereabouts → Result ℕ Touched
stands_from (Same place) now stands = stands place
stands_from Own now stands = Ok now
stands_from (Further place) now stands = one_further (stands place)
stands_from (Nearer place) now stands = one_nearer (stands place)

-- where the sender's cards stand once an edit of his is made at a place of now
abbrev pub stands_after : Edit → ℕ → Whereabouts → Whereabouts
stands_after edit now stands place = stands_from (origin_of edit place) now stands

-- an edit in front of those that are carried
abbrev pub in_front : Edit → Result (List Edit) Touched → Result (List Edit) Touched
in_front edit (Ok edits) = Ok (edit ∷ edits)
in_front edit (Err touched) = Err touched

-- edits of the sender, each numbered in what the ones before it leave, as they are made now; or the first card of one of them that another changed
abbrev pub carried : Whereabouts → List Edit → Result (List Edit) Touched
carried stands [] = Ok []
carried stands (edit ∷ edits) = elim (carried_place stands edit) as (λ x. Result (List Edit) Touched) [
  | Ok now ↦ in_front (placed now edit) (carried (stands_after edit now stands) edits)
  | Err touched ↦ Err touched
]
