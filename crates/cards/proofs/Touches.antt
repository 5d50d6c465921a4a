-- What is stated of a card that was changed is so.
use Rattle.std.proofs.Common.{ℕ, ◌≡◌, ◌⊎◌, inl, inr, List, [], ◌∷◌, ◌++◌, Option, Some, None, Result, Ok, Err, refl, ap, subst, ◌∙◌}
use Rattle.cards.specs.{declared.edits.Edit.Edit, declared.edits.Edit.TheVariants.{Insert, Replace, Remove}, declared.carrying.MadeEdit.MadeEdit, declared.carrying.Touched.Touched, declared.carrying.Origin.Origin, declared.carrying.Origin.TheVariants.{Same, Own, Further, Nearer}, Carrying.{Whereabouts, moved, place_after, seen_before, one_further, one_nearer, in_gap, carried_place, placed, origin_of, stands_from, stands_after, in_front, carried}, Converging.WasChanged}

-- a card of a number was changed behind a place where it stood
record ChangedFrom (number start : ℕ) (made : List MadeEdit) (touched : Touched) : Type 0 where
  pub before : List MadeEdit
  pub one : MadeEdit
  pub later : List MadeEdit
  pub in_order : made ≡ before ++ one ∷ later
  pub place : ℕ
  pub stood : place_after number start before ≡ Ok place
  pub changed : moved one.edit place ≡ None
  pub version : one.version ≡ touched.version
  pub card : number ≡ touched.card

-- by what becomes of the place at the first edit
changed-first : (found : Option ℕ) (number start : ℕ) (first : MadeEdit) (later : List MadeEdit) (touched : Touched) → moved first.edit start ≡ found →
    ((next : ℕ) → place_after number next later ≡ Err touched → ChangedFrom number next later touched) →
    elim found as (λ x. Result ℕ Touched) [ Some next ↦ place_after number next later | None ↦ Err (record { card = number; version = first.version }) ] ≡ Err touched → ChangedFrom number start (first ∷ later) touched
changed-first None number start first later touched is more e =
    let told : Touched = record { card = number; version = first.version } in
    let same : told ≡ touched = cc in
    record { before = []; one = first; later = later; in_order = refl; place = start; stood = refl; changed = is; version = ap (λ (t : Touched). t.version) same; card = ap (λ (t : Touched). t.card) same }
changed-first (Some next) number start first later touched is more e =
    let rest : ChangedFrom number next later touched = more next e in
    record {
      before = first ∷ rest.before;
      one = rest.one;
      later = rest.later;
      in_order = ap (λ (es : List MadeEdit). first ∷ es) rest.in_order;
      place = rest.place;
      stood = ap (λ (found : Option ℕ). elim found as (λ x. Result ℕ Touched) [ Some n ↦ place_after number n rest.before | None ↦ Err (record { card = number; version = first.version }) ]) is ∙ rest.stood;
      changed = rest.changed;
      version = rest.version;
      card = rest.card;
    }

changed-from : (number start : ℕ) (made : List MadeEdit) (touched : Touched) → place_after number start made ≡ Err touched → ChangedFrom number start made touched
changed-from number start [] touched e = absurd (cc)
changed-from number start (first ∷ later) touched e = changed-first (moved first.edit start) number start first later touched refl (λ next more. changed-from number next later touched more) e

-- what whereabouts show as touched was changed
abbrev pub AreTrue : Whereabouts → List MadeEdit → Type 0
AreTrue stands made = (place : ℕ) (touched : Touched) → stands place ≡ Err touched → WasChanged made touched

pub seen-true : (made : List MadeEdit) → AreTrue (seen_before made) made
seen-true made = λ place touched e.
    let from : ChangedFrom place place made touched = changed-from place place made touched e in
    record {
      before = from.before;
      one = from.one;
      later = from.later;
      in_order = from.in_order;
      place = from.place;
      stood = subst (λ (n : ℕ). place_after n n from.before ≡ Ok from.place) from.card from.stood;
      changed = from.changed;
      version = from.version;
    }

-- a place that is moved is touched only where it was
further-err : (found : Result ℕ Touched) (touched : Touched) → one_further found ≡ Err touched → found ≡ Err touched
further-err (Ok place) touched e = absurd (cc)
further-err (Err other) touched e = e

nearer-err : (found : Result ℕ Touched) (touched : Touched) → one_nearer found ≡ Err touched → found ≡ Err touched
nearer-err (Ok place) touched e = absurd (cc)
nearer-err (Err other) touched e = e

true-from : (origin : Origin) (now : ℕ) (stands : Whereabouts) (made : List MadeEdit) (touched : Touched) → AreTrue stands made → stands_from origin now stands ≡ Err touched → WasChanged made touched
true-from (Same place) now stands made touched told_true e = told_true place touched e
true-from Own now stands made touched told_true e = absurd (cc)
true-from (Further place) now stands made touched told_true e = told_true place touched (further-err (stands place) touched e)
true-from (Nearer place) now stands made touched told_true e = told_true place touched (nearer-err (stands place) touched e)

-- a gap is touched only where the card behind it is
gap-err : (front behind : Result ℕ Touched) (touched : Touched) → in_gap front behind ≡ Err touched → front ≡ Err touched
gap-err (Ok place) behind touched e = absurd (cc)
gap-err (Err other) (Ok place) touched e = absurd (cc)
gap-err (Err other) (Err more) touched e = e

true-place : (edit : Edit) (stands : Whereabouts) (made : List MadeEdit) (touched : Touched) → AreTrue stands made → carried_place stands edit ≡ Err touched → WasChanged made touched
true-place (Insert place card) stands made touched told_true e = told_true place touched (gap-err (stands place) _ touched e)
true-place (Replace place card) stands made touched told_true e = told_true place touched e
true-place (Remove place) stands made touched told_true e = told_true place touched e

-- the first edit is of a card that is touched, or another is
err-found : (found : Result ℕ Touched) (edit : Edit) (rest : ℕ → Result (List Edit) Touched) (touched : Touched) →
    elim found as (λ x. Result (List Edit) Touched) [ Ok now ↦ in_front (placed now edit) (rest now) | Err other ↦ Err other ] ≡ Err touched → (found ≡ Err touched) ⊎ ((now : ℕ) × (in_front (placed now edit) (rest now) ≡ Err touched))
err-found (Ok now) edit rest touched e = inr (now, e)
err-found (Err other) edit rest touched e = inl (let same : other ≡ touched = cc in ap (λ (t : Touched). Err t) same)

front-err : (edit : Edit) (found : Result (List Edit) Touched) (touched : Touched) → in_front edit found ≡ Err touched → found ≡ Err touched
front-err edit (Ok edits) touched e = absurd (cc)
front-err edit (Err other) touched e = e

pub touched-true : (edits : List Edit) (stands : Whereabouts) (made : List MadeEdit) (touched : Touched) → AreTrue stands made → carried stands edits ≡ Err touched → WasChanged made touched
touched-true [] stands made touched told_true e = absurd (cc)
touched-true (edit ∷ edits) stands made touched told_true e = elim (err-found (carried_place stands edit) edit (λ now. carried (stands_after edit now stands) edits) touched e) [
  | inl first ↦ true-place edit stands made touched told_true first
  | inr more ↦ touched-true edits (stands_after edit more.0 stands) made touched
      (λ place other told. true-from (origin_of edit place) more.0 stands made other told_true told)
      (front-err (placed more.0 edit) (carried (stands_after edit more.0 stands) edits) touched more.1)
]
