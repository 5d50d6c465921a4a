-- Batches of edits that are carried converge with the edits of others.
use Rattle.std.proofs.{Common.{ℕ, ◌≡◌, ◌+◌, ◌-◌, ◌==◌, ◌≤◌, ◌<◌, ◌⊎◌, inl, inr, suc, Bool, true, false, List, [], ◌∷◌, length, Option, Some, None, Result, Ok, Err, if◌then◌else◌, refl, sym, ap, subst, ◌∙◌, arith, nat_lt}, lemmas.Bool.Decides.{leb_tells, Decides-eqb}}
use Rattle.definitions.specs.Cards.{Card}
use Rattle.cards.{specs.declared.edits.Edit.Edit, specs.declared.edits.Edit.TheVariants.{Insert, Replace, Remove}, specs.declared.carrying.MadeEdit.MadeEdit, specs.declared.carrying.Touched.Touched, specs.declared.carrying.Origin.Origin, specs.declared.carrying.Origin.TheVariants.{Same, Own, Further, Nearer}, specs.Edits.{edited, edited_by}, specs.Carrying.{Whereabouts, moved, place_after, seen_before, one_further, one_nearer, in_gap, carried_place, placed, origin_of, stands_from, stands_after, in_front, carried}, specs.Converging.{edits_in, HasPlace, HavePlaces, without_places, Converge}, proofs.Crossing.{Beside, InFront, Behind, Over, Out, beside, IsBeside}, proofs.Following.differ, proofs.Converging.{goes, crossed_all, Crossed, all-crossed, before-goes, past-goes, front-goes, behind-goes, over-goes}}

-- what these whereabouts show is where cards stand after these edits of others
abbrev pub Tells : Whereabouts → List Edit → Type 0
Tells stands edits = (place now : ℕ) → stands place ≡ Ok now → goes edits place ≡ Some now

tells-found : (found : Option ℕ) (number version now : ℕ) (later : List MadeEdit) → ((next : ℕ) → place_after number next later ≡ Ok now → goes (edits_in later) next ≡ Some now) →
    elim found as (λ x. Result ℕ Touched) [ Some next ↦ place_after number next later | None ↦ Err (record { card = number; version = version }) ] ≡ Ok now →
    elim found as (λ x. Option ℕ) [ Some next ↦ goes (edits_in later) next | None ↦ None ] ≡ Some now
tells-found None number version now later more e = absurd (cc)
tells-found (Some next) number version now later more e = more next e

tells-after : (number place now : ℕ) (made : List MadeEdit) → place_after number place made ≡ Ok now → goes (edits_in made) place ≡ Some now
tells-after number place now [] e = ap (λ (n : ℕ). Some n) (let same : place ≡ now = cc in same)
tells-after number place now (one ∷ later) e = tells-found (moved one.edit place) number one.version now later (λ next more. tells-after number next now later more) e

-- of what the sender saw before the edits of others were made
pub seen-tells : (made : List MadeEdit) → Tells (seen_before made) (edits_in made)
seen-tells made = λ place now e. tells-after place place now made e

-- a place that is one further on, or one nearer
further-found : (found : Result ℕ Touched) (now : ℕ) → one_further found ≡ Ok now → (place : ℕ) × (found ≡ Ok place) × (now ≡ place + 1)
further-found (Ok place) now e = (place, refl, let same : now ≡ place + 1 = cc in same)
further-found (Err touched) now e = absurd (cc)

nearer-found : (found : Result ℕ Touched) (now : ℕ) → one_nearer found ≡ Ok now → (place : ℕ) × (found ≡ Ok place) × (now ≡ place - 1)
nearer-found (Ok place) now e = (place, refl, let same : now ≡ place - 1 = cc in same)
nearer-found (Err touched) now e = absurd (cc)

-- where what stands in front of an insertion comes from, the card that is put, and what stands behind
origin-before : (own place : ℕ) (card : Card) → (nat_lt place own) ≡ true → origin_of (Insert own card) place ≡ Same place
origin-before own place card before = ap (λ (b : Bool). if b then Same place else if place == own then Own else Further (place - 1)) before

origin-own : (own place : ℕ) (card : Card) → (nat_lt place own) ≡ false → place ≡ own → origin_of (Insert own card) place ≡ Own
origin-own own place card behind is =
    ap (λ (b : Bool). if b then Same place else if place == own then Own else Further (place - 1)) behind ∙ ap (λ (b : Bool). if b then Own else Further (place - 1)) ((Decides-eqb place own).1 is)

origin-past : (own place : ℕ) (card : Card) → (nat_lt place own) ≡ false → own < place → origin_of (Insert own card) place ≡ Further (place - 1)
origin-past own place card behind past =
    ap (λ (b : Bool). if b then Same place else if place == own then Own else Further (place - 1)) behind ∙ ap (λ (b : Bool). if b then Own else Further (place - 1)) (differ place own (inr past))

-- the whereabouts once the sender has put a card
insert-tells : (stands : Whereabouts) (others : List Edit) (own now : ℕ) (card : Card) →
    ((place last : ℕ) → place < own → stands place ≡ Ok last → goes others place ≡ Some last) → goes others own ≡ Some now →
    ((place last : ℕ) → own ≤ place → stands place ≡ Ok last → goes others (place + 1) ≡ Some (last + 1)) → Tells (stands_after (Insert own card) now stands) others
insert-tells stands others own now card before here past = λ place last e. elim (leb_tells (suc place) own) [
  | inl h ↦ before place last h.1 (sym (ap (λ (o : Origin). stands_from o now stands) (origin-before own place card h.0)) ∙ e)
  | inr h ↦ elim (leb_tells place own) [
    | inl g ↦ (let is : place ≡ own = omega arith in
        let told : ◌≡◌ {A = Result ℕ Touched} (Ok now) (Ok last) = sym (ap (λ (o : Origin). stands_from o now stands) (origin-own own place card h.0 is)) ∙ e in
        ap (λ (n : ℕ). goes others n) is ∙ here ∙ ap (λ (n : ℕ). Some n) (let same : now ≡ last = cc in same))
    | inr g ↦ (let found = further-found (stands (place - 1)) last (sym (ap (λ (o : Origin). stands_from o now stands) (origin-past own place card h.0 g.1)) ∙ e) in
        ap (λ (n : ℕ). goes others n) (let same : place ≡ place - 1 + 1 = omega arith in same) ∙ past (place - 1) found.0 (omega arith) found.1 ∙ ap (λ (n : ℕ). Some n) (sym found.2))
  ]
]

-- and once he has removed one
remove-tells : (stands : Whereabouts) (others : List Edit) (own now : ℕ) →
    ((place last : ℕ) → place < own → stands place ≡ Ok last → goes others place ≡ Some last) →
    ((place last : ℕ) → own < place → stands place ≡ Ok last → goes others (place - 1) ≡ Some (last - 1)) → Tells (stands_after (Remove own) now stands) others
remove-tells stands others own now before past = λ place last e. elim (leb_tells (suc place) own) [
  | inl h ↦ before place last h.1 (sym (ap (λ (b : Bool). stands_from (if b then Same place else Nearer (place + 1)) now stands) h.0) ∙ e)
  | inr h ↦ (let found = nearer-found (stands (place + 1)) last (sym (ap (λ (b : Bool). stands_from (if b then Same place else Nearer (place + 1)) now stands) h.0) ∙ e) in
      ap (λ (n : ℕ). goes others n) (let same : place ≡ place + 1 - 1 = omega arith in same) ∙ past (place + 1) found.0 (omega arith) found.1 ∙ ap (λ (n : ℕ). Some n) (sym found.2))
]

-- an edit of the sender at its place of now, known by the card beside which it is made, and the whereabouts behind it
record OwnEdit (edit : Edit) (now : ℕ) (stands : Whereabouts) (edits : List Edit) (cards : List Card) : Type 0 where
  pub own : Beside
  pub place : ℕ
  pub last : ℕ
  pub is_edit : beside own place ≡ edit
  pub is_placed : beside own last ≡ placed now edit
  pub goes_there : goes edits place ≡ Some last
  pub within : IsBeside own place (length cards)
  pub tells : Tells (stands_after edit now stands) (crossed_all own place edits)

-- in front of a card, or behind the one before it
gap-found : (front behind : Result ℕ Touched) (now : ℕ) → in_gap front behind ≡ Ok now → (front ≡ Ok now) ⊎ ((place : ℕ) × (behind ≡ Ok place) × (now ≡ place + 1))
gap-found (Ok place) behind now e = inl e
gap-found (Err touched) (Ok place) now e = inr (place, refl, let same : now ≡ place + 1 = cc in same)
gap-found (Err touched) (Err other) now e = absurd (cc)

own-front : (place : ℕ) (card : Card) (now : ℕ) (stands : Whereabouts) (edits : List Edit) (cards : List Card) → Tells stands edits → HasPlace (Insert place card) cards → stands place ≡ Ok now → OwnEdit (Insert place card) now stands edits cards
own-front place card now stands edits cards tells has ok =
    let there : goes edits place ≡ Some now = tells place now ok in
    record {
      own = InFront card;
      place = place;
      last = now;
      is_edit = refl;
      is_placed = refl;
      goes_there = there;
      within = has;
      tells = insert-tells stands (crossed_all (InFront card) place edits) place now card
          (λ k last before stood. before-goes (InFront card) edits place now k last there (tells k last stood) before)
          (front-goes card edits place now there)
          (λ k last past stood. past-goes (InFront card) edits place now k last there (tells k last stood) past);
    }

own-behind : (place : ℕ) (card : Card) (now last : ℕ) (stands : Whereabouts) (edits : List Edit) (cards : List Card) → Tells stands edits → HasPlace (Insert place card) cards → stands (place - 1) ≡ Ok last → now ≡ last + 1 → OwnEdit (Insert place card) now stands edits cards
own-behind place card now last stands edits cards tells has ok is =
    let there : goes edits (place - 1) ≡ Some last = tells (place - 1) last ok in
    let whole : place - 1 + 1 ≡ place = omega arith in
    record {
      own = Behind card;
      place = place - 1;
      last = last;
      is_edit = ap (λ (n : ℕ). Insert n card) whole;
      is_placed = ap (λ (n : ℕ). Insert n card) (sym is);
      goes_there = there;
      within = (omega arith, omega arith);
      tells = insert-tells stands (crossed_all (Behind card) (place - 1) edits) place now card
          (λ k end before stood. before-goes (Behind card) edits (place - 1) last k end there (tells k end stood) (omega arith))
          (ap (λ (n : ℕ). goes (crossed_all (Behind card) (place - 1) edits) n) (sym whole) ∙ behind-goes card edits (place - 1) last there ∙ ap (λ (n : ℕ). Some n) (sym is))
          (λ k end past stood. past-goes (Behind card) edits (place - 1) last k end there (tells k end stood) (omega arith));
    }

own-edit : (edit : Edit) (now : ℕ) (stands : Whereabouts) (edits : List Edit) (cards : List Card) → Tells stands edits → HasPlace edit cards → carried_place stands edit ≡ Ok now → OwnEdit edit now stands edits cards
own-edit (Insert place card) now stands edits cards tells has ok = elim (gap-found (stands place) (stands (place - 1)) now ok) [
  | inl front ↦ own-front place card now stands edits cards tells has front
  | inr behind ↦ own-behind place card now behind.0 stands edits cards tells has behind.1 behind.2
]
own-edit (Replace place card) now stands edits cards tells has ok =
    let there : goes edits place ≡ Some now = tells place now ok in
    record {
      own = Over card;
      place = place;
      last = now;
      is_edit = refl;
      is_placed = refl;
      goes_there = there;
      within = (has.0, omega (arith, has.1));
      tells = subst (λ (es : List Edit). Tells (stands_after (Replace place card) now stands) es) (sym (over-goes card edits place now there)) (λ k last stood. tells k last stood);
    }
own-edit (Remove place) now stands edits cards tells has ok =
    let there : goes edits place ≡ Some now = tells place now ok in
    record {
      own = Out;
      place = place;
      last = now;
      is_edit = refl;
      is_placed = refl;
      goes_there = there;
      within = (has.0, omega (arith, has.1));
      tells = remove-tells stands (crossed_all Out place edits) place now
          (λ k last before stood. before-goes Out edits place now k last there (tells k last stood) before)
          (λ k last past stood. past-goes Out edits place now k last there (tells k last stood) past);
    }

-- an edit beside a card names a place
beside-has : (own : Beside) (place : ℕ) (cards : List Card) → IsBeside own place (length cards) → HasPlace (beside own place) cards
beside-has (InFront card) place cards is = (omega arith, omega arith)
beside-has (Behind card) place cards is = (omega arith, omega arith)
beside-has (Over card) place cards is = (omega arith, omega arith)
beside-has Out place cards is = (omega arith, omega arith)

-- an edit at another place is the same but for that
placed-same : (now : ℕ) (edit : Edit) → placed 0 (placed now edit) ≡ placed 0 edit
placed-same now (Insert place card) = refl
placed-same now (Replace place card) = refl
placed-same now (Remove place) = refl

-- the first edit was carried, and the others
carried-found : (found : Result ℕ Touched) (edit : Edit) (rest : ℕ → Result (List Edit) Touched) (all : List Edit) →
    elim found as (λ x. Result (List Edit) Touched) [ Ok now ↦ in_front (placed now edit) (rest now) | Err touched ↦ Err touched ] ≡ Ok all → (now : ℕ) × (found ≡ Ok now) × (in_front (placed now edit) (rest now) ≡ Ok all)
carried-found (Ok now) edit rest all e = (now, refl, e)
carried-found (Err touched) edit rest all e = absurd (cc)

front-found : (edit : Edit) (found : Result (List Edit) Touched) (all : List Edit) → in_front edit found ≡ Ok all → (more : List Edit) × (found ≡ Ok more) × (edit ∷ more ≡ all)
front-found edit (Ok more) all e = (more, refl, let same : edit ∷ more ≡ all = cc in same)
front-found edit (Err touched) all e = absurd (cc)

-- one edit more in front of those that converge
converge-more : (cards : List Card) (made : List Edit) (edit : Edit) (now : ℕ) (stands : Whereabouts) (edits more : List Edit) (own : OwnEdit edit now stands made cards) → HavePlaces made cards →
    Crossed own.own made cards own.place own.last → Converge (edited cards edit) (crossed_all own.own own.place made) edits more → Converge cards made (edit ∷ edits) (placed now edit ∷ more)
converge-more cards made edit now stands edits more own have crossed rest =
    let same : edited (edited_by made cards) (placed now edit) ≡ edited_by (crossed_all own.own own.place made) (edited cards edit) =
    ap (λ (one : Edit). edited (edited_by made cards) one) (sym own.is_placed) ∙ crossed.same ∙ ap (λ (one : Edit). edited_by (crossed_all own.own own.place made) (edited cards one)) own.is_edit in
    record {
      own = ap (λ (one : Edit). one ∷ without_places more) (placed-same now edit) ∙ ap (λ (es : List Edit). placed 0 edit ∷ es) rest.own;
      own_places = (
        subst (λ (one : Edit). HasPlace one (edited_by made cards)) own.is_placed (beside-has own.own own.last (edited_by made cards) crossed.within),
        subst (λ (cs : List Card). HavePlaces more cs) (sym same) rest.own_places,
      );
      others = rest.others;
      of_others = rest.of_others ∙ crossed.of_others;
      others_places = rest.others_places;
      same = ap (λ (cs : List Card). edited_by more cs) same ∙ rest.same;
    }

-- edits that are carried converge
pub converges : (edits : List Edit) (stands : Whereabouts) (made : List Edit) (cards : List Card) (all : List Edit) → Tells stands made → HavePlaces made cards → HavePlaces edits cards → carried stands edits ≡ Ok all → Converge cards made edits all
converges [] stands made cards all tells have has ok =
    subst (λ (es : List Edit). Converge cards made [] es) (let e : [] ≡ all = cc in e)
    (record { own = refl; own_places = tt; others = made; of_others = refl; others_places = have; same = refl })
converges (edit ∷ edits) stands made cards all tells have has ok =
    let first = carried-found (carried_place stands edit) edit (λ now. carried (stands_after edit now stands) edits) all ok in
    let others = front-found (placed first.0 edit) (carried (stands_after edit first.0 stands) edits) all first.2 in
    let own : OwnEdit edit first.0 stands made cards = own-edit edit first.0 stands made cards tells has.0 first.1 in
    let crossed : Crossed own.own made cards own.place own.last = all-crossed own.own made cards own.place own.last have own.within own.goes_there in
    let places : HavePlaces (crossed_all own.own own.place made) (edited cards edit) = subst (λ (one : Edit). HavePlaces (crossed_all own.own own.place made) (edited cards one)) own.is_edit crossed.places in
    subst (λ (es : List Edit). Converge cards made (edit ∷ edits) es) others.2
    (converge-more cards made edit first.0 stands edits others.0 own have crossed
    (converges edits (stands_after edit first.0 stands) (crossed_all own.own own.place made) (edited cards edit) others.0 own.tells places has.1 others.1))
