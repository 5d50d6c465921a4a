-- The cut of a text into fields: each part that the scanning functions find is the lawful one, and the only one.
use Rattle.std.proofs.{Common.{ℕ, zero, suc, ◌≡◌, ◌≢◌, ◌-◌, ◌<◌, ◌≤◌, ◌⊎◌, inl, inr, List, [], ◌∷◌, ◌++◌, Bool, true, false, cond, not, ◌==◌, nat_lt, if◌then◌else◌, length, drop, codes, refl, sym, ◌∙◌, ap, ap₂, subst, arith, ltb-true, ltb-false, eq-eqb, ne_eqb}, lemmas.Bool.Decides.eqb_tells, lemmas.List.Sums.take_while-cons, Math.Seq.drop-append_seam}
use Rattle.definitions.{specs.Characters.{blank, same_text}, specs.Pieces.{Spot, AtStart, begun_at, spot_behind, left_of, field_at}, specs.Fields.{Fields, unbroken_front, without_blanks, from_location, variable_of, fields_of_text}, proofs.TextLaws.same_text_tells, proofs.FrontLaws.{IsExtent, extent-is_longest, longest-only}, specs.Laws.Cuts.{IsUnbroken, AreBlanks, HasBegun, IsLead, IsLongestFront, IsVariable, HasVariable, HasOperation, IsCut}}

-- what follows the word that begins a text
abbrev behind_word : List ℕ → List ℕ
behind_word text = drop (length (unbroken_front text)) text

-- the end of a text, where it begins before column 30
abbrev in_time : List ℕ → List ℕ → List ℕ
in_time text rest = if nat_lt (length text - length rest) 29 then rest else []

-- no word begins at a blank
unbroken_front-blank : (c : ℕ) (cs : List ℕ) → c ≡ blank → unbroken_front (c ∷ cs) ≡ []
unbroken_front-blank c cs h =
    take_while-cons (λ d. not (d == blank)) c cs ∙ ap (λ (t : Bool). cond (not t) (c ∷ unbroken_front cs) []) (eq-eqb c blank h)

-- a word goes on with any other character
unbroken_front-other : (c : ℕ) (cs : List ℕ) → c ≢ blank → unbroken_front (c ∷ cs) ≡ c ∷ unbroken_front cs
unbroken_front-other c cs h =
    take_while-cons (λ d. not (d == blank)) c cs ∙ ap (λ (t : Bool). cond (not t) (c ∷ unbroken_front cs) []) (ne_eqb c blank h)

-- a text is its word and the rest
word_splits : (text : List ℕ) → (rest : List ℕ) × (text ≡ unbroken_front text ++ rest) × IsUnbroken (unbroken_front text) rest
word_splits [] = ([], refl, record { unbroken = tt; ends = tt })
word_splits (c ∷ cs) =
    let P : List ℕ → Type 0 = λ w. (rest : List ℕ) × (c ∷ cs ≡ w ++ rest) × IsUnbroken w rest in
    elim (eqb_tells c blank) [
      | inl h ↦ subst P (sym (unbroken_front-blank c cs h.1)) (c ∷ cs, refl, record { unbroken = tt; ends = h.1 })
      | inr h ↦
          let s = word_splits cs in
          subst P (sym (unbroken_front-other c cs h.1))
          (s.0, ap (λ (t : List ℕ). c ∷ t) s.1, record { unbroken = (h.1, s.2.unbroken); ends = s.2.ends })
    ]

-- a text has no other word
unbroken_front-split : (word rest : List ℕ) → IsUnbroken word rest → unbroken_front (word ++ rest) ≡ word
unbroken_front-split [] [] h = refl
unbroken_front-split [] (c ∷ cs) h = unbroken_front-blank c cs h.ends
unbroken_front-split (c ∷ word) rest h =
    unbroken_front-other c (word ++ rest) h.unbroken.0
    ∙ ap (λ (t : List ℕ). c ∷ t) (unbroken_front-split word rest (record { unbroken = h.unbroken.1; ends = h.ends }))

-- what follows the word is the rest
behind_word-split : (word rest : List ℕ) → IsUnbroken word rest → behind_word (word ++ rest) ≡ rest
behind_word-split word rest h =
    ap (λ (w : List ℕ). drop (length w) (word ++ rest)) (unbroken_front-split word rest h) ∙ drop-append_seam word rest

-- what follows the word that begins a text is its rest
behind_word-rest : (text rest : List ℕ) → text ≡ unbroken_front text ++ rest → IsUnbroken (unbroken_front text) rest → behind_word text ≡ rest
behind_word-rest text rest e h = ap behind_word e ∙ behind_word-split (unbroken_front text) rest h

-- blanks are passed over
without_blanks-blank : (c : ℕ) (cs : List ℕ) → c ≡ blank → without_blanks (c ∷ cs) ≡ without_blanks cs
without_blanks-blank c cs h = ap (λ (t : Bool). if t then without_blanks cs else c ∷ cs) (eq-eqb c blank h)

-- any other character stays
without_blanks-other : (c : ℕ) (cs : List ℕ) → c ≢ blank → without_blanks (c ∷ cs) ≡ c ∷ cs
without_blanks-other c cs h = ap (λ (t : Bool). if t then without_blanks cs else c ∷ cs) (ne_eqb c blank h)

-- a text is its blanks and what begins behind them
blanks_split : (text : List ℕ) → (gap : List ℕ) × (text ≡ gap ++ without_blanks text) × AreBlanks gap (without_blanks text)
blanks_split [] = ([], refl, record { blanks = tt; ends = tt })
blanks_split (c ∷ cs) =
    let P : List ℕ → Type 0 = λ begun. (gap : List ℕ) × (c ∷ cs ≡ gap ++ begun) × AreBlanks gap begun in
    elim (eqb_tells c blank) [
      | inl h ↦
          let s = blanks_split cs in
          subst P (sym (without_blanks-blank c cs h.1))
          (c ∷ s.0, ap (λ (t : List ℕ). c ∷ t) s.1, record { blanks = (h.1, s.2.blanks); ends = s.2.ends })
      | inr h ↦ subst P (sym (without_blanks-other c cs h.1)) ([], refl, record { blanks = tt; ends = h.1 })
    ]

-- nothing else begins behind a text's blanks
without_blanks-split : (gap begun : List ℕ) → AreBlanks gap begun → without_blanks (gap ++ begun) ≡ begun
without_blanks-split [] [] h = refl
without_blanks-split [] (c ∷ cs) h = without_blanks-other c cs h.ends
without_blanks-split (c ∷ gap) begun h =
    without_blanks-blank c (gap ++ begun) h.blanks.0
    ∙ without_blanks-split gap begun (record { blanks = h.blanks.1; ends = h.ends })

-- the field ends at a blank outside an item
pub field_at-blank : (spot : Spot) (c : ℕ) (cs : List ℕ) → c ≡ blank → field_at spot zero (c ∷ cs) ≡ []
field_at-blank spot c cs h =
    ap (λ (t : Bool). if t then [] else c ∷ field_at (spot_behind (begun_at spot c cs)) (left_of (begun_at spot c cs)) cs) (eq-eqb c blank h)

-- the field goes on with any other character
pub field_at-other : (spot : Spot) (c : ℕ) (cs : List ℕ) → c ≢ blank →
    field_at spot zero (c ∷ cs) ≡ c ∷ field_at (spot_behind (begun_at spot c cs)) (left_of (begun_at spot c cs)) cs
field_at-other spot c cs h =
    ap (λ (t : Bool). if t then [] else c ∷ field_at (spot_behind (begun_at spot c cs)) (left_of (begun_at spot c cs)) cs) (ne_eqb c blank h)

-- a text is its field and the rest
field_splits : (spot : Spot) (left : ℕ) (text : List ℕ) →
    (rest : List ℕ) × (text ≡ field_at spot left text ++ rest) × IsExtent spot left (field_at spot left text) rest
field_splits spot zero [] = ([], refl, tt)
field_splits spot (suc left) [] = ([], refl, tt)
field_splits spot (suc left) (c ∷ cs) =
    let s = field_splits spot left cs in
    (s.0, ap (λ (t : List ℕ). c ∷ t) s.1, s.2)
field_splits spot zero (c ∷ cs) =
    let P : List ℕ → Type 0 = λ field. (rest : List ℕ) × (c ∷ cs ≡ field ++ rest) × IsExtent spot zero field rest in
    elim (eqb_tells c blank) [
      | inl h ↦ subst P (sym (field_at-blank spot c cs h.1)) (c ∷ cs, refl, h.1)
      | inr h ↦
          let s = field_splits (spot_behind (begun_at spot c cs)) (left_of (begun_at spot c cs)) cs in
          let Q : List ℕ → Type 0 = λ tail.
          IsExtent (spot_behind (begun_at spot c tail)) (left_of (begun_at spot c tail))
          (field_at (spot_behind (begun_at spot c cs)) (left_of (begun_at spot c cs)) cs) s.0 in
          subst P (sym (field_at-other spot c cs h.1)) (s.0, ap (λ (t : List ℕ). c ∷ t) s.1, (h.1, subst Q s.1 s.2))
    ]

-- what the test of the column shows
in_time_tells : (text rest : List ℕ) →
    (HasBegun text rest × (in_time text rest ≡ rest)) ⊎ ((¬ HasBegun text rest) × (in_time text rest ≡ []))
in_time_tells text rest = by (nat_lt (length text - length rest) 29) refl
  where
    by : (t : Bool) → nat_lt (length text - length rest) 29 ≡ t →
        (HasBegun text rest × (in_time text rest ≡ rest)) ⊎ ((¬ HasBegun text rest) × (in_time text rest ≡ []))
    by true e = inl (early (ltb-true _ _ e), ap (λ (t : Bool). if t then rest else []) e)
      where
        early : length text - length rest < 29 → HasBegun text rest
        early h = omega arith
    by false e = inr (late (ltb-false _ _ e), ap (λ (t : Bool). if t then rest else []) e)
      where
        late : 29 ≤ length text - length rest → ¬ HasBegun text rest
        late h k = omega arith

-- a choice between a text and itself
either_is : (t : Bool) (text : List ℕ) → (if t then text else text) ≡ text
either_is true text = refl
either_is false text = refl

-- the end without characters is nothing
in_time-nil : (text : List ℕ) → in_time text [] ≡ []
in_time-nil text = either_is (nat_lt (length text - 0) 29) []

-- a text is its lead and the location field's place
lead_splits : (text : List ℕ) → (lead : List ℕ) × (text ≡ lead ++ from_location text) × IsLead lead (from_location text)
lead_splits [] = ([], refl, tt)
lead_splits (c ∷ cs) =
    let P : List ℕ → Type 0 = λ first. (lead : List ℕ) × (c ∷ cs ≡ lead ++ first) × IsLead lead first in
    elim (eqb_tells c blank) [
      | inl h ↦ subst P (ap (λ (t : Bool). if t then cs else c ∷ cs) (sym h.0)) (c ∷ [], refl, h.1)
      | inr h ↦ subst P (ap (λ (t : Bool). if t then cs else c ∷ cs) (sym h.0)) ([], refl, h.1)
    ]

-- a text has no other lead
from_location-split : (lead first : List ℕ) → IsLead lead first → from_location (lead ++ first) ≡ first
from_location-split [] [] h = refl
from_location-split [] (c ∷ cs) h = ap (λ (t : Bool). if t then cs else c ∷ cs) (ne_eqb c blank h)
from_location-split (c ∷ []) first h = ap (λ (t : Bool). if t then first else c ∷ first) (eq-eqb c blank h)
from_location-split (c ∷ d ∷ cs) first h = absurd h

-- the field that is scanned is the longest front whose blanks stand in items
field_at-longest : (text : List ℕ) → IsLongestFront text (field_at AtStart 0 text)
field_at-longest text = let s = field_splits AtStart zero text in extent-is_longest text (field_at AtStart 0 text) s.0 s.1 s.2

-- the variable field of an operation is a lawful one
variable_lawful : (operation begun : List ℕ) → IsVariable operation begun (variable_of operation begun)
variable_lawful operation begun =
    let P : Bool → Type 0 = λ t. IsVariable operation begun (if t then begun else field_at AtStart 0 begun) in
    elim (same_text_tells operation (codes "DIS")) [
      | inl h ↦ subst P (sym h.0) (inl (h.1, refl))
      | inr h ↦ subst P (sym h.0) (inr (h.1, field_at-longest begun))
    ]

-- an operation has no other variable field
variable_only : (operation begun variable : List ℕ) → IsVariable operation begun variable → variable ≡ variable_of operation begun
variable_only operation begun variable (inl v) =
    elim (same_text_tells operation (codes "DIS")) [
      | inl h ↦ v.1 ∙ sym (ap (λ (t : Bool). if t then begun else field_at AtStart 0 begun) h.0)
      | inr h ↦ absurd (h.1 v.0)
    ]
variable_only operation begun variable (inr v) =
    elim (same_text_tells operation (codes "DIS")) [
      | inl h ↦ absurd (v.0 h.1)
      | inr h ↦
          longest-only begun variable (field_at AtStart 0 begun) v.1 (field_at-longest begun)
          ∙ sym (ap (λ (t : Bool). if t then begun else field_at AtStart 0 begun) h.0)
    ]

-- where nothing begins there is no variable field
variable_of-nil : (operation : List ℕ) → variable_of operation [] ≡ []
variable_of-nil operation = either_is (same_text operation (codes "DIS")) []

-- what is found behind an operation is lawful
behind_operation_lawful : (text operation behind : List ℕ) →
    HasVariable text operation behind (variable_of operation (in_time text (without_blanks behind)))
behind_operation_lawful text operation behind =
    let s = blanks_split behind in
    let P : List ℕ → Type 0 = λ begun.
    (HasBegun text (without_blanks behind) × IsVariable operation (without_blanks behind) (variable_of operation begun))
    ⊎ ((¬ HasBegun text (without_blanks behind)) × (variable_of operation begun ≡ [])) in (
      s.0,
      without_blanks behind,
      s.1,
      s.2,
      elim (in_time_tells text (without_blanks behind)) [
        | inl h ↦ subst P (sym h.1) (inl (h.0, variable_lawful operation (without_blanks behind)))
        | inr h ↦ subst P (sym h.1) (inr (h.0, variable_of-nil operation))
      ],
    )

-- what begins behind a lawful gap, where it begins in time
in_time-begun : (text behind gap begun : List ℕ) → behind ≡ gap ++ begun → AreBlanks gap begun → HasBegun text begun →
    in_time text (without_blanks behind) ≡ begun
in_time-begun text behind gap begun e h k =
    ap (λ (t : List ℕ). in_time text (without_blanks t)) e
    ∙ ap (λ (t : List ℕ). in_time text t) (without_blanks-split gap begun h)
    ∙ elim (in_time_tells text begun) [ inl w ↦ w.1 | inr w ↦ absurd (w.0 k) ]

-- and where it does not
in_time-late : (text behind gap begun : List ℕ) → behind ≡ gap ++ begun → AreBlanks gap begun → (¬ HasBegun text begun) →
    in_time text (without_blanks behind) ≡ []
in_time-late text behind gap begun e h k =
    ap (λ (t : List ℕ). in_time text (without_blanks t)) e
    ∙ ap (λ (t : List ℕ). in_time text t) (without_blanks-split gap begun h)
    ∙ elim (in_time_tells text begun) [ inl w ↦ absurd (k w.0) | inr w ↦ w.1 ]

-- nothing else is lawful behind an operation
behind_operation_only : (text operation behind variable : List ℕ) → HasVariable text operation behind variable →
    variable ≡ variable_of operation (in_time text (without_blanks behind))
behind_operation_only text operation behind variable (gap, begun, e, h, inl w) =
    variable_only operation begun variable w.1
    ∙ ap (λ (t : List ℕ). variable_of operation t) (sym (in_time-begun text behind gap begun e h w.0))
behind_operation_only text operation behind variable (gap, begun, e, h, inr w) =
    w.1 ∙ sym (variable_of-nil operation)
    ∙ ap (λ (t : List ℕ). variable_of operation t) (sym (in_time-late text behind gap begun e h w.0))

-- the operation and the variable field that are found in what begins behind the location field
abbrev AreFound : List ℕ → List ℕ → Fields → Type 0
AreFound text begun fields =
    (fields.operation ≡ unbroken_front begun)
    × (fields.variable ≡ variable_of (unbroken_front begun) (in_time text (without_blanks (behind_word begun))))

-- where nothing begins, neither is found
found-nil : (text : List ℕ) (fields : Fields) → fields.operation ≡ [] → fields.variable ≡ [] → AreFound text [] fields
found-nil text fields e k = (e, k ∙ sym (variable_of-nil []) ∙ ap (λ (t : List ℕ). variable_of [] t) (sym (in_time-nil text)))

-- a lawful operation with what is lawful behind it is what is found
found-begun : (text rest : List ℕ) (fields : Fields) → IsUnbroken fields.operation rest →
    HasVariable text fields.operation rest fields.variable → AreFound text (fields.operation ++ rest) fields
found-begun text rest fields h k = (
  sym (unbroken_front-split fields.operation rest h),
  behind_operation_only text fields.operation rest fields.variable k
      ∙ ap₂ (λ (o b : List ℕ). variable_of o (in_time text (without_blanks b)))
      (sym (unbroken_front-split fields.operation rest h)) (sym (behind_word-split fields.operation rest h)),
)

-- nothing else is lawful behind a location field
behind_location_only : (text behind : List ℕ) (fields : Fields) → HasOperation text behind fields →
    AreFound text (in_time text (without_blanks behind)) fields
behind_location_only text behind fields (gap, begun, e, h, inl w) =
    let P : List ℕ → Type 0 = λ t. AreFound text t fields in
    subst P (sym (in_time-begun text behind gap begun e h w.0 ∙ w.1.1)) (found-begun text w.1.0 fields w.1.2 w.1.3)
behind_location_only text behind fields (gap, begun, e, h, inr w) =
    let P : List ℕ → Type 0 = λ t. AreFound text t fields in
    subst P (sym (in_time-late text behind gap begun e h w.0)) (found-nil text fields w.1 w.2)

-- the three fields of a text whose location field begins there
abbrev AreAllFound : List ℕ → List ℕ → Fields → Type 0
AreAllFound text first fields =
    (fields.location ≡ unbroken_front first) × AreFound text (in_time text (without_blanks (behind_word first))) fields

-- a lawful location field with what is lawful behind it is what is found
all_found : (text rest : List ℕ) (fields : Fields) → IsUnbroken fields.location rest → HasOperation text rest fields →
    AreAllFound text (fields.location ++ rest) fields
all_found text rest fields h k =
    let P : List ℕ → Type 0 = λ t. AreFound text (in_time text (without_blanks t)) fields in
    (sym (unbroken_front-split fields.location rest h), subst P (sym (behind_word-split fields.location rest h)) (behind_location_only text rest fields k))

-- fields of three parts
abbrev of_parts : List ℕ → List ℕ → List ℕ → Fields
of_parts l o v = record { location = l; operation = o; variable = v }

-- fields are their three parts
same_fields : (fields : Fields) (l o v : List ℕ) → fields.location ≡ l → fields.operation ≡ o → fields.variable ≡ v →
    fields ≡ of_parts l o v
same_fields fields l o v e k h =
    ap₂ (λ (a b : List ℕ). of_parts a b fields.variable) e k ∙ ap (λ (a : List ℕ). of_parts l o a) h

-- a text has no other cut
pub cut_only : (text : List ℕ) (fields : Fields) → IsCut text fields → fields ≡ fields_of_text text
cut_only text fields (lead, first, e, l, (rest, k, h, o)) =
    let P : List ℕ → Type 0 = λ t. AreAllFound text t fields in
    let found = subst P (sym (ap from_location e ∙ from_location-split lead first l ∙ k)) (all_found text rest fields h o) in
    same_fields fields _ _ _ found.0 found.1.0 found.1.1

-- the fields with this location field and what is found behind it
abbrev fields_with : List ℕ → List ℕ → List ℕ → Fields
fields_with text location begun = record {
  location = location;
  operation = unbroken_front begun;
  variable = variable_of (unbroken_front begun) (in_time text (without_blanks (behind_word begun)));
}

-- what is found where an operation begins is lawful
operation_lawful : (text begun : List ℕ) →
    (rest : List ℕ) × (begun ≡ unbroken_front begun ++ rest) × IsUnbroken (unbroken_front begun) rest
    × HasVariable text (unbroken_front begun) rest (variable_of (unbroken_front begun) (in_time text (without_blanks (behind_word begun))))
operation_lawful text begun =
    let s = word_splits begun in
    let P : List ℕ → Type 0 = λ t. HasVariable text (unbroken_front begun) s.0 (variable_of (unbroken_front begun) (in_time text (without_blanks t))) in
    (s.0, s.1, s.2, subst P (sym (behind_word-rest begun s.0 s.1 s.2)) (behind_operation_lawful text (unbroken_front begun) s.0))

-- what is found behind a location field is lawful
behind_location_lawful : (text behind location : List ℕ) →
    HasOperation text behind (fields_with text location (in_time text (without_blanks behind)))
behind_location_lawful text behind location =
    let s = blanks_split behind in
    let b = without_blanks behind in
    let P : List ℕ → Type 0 = λ begun.
    (HasBegun text b × ((rest : List ℕ) × (b ≡ unbroken_front begun ++ rest) × IsUnbroken (unbroken_front begun) rest
    × HasVariable text (unbroken_front begun) rest (variable_of (unbroken_front begun) (in_time text (without_blanks (behind_word begun))))))
    ⊎ ((¬ HasBegun text b) × (unbroken_front begun ≡ [])
    × (variable_of (unbroken_front begun) (in_time text (without_blanks (behind_word begun))) ≡ [])) in (
      s.0,
      b,
      s.1,
      s.2,
      elim (in_time_tells text b) [
        | inl h ↦ subst P (sym h.1) (inl (h.0, operation_lawful text b))
        | inr h ↦ subst P (sym h.1)
            (inr (h.0, refl, ap (λ (t : List ℕ). variable_of [] t) (in_time-nil text) ∙ variable_of-nil []))
      ],
    )

-- the cut of a text is lawful
pub cut_lawful : (text : List ℕ) → IsCut text (fields_of_text text)
cut_lawful text =
    let s = lead_splits text in
    let w = word_splits (from_location text) in
    let P : List ℕ → Type 0 = λ t.
    HasOperation text w.0 (fields_with text (unbroken_front (from_location text)) (in_time text (without_blanks t))) in (
      s.0,
      from_location text,
      s.1,
      s.2,
      (
        w.0,
        w.1,
        w.2,
        subst P (sym (behind_word-rest (from_location text) w.0 w.1 w.2))
            (behind_location_lawful text w.0 (unbroken_front (from_location text))),
      ),
    )
