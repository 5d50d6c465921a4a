-- Where cards stand once the sender's edit is made, known by where they stood before it.
use Rattle.std.proofs.{Common.{ℕ, ◌≡◌, ◌+◌, ◌-◌, ◌==◌, ◌≤◌, ◌<◌, ◌⊎◌, inl, inr, Bool, true, false, Some, None, if◌then◌else◌, suc, refl, sym, ap, ◌∙◌, arith, nat_lt}, lemmas.Bool.Decides.{leb_tells, Decides-eqb}}
use Rattle.definitions.specs.Cards.{Card}
use Rattle.cards.{specs.declared.edits.Edit.Edit, specs.declared.edits.Edit.TheVariants.{Insert, Replace, Remove}, specs.Carrying.moved, proofs.Crossing.{Beside, InFront, Behind, Over, Out, bumped, shifted, crossed, insert-moves, replace-moves, remove-moves, shifted-low, shifted-high}}

-- whether a card stands in front of the edit beside another; an edit over a card moves none
abbrev pub IsBefore : Beside → ℕ → ℕ → Type 0
IsBefore (InFront new) card place = card < place
IsBefore (Behind new) card place = card ≤ place
IsBefore (Over new) card place = ⊥
IsBefore Out card place = card < place

-- whether it stands behind that
abbrev pub IsPast : Beside → ℕ → ℕ → Type 0
IsPast (InFront new) card place = place ≤ card
IsPast (Behind new) card place = place < card
IsPast (Over new) card place = ⊥
IsPast Out card place = place < card

-- what an insertion of another at a place p makes of the place of a card
abbrev pub InsertMoves : ℕ → ℕ → ℕ → Type 0
InsertMoves p card next = ((p ≤ card) × (next ≡ card + 1)) ⊎ ((card < p) × (next ≡ card))

-- what a replacement does, of another card
abbrev pub ReplaceMoves : ℕ → ℕ → ℕ → Type 0
ReplaceMoves p card next = ((p < card) × (next ≡ card)) ⊎ ((card < p) × (next ≡ card))

-- what a removal does, of another card
abbrev pub RemoveMoves : ℕ → ℕ → ℕ → Type 0
RemoveMoves p card next = ((p < card) × (next ≡ card - 1)) ⊎ ((card < p) × (next ≡ card))

-- they do so
inserts : (p card next : ℕ) (new : Card) → InsertMoves p card next → moved (Insert p new) card ≡ Some next
inserts p card next new moves = elim (leb_tells p card) [
  | inl h ↦ ap (λ (b : Bool). Some (if b then card + 1 else card)) h.0 ∙ (elim moves [ inl g ↦ ap (λ (n : ℕ). Some n) (sym g.1) | inr g ↦ absurd (omega arith) ])
  | inr h ↦ ap (λ (b : Bool). Some (if b then card + 1 else card)) h.0 ∙ (elim moves [ inl g ↦ absurd (omega arith) | inr g ↦ ap (λ (n : ℕ). Some n) (sym g.1) ])
]

-- a test of two places that are not the same
pub differ : (p card : ℕ) → (p < card) ⊎ (card < p) → (p == card) ≡ false
differ p card apart = unequal (p == card) (λ h. elim apart [ inl g ↦ (let e : p ≡ card = (Decides-eqb p card).0 h in absurd (omega arith)) | inr g ↦ (let e : p ≡ card = (Decides-eqb p card).0 h in absurd (omega arith)) ])
  where
    unequal : (b : Bool) → (b ≡ true → ⊥) → b ≡ false
    unequal true never = absurd (never refl)
    unequal false never = refl

replaces : (p card next : ℕ) (new : Card) → ReplaceMoves p card next → moved (Replace p new) card ≡ Some next
replaces p card next new (inl h) = ap (λ (b : Bool). if b then None else Some card) (differ p card (inl h.0)) ∙ ap (λ (n : ℕ). Some n) (sym h.1)
replaces p card next new (inr h) = ap (λ (b : Bool). if b then None else Some card) (differ p card (inr h.0)) ∙ ap (λ (n : ℕ). Some n) (sym h.1)

removes : (p card next : ℕ) → RemoveMoves p card next → moved (Remove p) card ≡ Some next
removes p card next (inl h) =
    ap (λ (b : Bool). if b then None else Some (if nat_lt p card then card - 1 else card)) (differ p card (inl h.0))
    ∙ (elim (leb_tells (suc p) card) [ inl g ↦ ap (λ (b : Bool). Some (if b then card - 1 else card)) g.0 ∙ ap (λ (n : ℕ). Some n) (sym h.1) | inr g ↦ absurd (omega arith) ])
removes p card next (inr h) =
    ap (λ (b : Bool). if b then None else Some (if nat_lt p card then card - 1 else card)) (differ p card (inr h.0))
    ∙ (elim (leb_tells (suc p) card) [ inl g ↦ absurd (omega arith) | inr g ↦ ap (λ (b : Bool). Some (if b then card - 1 else card)) g.0 ∙ ap (λ (n : ℕ). Some n) (sym h.1) ])

-- an insertion of another at q, which stands at p behind the sender's edit beside card a, and a card z in front of that edit
insert-before : (own : Beside) (q a a1 z z1 p : ℕ) → ((q ≤ a) × (a1 ≡ a + 1) × (p ≡ q)) ⊎ ((a < q) × (a1 ≡ a) × (p ≡ bumped own q)) → InsertMoves q z z1 → IsBefore own z a → IsBefore own z1 a1 × InsertMoves p z z1
insert-before (InFront new) q a a1 z z1 p across moves before = elim across [
  | inl h ↦ elim moves [ inl g ↦ (omega arith, inl (omega arith, omega arith)) | inr g ↦ (omega arith, inr (omega arith, omega arith)) ]
  | inr h ↦ elim moves [ inl g ↦ (omega arith, inl (omega arith, omega arith)) | inr g ↦ (omega arith, inr (omega arith, omega arith)) ]
]
insert-before (Behind new) q a a1 z z1 p across moves before = elim across [
  | inl h ↦ elim moves [ inl g ↦ (omega arith, inl (omega arith, omega arith)) | inr g ↦ (omega arith, inr (omega arith, omega arith)) ]
  | inr h ↦ elim moves [ inl g ↦ (omega arith, inl (omega arith, omega arith)) | inr g ↦ (omega arith, inr (omega arith, omega arith)) ]
]
insert-before Out q a a1 z z1 p across moves before = elim across [
  | inl h ↦ elim moves [ inl g ↦ (omega arith, inl (omega arith, omega arith)) | inr g ↦ (omega arith, inr (omega arith, omega arith)) ]
  | inr h ↦ elim moves [ inl g ↦ (omega arith, inl (omega arith, omega arith)) | inr g ↦ (omega arith, inr (omega arith, omega arith)) ]
]
insert-before (Over new) q a a1 z z1 p across moves before = absurd before

-- a card behind it
insert-past : (own : Beside) (q a a1 z z1 p : ℕ) → ((q ≤ a) × (a1 ≡ a + 1) × (p ≡ q)) ⊎ ((a < q) × (a1 ≡ a) × (p ≡ bumped own q)) → InsertMoves q z z1 → IsPast own z a → IsPast own z1 a1 × InsertMoves p (bumped own z) (bumped own z1)
insert-past (InFront new) q a a1 z z1 p across moves past = elim across [
  | inl h ↦ elim moves [ inl g ↦ (omega arith, inl (omega arith, omega arith)) | inr g ↦ (omega arith, inr (omega arith, omega arith)) ]
  | inr h ↦ elim moves [ inl g ↦ (omega arith, inl (omega arith, omega arith)) | inr g ↦ (omega arith, inr (omega arith, omega arith)) ]
]
insert-past (Behind new) q a a1 z z1 p across moves past = elim across [
  | inl h ↦ elim moves [ inl g ↦ (omega arith, inl (omega arith, omega arith)) | inr g ↦ (omega arith, inr (omega arith, omega arith)) ]
  | inr h ↦ elim moves [ inl g ↦ (omega arith, inl (omega arith, omega arith)) | inr g ↦ (omega arith, inr (omega arith, omega arith)) ]
]
insert-past Out q a a1 z z1 p across moves past = elim across [
  | inl h ↦ elim moves [ inl g ↦ (omega arith, inl (omega arith, omega arith)) | inr g ↦ (omega arith, inr (omega arith, omega arith)) ]
  | inr h ↦ elim moves [ inl g ↦ (omega arith, inl (omega arith, omega arith)) | inr g ↦ (omega arith, inr (omega arith, omega arith)) ]
]
insert-past (Over new) q a a1 z z1 p across moves past = absurd past

-- a replacement of another at q, which stands at p behind the sender's edit beside card a, and a card z in front of that edit
replace-before : (own : Beside) (q a a1 z z1 p : ℕ) → ((q < a) × (a1 ≡ a) × (p ≡ q)) ⊎ ((a < q) × (a1 ≡ a) × (p ≡ bumped own q)) → ReplaceMoves q z z1 → IsBefore own z a → IsBefore own z1 a1 × ReplaceMoves p z z1
replace-before (InFront new) q a a1 z z1 p across moves before = elim across [
  | inl h ↦ elim moves [ inl g ↦ (omega arith, inl (omega arith, omega arith)) | inr g ↦ (omega arith, inr (omega arith, omega arith)) ]
  | inr h ↦ elim moves [ inl g ↦ (omega arith, inl (omega arith, omega arith)) | inr g ↦ (omega arith, inr (omega arith, omega arith)) ]
]
replace-before (Behind new) q a a1 z z1 p across moves before = elim across [
  | inl h ↦ elim moves [ inl g ↦ (omega arith, inl (omega arith, omega arith)) | inr g ↦ (omega arith, inr (omega arith, omega arith)) ]
  | inr h ↦ elim moves [ inl g ↦ (omega arith, inl (omega arith, omega arith)) | inr g ↦ (omega arith, inr (omega arith, omega arith)) ]
]
replace-before Out q a a1 z z1 p across moves before = elim across [
  | inl h ↦ elim moves [ inl g ↦ (omega arith, inl (omega arith, omega arith)) | inr g ↦ (omega arith, inr (omega arith, omega arith)) ]
  | inr h ↦ elim moves [ inl g ↦ (omega arith, inl (omega arith, omega arith)) | inr g ↦ (omega arith, inr (omega arith, omega arith)) ]
]
replace-before (Over new) q a a1 z z1 p across moves before = absurd before

-- a card behind it
replace-past : (own : Beside) (q a a1 z z1 p : ℕ) → ((q < a) × (a1 ≡ a) × (p ≡ q)) ⊎ ((a < q) × (a1 ≡ a) × (p ≡ bumped own q)) → ReplaceMoves q z z1 → IsPast own z a → IsPast own z1 a1 × ReplaceMoves p (bumped own z) (bumped own z1)
replace-past (InFront new) q a a1 z z1 p across moves past = elim across [
  | inl h ↦ elim moves [ inl g ↦ (omega arith, inl (omega arith, omega arith)) | inr g ↦ (omega arith, inr (omega arith, omega arith)) ]
  | inr h ↦ elim moves [ inl g ↦ (omega arith, inl (omega arith, omega arith)) | inr g ↦ (omega arith, inr (omega arith, omega arith)) ]
]
replace-past (Behind new) q a a1 z z1 p across moves past = elim across [
  | inl h ↦ elim moves [ inl g ↦ (omega arith, inl (omega arith, omega arith)) | inr g ↦ (omega arith, inr (omega arith, omega arith)) ]
  | inr h ↦ elim moves [ inl g ↦ (omega arith, inl (omega arith, omega arith)) | inr g ↦ (omega arith, inr (omega arith, omega arith)) ]
]
replace-past Out q a a1 z z1 p across moves past = elim across [
  | inl h ↦ elim moves [ inl g ↦ (omega arith, inl (omega arith, omega arith)) | inr g ↦ (omega arith, inr (omega arith, omega arith)) ]
  | inr h ↦ elim moves [ inl g ↦ (omega arith, inl (omega arith, omega arith)) | inr g ↦ (omega arith, inr (omega arith, omega arith)) ]
]
replace-past (Over new) q a a1 z z1 p across moves past = absurd past

-- a removal of another at q, which stands at p behind the sender's edit beside card a, and a card z in front of that edit
remove-before : (own : Beside) (q a a1 z z1 p : ℕ) → ((q < a) × (a1 ≡ a - 1) × (p ≡ q)) ⊎ ((a < q) × (a1 ≡ a) × (p ≡ bumped own q)) → RemoveMoves q z z1 → IsBefore own z a → IsBefore own z1 a1 × RemoveMoves p z z1
remove-before (InFront new) q a a1 z z1 p across moves before = elim across [
  | inl h ↦ elim moves [ inl g ↦ (omega arith, inl (omega arith, omega arith)) | inr g ↦ (omega arith, inr (omega arith, omega arith)) ]
  | inr h ↦ elim moves [ inl g ↦ (omega arith, inl (omega arith, omega arith)) | inr g ↦ (omega arith, inr (omega arith, omega arith)) ]
]
remove-before (Behind new) q a a1 z z1 p across moves before = elim across [
  | inl h ↦ elim moves [ inl g ↦ (omega arith, inl (omega arith, omega arith)) | inr g ↦ (omega arith, inr (omega arith, omega arith)) ]
  | inr h ↦ elim moves [ inl g ↦ (omega arith, inl (omega arith, omega arith)) | inr g ↦ (omega arith, inr (omega arith, omega arith)) ]
]
remove-before Out q a a1 z z1 p across moves before = elim across [
  | inl h ↦ elim moves [ inl g ↦ (omega arith, inl (omega arith, omega arith)) | inr g ↦ (omega arith, inr (omega arith, omega arith)) ]
  | inr h ↦ elim moves [ inl g ↦ (omega arith, inl (omega arith, omega arith)) | inr g ↦ (omega arith, inr (omega arith, omega arith)) ]
]
remove-before (Over new) q a a1 z z1 p across moves before = absurd before

-- a card behind it
remove-past : (own : Beside) (q a a1 z z1 p : ℕ) → ((q < a) × (a1 ≡ a - 1) × (p ≡ q)) ⊎ ((a < q) × (a1 ≡ a) × (p ≡ bumped own q)) → RemoveMoves q z z1 → IsPast own z a → IsPast own z1 a1 × RemoveMoves p (bumped own z) (bumped own z1)
remove-past (InFront new) q a a1 z z1 p across moves past = elim across [
  | inl h ↦ elim moves [ inl g ↦ (omega arith, inl (omega arith, omega arith)) | inr g ↦ (omega arith, inr (omega arith, omega arith)) ]
  | inr h ↦ elim moves [ inl g ↦ (omega arith, inl (omega arith, omega arith)) | inr g ↦ (omega arith, inr (omega arith, omega arith)) ]
]
remove-past (Behind new) q a a1 z z1 p across moves past = elim across [
  | inl h ↦ elim moves [ inl g ↦ (omega arith, inl (omega arith, omega arith)) | inr g ↦ (omega arith, inr (omega arith, omega arith)) ]
  | inr h ↦ elim moves [ inl g ↦ (omega arith, inl (omega arith, omega arith)) | inr g ↦ (omega arith, inr (omega arith, omega arith)) ]
]
remove-past Out q a a1 z z1 p across moves past = elim across [
  | inl h ↦ elim moves [ inl g ↦ (omega arith, inl (omega arith, omega arith)) | inr g ↦ (omega arith, inr (omega arith, omega arith)) ]
  | inr h ↦ elim moves [ inl g ↦ (omega arith, inl (omega arith, omega arith)) | inr g ↦ (omega arith, inr (omega arith, omega arith)) ]
]
remove-past (Over new) q a a1 z z1 p across moves past = absurd past

-- the sender's edit and another's, known by their places
across-insert : (own : Beside) (q a a1 : ℕ) (new : Card) → moved (Insert q new) a ≡ Some a1 → ((q ≤ a) × (a1 ≡ a + 1) × (shifted own a q ≡ q)) ⊎ ((a < q) × (a1 ≡ a) × (shifted own a q ≡ bumped own q))
across-insert own q a a1 new moves = elim (insert-moves q a a1 new moves) [ inl h ↦ inl (h.0, h.1, shifted-low own a q h.0) | inr h ↦ inr (h.0, h.1, shifted-high own a q h.0) ]

across-replace : (own : Beside) (q a a1 : ℕ) (new : Card) → moved (Replace q new) a ≡ Some a1 → ((q < a) × (a1 ≡ a) × (shifted own a q ≡ q)) ⊎ ((a < q) × (a1 ≡ a) × (shifted own a q ≡ bumped own q))
across-replace own q a a1 new moves = elim (replace-moves q a a1 new moves) [ inl h ↦ inl (h.0, h.1, shifted-low own a q (omega arith)) | inr h ↦ inr (h.0, h.1, shifted-high own a q h.0) ]

across-remove : (own : Beside) (q a a1 : ℕ) → moved (Remove q) a ≡ Some a1 → ((q < a) × (a1 ≡ a - 1) × (shifted own a q ≡ q)) ⊎ ((a < q) × (a1 ≡ a) × (shifted own a q ≡ bumped own q))
across-remove own q a a1 moves = elim (remove-moves q a a1 moves) [ inl h ↦ inl (h.0, h.1, shifted-low own a q (omega arith)) | inr h ↦ inr (h.0, h.1, shifted-high own a q h.0) ]

-- a card in front of the sender's edit goes as it went
pub before-step : (own : Beside) (edit : Edit) (a a1 z z1 : ℕ) → moved edit a ≡ Some a1 → moved edit z ≡ Some z1 → IsBefore own z a → IsBefore own z1 a1 × (moved (crossed own a edit) z ≡ Some z1)
before-step own (Insert q new) a a1 z z1 ma mz before =
    let both = insert-before own q a a1 z z1 (shifted own a q) (across-insert own q a a1 new ma) (insert-moves q z z1 new mz) before in (both.0, inserts (shifted own a q) z z1 new both.1)
before-step own (Replace q new) a a1 z z1 ma mz before =
    let both = replace-before own q a a1 z z1 (shifted own a q) (across-replace own q a a1 new ma) (replace-moves q z z1 new mz) before in (both.0, replaces (shifted own a q) z z1 new both.1)
before-step own (Remove q) a a1 z z1 ma mz before =
    let both = remove-before own q a a1 z z1 (shifted own a q) (across-remove own q a a1 ma) (remove-moves q z z1 mz) before in (both.0, removes (shifted own a q) z z1 both.1)

-- a card behind it goes as it went, from where it stands then
pub past-step : (own : Beside) (edit : Edit) (a a1 z z1 : ℕ) → moved edit a ≡ Some a1 → moved edit z ≡ Some z1 → IsPast own z a → IsPast own z1 a1 × (moved (crossed own a edit) (bumped own z) ≡ Some (bumped own z1))
past-step own (Insert q new) a a1 z z1 ma mz past =
    let both = insert-past own q a a1 z z1 (shifted own a q) (across-insert own q a a1 new ma) (insert-moves q z z1 new mz) past in (both.0, inserts (shifted own a q) (bumped own z) (bumped own z1) new both.1)
past-step own (Replace q new) a a1 z z1 ma mz past =
    let both = replace-past own q a a1 z z1 (shifted own a q) (across-replace own q a a1 new ma) (replace-moves q z z1 new mz) past in (both.0, replaces (shifted own a q) (bumped own z) (bumped own z1) new both.1)
past-step own (Remove q) a a1 z z1 ma mz past =
    let both = remove-past own q a a1 z z1 (shifted own a q) (across-remove own q a a1 ma) (remove-moves q z z1 mz) past in (both.0, removes (shifted own a q) (bumped own z) (bumped own z1) both.1)

-- the card of the sender's own insertion in front of another
pub front-step : (card : Card) (edit : Edit) (a a1 : ℕ) → moved edit a ≡ Some a1 → moved (crossed (InFront card) a edit) a ≡ Some a1
front-step card (Insert q new) a a1 ma = inserts (shifted (InFront card) a q) a a1 new (elim (across-insert (InFront card) q a a1 new ma) [ inl h ↦ inl (omega arith, h.1) | inr h ↦ inr (omega arith, h.1) ])
front-step card (Replace q new) a a1 ma = replaces (shifted (InFront card) a q) a a1 new (elim (across-replace (InFront card) q a a1 new ma) [ inl h ↦ inl (omega arith, h.1) | inr h ↦ inr (omega arith, h.1) ])
front-step card (Remove q) a a1 ma = removes (shifted (InFront card) a q) a a1 (elim (across-remove (InFront card) q a a1 ma) [ inl h ↦ inl (omega arith, h.1) | inr h ↦ inr (omega arith, h.1) ])

-- and behind another
pub behind-step : (card : Card) (edit : Edit) (a a1 : ℕ) → moved edit a ≡ Some a1 → moved (crossed (Behind card) a edit) (a + 1) ≡ Some (a1 + 1)
behind-step card (Insert q new) a a1 ma = inserts (shifted (Behind card) a q) (a + 1) (a1 + 1) new (elim (across-insert (Behind card) q a a1 new ma) [ inl h ↦ inl (omega arith, omega arith) | inr h ↦ inr (omega arith, omega arith) ])
behind-step card (Replace q new) a a1 ma = replaces (shifted (Behind card) a q) (a + 1) (a1 + 1) new (elim (across-replace (Behind card) q a a1 new ma) [ inl h ↦ inl (omega arith, omega arith) | inr h ↦ inr (omega arith, omega arith) ])
behind-step card (Remove q) a a1 ma = removes (shifted (Behind card) a q) (a + 1) (a1 + 1) (elim (across-remove (Behind card) q a a1 ma) [ inl h ↦ inl (omega arith, omega arith) | inr h ↦ inr (omega arith, omega arith) ])
