-- Edits that are carried converge with those of others.
use Rattle.std.proofs.{Common.{ℕ, ◌≡◌, ◌+◌, ◌-◌, ◌≤◌, ◌<◌, ◌⊎◌, inl, inr, Bool, true, false, List, [], ◌∷◌, length, Option, Some, None, if◌then◌else◌, refl, sym, ap, subst, ◌∙◌, arith, nat_le}, Math.ListN.length-set, lemmas.List.Edits.{length-insert, length-remove}}
use Rattle.definitions.specs.Cards.{Card}
use Rattle.cards.{specs.declared.edits.Edit.Edit, specs.declared.edits.Edit.TheVariants.{Insert, Replace, Remove}, specs.Edits.{edited, edited_by}, specs.Carrying.{moved, placed}, specs.Converging.{HasPlace, HavePlaces, without_places}, proofs.Crossing.{Beside, InFront, Behind, Over, Out, beside, least, beyond, IsBeside, bumped, shifted, crossed, insert-moves, replace-moves, remove-moves, shifted-low, shifted-high, crosses}, proofs.Following.{IsBefore, IsPast, before-step, past-step, front-step, behind-step}}

-- the least place is 0 or 1
least-low : (own : Beside) → least own ≤ 1
least-low (InFront card) = omega arith
least-low (Behind card) = omega arith
least-low (Over card) = omega arith
least-low Out = omega arith

-- a card that an edit leaves as it was stays within the cards
stays-within : (edit : Edit) (cards : List Card) (low high a a1 : ℕ) → HasPlace edit cards → low ≤ 1 → low ≤ a → a ≤ length cards + high → moved edit a ≡ Some a1 → (low ≤ a1) × (a1 ≤ length (edited cards edit) + high)
stays-within (Insert q new) cards low high a a1 has few above below moves =
    let more = length-insert cards (q - 1) new (omega arith) in elim (insert-moves q a a1 new moves) [ inl h ↦ (omega arith, omega arith) | inr h ↦ (omega arith, omega arith) ]
stays-within (Replace q new) cards low high a a1 has few above below moves =
    let same = length-set cards (q - 1) new in elim (replace-moves q a a1 new moves) [ inl h ↦ (omega arith, omega arith) | inr h ↦ (omega arith, omega arith) ]
stays-within (Remove q) cards low high a a1 has few above below moves =
    let less = length-remove cards (q - 1) (omega arith) in elim (remove-moves q a a1 moves) [ inl h ↦ (omega arith, omega arith) | inr h ↦ (omega arith, omega arith) ]

-- the place of another's edit is one of what the sender's leaves
place-within : (own : Beside) (cards : List Card) (q a p more : ℕ) → 1 ≤ q → q ≤ length cards + more → IsBeside own a (length cards) → ((q + 1 ≤ a + more) × (p ≡ q)) ⊎ ((a < q) × (p ≡ bumped own q)) →
    (1 ≤ p) × (p ≤ length (edited cards (beside own a)) + more)
place-within (InFront card) cards q a p more low high is across =
    let size = length-insert cards (a - 1) card (omega arith) in elim across [ inl h ↦ (omega arith, omega arith) | inr h ↦ (omega arith, omega arith) ]
place-within (Behind card) cards q a p more low high is across =
    let size = length-insert cards (a + 1 - 1) card (omega arith) in elim across [ inl h ↦ (omega arith, omega arith) | inr h ↦ (omega arith, omega arith) ]
place-within (Over card) cards q a p more low high is across =
    let size = length-set cards (a - 1) card in elim across [ inl h ↦ (omega arith, omega arith) | inr h ↦ (omega arith, omega arith) ]
place-within Out cards q a p more low high is across =
    let size = length-remove cards (a - 1) (omega arith) in elim across [ inl h ↦ (omega arith, omega arith) | inr h ↦ (omega arith, omega arith) ]

crossed-has : (own : Beside) (edit : Edit) (cards : List Card) (a a1 : ℕ) → HasPlace edit cards → IsBeside own a (length cards) → moved edit a ≡ Some a1 → HasPlace (crossed own a edit) (edited cards (beside own a))
crossed-has own (Insert q new) cards a a1 has is moves =
    place-within own cards q a (shifted own a q) 1 has.0 has.1 is (elim (insert-moves q a a1 new moves) [ inl h ↦ inl (omega arith, shifted-low own a q h.0) | inr h ↦ inr (h.0, shifted-high own a q h.0) ])
crossed-has own (Replace q new) cards a a1 has is moves =
    let within : (1 ≤ shifted own a q) × (shifted own a q ≤ length (edited cards (beside own a)) + 0) =
    place-within own cards q a (shifted own a q) 0 has.0 (omega arith) is (elim (replace-moves q a a1 new moves) [ inl h ↦ inl (omega arith, shifted-low own a q (omega arith)) | inr h ↦ inr (h.0, shifted-high own a q h.0) ]) in
    (within.0, omega arith)
crossed-has own (Remove q) cards a a1 has is moves =
    let within : (1 ≤ shifted own a q) × (shifted own a q ≤ length (edited cards (beside own a)) + 0) =
    place-within own cards q a (shifted own a q) 0 has.0 (omega arith) is (elim (remove-moves q a a1 moves) [ inl h ↦ inl (omega arith, shifted-low own a q (omega arith)) | inr h ↦ inr (h.0, shifted-high own a q h.0) ]) in
    (within.0, omega arith)

-- another's edit is the same but for its place
crossed-same : (own : Beside) (a : ℕ) (edit : Edit) → placed 0 (crossed own a edit) ≡ placed 0 edit
crossed-same own a (Insert q new) = refl
crossed-same own a (Replace q new) = refl
crossed-same own a (Remove q) = refl

-- where a card stands after edits of others
abbrev pub goes : List Edit → ℕ → Option ℕ
goes [] place = Some place
goes (edit ∷ edits) place = elim (moved edit place) as (λ x. Option ℕ) [ Some next ↦ goes edits next | None ↦ None ]

-- the edits of others once the sender's is made beside a card
abbrev pub crossed_all : Beside → ℕ → List Edit → List Edit
crossed_all own a [] = []
crossed_all own a (edit ∷ edits) = crossed own a edit ∷ (elim (moved edit a) as (λ x. List Edit) [ Some next ↦ crossed_all own next edits | None ↦ [] ])

-- a card that stands somewhere was moved by the first edit
goes-on : (found : Option ℕ) (edits : List Edit) (last : ℕ) → elim found as (λ x. Option ℕ) [ Some next ↦ goes edits next | None ↦ None ] ≡ Some last → (next : ℕ) × (found ≡ Some next) × (goes edits next ≡ Some last)
goes-on None edits last e = absurd (cc)
goes-on (Some next) edits last e = (next, refl, e)

-- the edits once the sender's is made, where the first leaves the card
crossed-cons : (own : Beside) (a a1 : ℕ) (edit : Edit) (edits : List Edit) → moved edit a ≡ Some a1 → crossed_all own a (edit ∷ edits) ≡ crossed own a edit ∷ crossed_all own a1 edits
crossed-cons own a a1 edit edits moves = ap (λ (found : Option ℕ). crossed own a edit ∷ (elim found as (λ x. List Edit) [ Some next ↦ crossed_all own next edits | None ↦ [] ])) moves

-- and where a card stands after an edit that moves it
goes-by : (edit : Edit) (edits : List Edit) (place next : ℕ) → moved edit place ≡ Some next → goes (edit ∷ edits) place ≡ goes edits next
goes-by edit edits place next moves = ap (λ (found : Option ℕ). elim found as (λ x. Option ℕ) [ Some n ↦ goes edits n | None ↦ None ]) moves

-- the sender's edit beside a card, and those of others, in both orders
pub record Crossed (own : Beside) (edits : List Edit) (cards : List Card) (a last : ℕ) : Type 0 where
  pub of_others : without_places (crossed_all own a edits) ≡ without_places edits
  pub places : HavePlaces (crossed_all own a edits) (edited cards (beside own a))
  pub within : IsBeside own last (length (edited_by edits cards))
  pub same : edited (edited_by edits cards) (beside own last) ≡ edited_by (crossed_all own a edits) (edited cards (beside own a))

pub all-crossed : (own : Beside) (edits : List Edit) (cards : List Card) (a last : ℕ) → HavePlaces edits cards → IsBeside own a (length cards) → goes edits a ≡ Some last → Crossed own edits cards a last
all-crossed own [] cards a last have is stands =
    let e : a ≡ last = cc in
    record { of_others = refl; places = tt; within = subst (λ (n : ℕ). IsBeside own n (length cards)) e is; same = ap (λ (n : ℕ). edited cards (beside own n)) (sym e) }
all-crossed own (edit ∷ edits) cards a last have is stands =
    let step = goes-on (moved edit a) edits last stands in
    let is1 : IsBeside own step.0 (length (edited cards edit)) = stays-within edit cards (least own) (beyond own) a step.0 have.0 (least-low own) is.0 is.1 step.1 in
    let rest : Crossed own edits (edited cards edit) step.0 last = all-crossed own edits (edited cards edit) step.0 last have.1 is1 step.2 in
    let first : edited (edited cards edit) (beside own step.0) ≡ edited (edited cards (beside own a)) (crossed own a edit) = crosses own edit cards a step.0 have.0 is step.1 in
    let cons : crossed_all own a (edit ∷ edits) ≡ crossed own a edit ∷ crossed_all own step.0 edits = crossed-cons own a step.0 edit edits step.1 in
    record {
      of_others = ap without_places cons ∙ ap (λ (one : Edit). one ∷ without_places (crossed_all own step.0 edits)) (crossed-same own a edit) ∙ ap (λ (more : List Edit). placed 0 edit ∷ more) rest.of_others;
      places = subst (λ (es : List Edit). HavePlaces es (edited cards (beside own a))) (sym cons)
          (crossed-has own edit cards a step.0 have.0 is step.1, subst (λ (cs : List Card). HavePlaces (crossed_all own step.0 edits) cs) first rest.places);
      within = rest.within;
      same = rest.same ∙ ap (λ (cs : List Card). edited_by (crossed_all own step.0 edits) cs) first ∙ ap (λ (es : List Edit). edited_by es (edited cards (beside own a))) (sym cons);
    }

-- a card in front of the sender's edit stands where it stands without it
pub before-goes : (own : Beside) (edits : List Edit) (a last z end : ℕ) → goes edits a ≡ Some last → goes edits z ≡ Some end → IsBefore own z a → goes (crossed_all own a edits) z ≡ Some end
before-goes own [] a last z end stands goes_z before = goes_z
before-goes own (edit ∷ edits) a last z end stands goes_z before =
    let step = goes-on (moved edit a) edits last stands in
    let walk = goes-on (moved edit z) edits end goes_z in
    let both = before-step own edit a step.0 z walk.0 step.1 walk.1 before in
    ap (λ (es : List Edit). goes es z) (crossed-cons own a step.0 edit edits step.1)
    ∙ goes-by (crossed own a edit) (crossed_all own step.0 edits) z walk.0 both.1
    ∙ before-goes own edits step.0 last walk.0 end step.2 walk.2 both.0

-- a card behind it, from where it stands then
pub past-goes : (own : Beside) (edits : List Edit) (a last z end : ℕ) → goes edits a ≡ Some last → goes edits z ≡ Some end → IsPast own z a → goes (crossed_all own a edits) (bumped own z) ≡ Some (bumped own end)
past-goes own [] a last z end stands goes_z past = ap (λ (n : ℕ). Some (bumped own n)) (let e : z ≡ end = cc in e)
past-goes own (edit ∷ edits) a last z end stands goes_z past =
    let step = goes-on (moved edit a) edits last stands in
    let walk = goes-on (moved edit z) edits end goes_z in
    let both = past-step own edit a step.0 z walk.0 step.1 walk.1 past in
    ap (λ (es : List Edit). goes es (bumped own z)) (crossed-cons own a step.0 edit edits step.1)
    ∙ goes-by (crossed own a edit) (crossed_all own step.0 edits) (bumped own z) (bumped own walk.0) both.1
    ∙ past-goes own edits step.0 last walk.0 end step.2 walk.2 both.0

-- the card that the sender put in front of another
pub front-goes : (card : Card) (edits : List Edit) (a last : ℕ) → goes edits a ≡ Some last → goes (crossed_all (InFront card) a edits) a ≡ Some last
front-goes card [] a last stands = stands
front-goes card (edit ∷ edits) a last stands =
    let step = goes-on (moved edit a) edits last stands in
    ap (λ (es : List Edit). goes es a) (crossed-cons (InFront card) a step.0 edit edits step.1)
    ∙ goes-by (crossed (InFront card) a edit) (crossed_all (InFront card) step.0 edits) a step.0 (front-step card edit a step.0 step.1)
    ∙ front-goes card edits step.0 last step.2

-- and behind another
pub behind-goes : (card : Card) (edits : List Edit) (a last : ℕ) → goes edits a ≡ Some last → goes (crossed_all (Behind card) a edits) (a + 1) ≡ Some (last + 1)
behind-goes card [] a last stands = ap (λ (n : ℕ). Some (n + 1)) (let e : a ≡ last = cc in e)
behind-goes card (edit ∷ edits) a last stands =
    let step = goes-on (moved edit a) edits last stands in
    ap (λ (es : List Edit). goes es (a + 1)) (crossed-cons (Behind card) a step.0 edit edits step.1)
    ∙ goes-by (crossed (Behind card) a edit) (crossed_all (Behind card) step.0 edits) (a + 1) (step.0 + 1) (behind-step card edit a step.0 step.1)
    ∙ behind-goes card edits step.0 last step.2

-- an edit over a card moves nothing
shifted-over : (card : Card) (a q : ℕ) → shifted (Over card) a q ≡ q
shifted-over card a q = same (nat_le q a)
  where
    same : (b : Bool) → (if b then q else q) ≡ q
    same true = refl
    same false = refl

over-same : (card : Card) (a : ℕ) (edit : Edit) → crossed (Over card) a edit ≡ edit
over-same card a (Insert q new) = ap (λ (n : ℕ). Insert n new) (shifted-over card a q)
over-same card a (Replace q new) = ap (λ (n : ℕ). Replace n new) (shifted-over card a q)
over-same card a (Remove q) = ap (λ (n : ℕ). Remove n) (shifted-over card a q)

pub over-goes : (card : Card) (edits : List Edit) (a last : ℕ) → goes edits a ≡ Some last → crossed_all (Over card) a edits ≡ edits
over-goes card [] a last stands = refl
over-goes card (edit ∷ edits) a last stands =
    let step = goes-on (moved edit a) edits last stands in
    crossed-cons (Over card) a step.0 edit edits step.1 ∙ ap (λ (one : Edit). one ∷ crossed_all (Over card) step.0 edits) (over-same card a edit) ∙ ap (λ (more : List Edit). edit ∷ more) (over-goes card edits step.0 last step.2)
