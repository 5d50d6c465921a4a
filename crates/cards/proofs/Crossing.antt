-- An edit of the sender and one of another, in both orders.
use Rattle.std.{specs.Prelude.{insert, remove}, proofs.Common.{ℕ, suc, ◌≡◌, ◌+◌, ◌-◌, ◌==◌, ◌≤◌, ◌<◌, ◌⊎◌, inl, inr, Bool, true, false, List, length, Option, Some, None, if◌then◌else◌, sym, ap, arith, nat_le, nat_lt}, proofs.Math.ListN.set, proofs.lemmas.Bool.Decides.{leb_tells, Decides-eqb}}
use Rattle.definitions.specs.Cards.{Card}
use Rattle.cards.{specs.declared.edits.Edit.Edit, specs.declared.edits.Edit.TheVariants.{Insert, Replace, Remove}, specs.Edits.edited, specs.Carrying.moved, specs.Converging.HasPlace, proofs.Commuting.{insert-insert, set-insert_behind, set-insert_in_front, remove-insert_behind, remove-insert_in_front, set-set_apart, remove-set_behind, remove-set_in_front, remove-remove}}

-- an edit, known by the card beside which it is made: an insertion in front of it or behind it, another card over it, or its removal
pub data Beside : Type 0 where
  InFront : Card → Beside
  Behind : Card → Beside
  Over : Card → Beside
  Out : Beside

-- the edit beside the card of a place
abbrev pub beside : Beside → ℕ → Edit
beside (InFront card) place = Insert place card
beside (Behind card) place = Insert (place + 1) card
beside (Over card) place = Replace place card
beside Out place = Remove place

-- the least place beside which it is made, and how far behind the last card
abbrev pub least : Beside → ℕ
least (InFront card) = 1
least (Behind card) = 0
least (Over card) = 1
least Out = 1

abbrev pub beyond : Beside → ℕ
beyond (InFront card) = 1
beyond (Behind card) = 0
beyond (Over card) = 0
beyond Out = 0

-- the place is one of so many cards, or the beginning or the end where the edit may be beside that
abbrev pub IsBeside : Beside → ℕ → ℕ → Type 0
IsBeside own place count = (least own ≤ place) × (place ≤ count + beyond own)

-- where what stood behind it stands once it is made
abbrev pub bumped : Beside → ℕ → ℕ
bumped (InFront card) place = place + 1
bumped (Behind card) place = place + 1
bumped (Over card) place = place
bumped Out place = place - 1

-- the place of another's edit once it is made beside a card
abbrev pub shifted : Beside → ℕ → ℕ → ℕ
shifted own beside place = if nat_le place beside then place else bumped own place

-- another's edit once it is made
abbrev pub crossed : Beside → ℕ → Edit → Edit
crossed own beside (Insert place card) = Insert (shifted own beside place) card
crossed own beside (Replace place card) = Replace (shifted own beside place) card
crossed own beside (Remove place) = Remove (shifted own beside place)

-- a place that is chosen by a test
chosen : (b : Bool) (x y z : ℕ) → b ≡ true → Some (if b then x else y) ≡ Some z → z ≡ x
chosen true x y z so e = cc
chosen false x y z so e = cc

other : (b : Bool) (x y z : ℕ) → b ≡ false → Some (if b then x else y) ≡ Some z → z ≡ y
other true x y z so e = cc
other false x y z so e = cc

-- what is found where a test fails
found-else : (b : Bool) (found : Option ℕ) (z : ℕ) → (if b then None else found) ≡ Some z → found ≡ Some z
found-else true found z e = cc
found-else false found z e = e

-- it fails
fails : (b : Bool) (found : Option ℕ) (z : ℕ) → (if b then None else found) ≡ Some z → b ≡ true → ⊥
fails true found z e so = cc
fails false found z e so = cc

-- two places that are not the same
apart : (p q : ℕ) → (p ≡ q → ⊥) → (p < q) ⊎ (q < p)
apart p q differ = elim (leb_tells (suc p) q) [ inl h ↦ inl h.1 | inr h ↦ inr (omega arith) ]

-- which way an edit moves a card
pub insert-moves : (place card next : ℕ) (new : Card) → moved (Insert place new) card ≡ Some next → ((place ≤ card) × (next ≡ card + 1)) ⊎ ((card < place) × (next ≡ card))
insert-moves place card next new e = elim (leb_tells place card) [
  | inl h ↦ inl (h.1, chosen (nat_le place card) (card + 1) card next h.0 e)
  | inr h ↦ inr (h.1, other (nat_le place card) (card + 1) card next h.0 e)
]

pub replace-moves : (place card next : ℕ) (new : Card) → moved (Replace place new) card ≡ Some next → ((place < card) × (next ≡ card)) ⊎ ((card < place) × (next ≡ card))
replace-moves place card next new e =
    let some : Some card ≡ Some next = found-else (place == card) (Some card) next e in
    let same : next ≡ card = cc in
    elim (apart place card (λ is. fails (place == card) (Some card) next e ((Decides-eqb place card).1 is))) [ inl h ↦ inl (h, same) | inr h ↦ inr (h, same) ]

pub remove-moves : (place card next : ℕ) → moved (Remove place) card ≡ Some next → ((place < card) × (next ≡ card - 1)) ⊎ ((card < place) × (next ≡ card))
remove-moves place card next e =
    let some : Some (if nat_lt place card then card - 1 else card) ≡ Some next = found-else (place == card) (Some (if nat_lt place card then card - 1 else card)) next e in
    let differ : (place ≡ card → ⊥) = λ is. fails (place == card) (Some (if nat_lt place card then card - 1 else card)) next e ((Decides-eqb place card).1 is) in
    elim (leb_tells (suc place) card) [
      | inl h ↦ inl (h.1, chosen (nat_lt place card) (card - 1) card next h.0 some)
      | inr h ↦ inr (omega arith, other (nat_lt place card) (card - 1) card next h.0 some)
    ]

-- a place in front of the card stays, one behind it is bumped
pub shifted-low : (own : Beside) (card place : ℕ) → place ≤ card → shifted own card place ≡ place
shifted-low own card place low = elim (leb_tells place card) [ inl h ↦ ap (λ (b : Bool). if b then place else bumped own place) h.0 | inr h ↦ absurd (omega arith) ]

pub shifted-high : (own : Beside) (card place : ℕ) → card < place → shifted own card place ≡ bumped own place
shifted-high own card place high = elim (leb_tells place card) [ inl h ↦ absurd (omega arith) | inr h ↦ ap (λ (b : Bool). if b then place else bumped own place) h.0 ]

-- with an insertion of another: q its place, a and a1 the place of the card before and after it, p its place behind the sender's edit
cross-insert : (own : Beside) (cards : List Card) (q a a1 p : ℕ) (new : Card) → 1 ≤ q → q ≤ length cards + 1 → IsBeside own a (length cards) →
    ((q ≤ a) × (a1 ≡ a + 1) × (p ≡ q)) ⊎ ((a < q) × (a1 ≡ a) × (p ≡ bumped own q)) →
    edited (insert cards (q - 1) new) (beside own a1) ≡ insert (edited cards (beside own a)) (p - 1) new
cross-insert (InFront card) cards q a a1 p new low high is (inl h) =
    let e1 : a1 - 1 ≡ suc (a - 1) = omega arith in let e2 : p - 1 ≡ q - 1 = omega arith in
    rw (e1, e2) (insert-insert cards (q - 1) (a - 1) new card (omega arith) (omega arith))
cross-insert (InFront card) cards q a a1 p new low high is (inr h) =
    let e1 : a1 - 1 ≡ a - 1 = omega arith in let e2 : p - 1 ≡ suc (q - 1) = omega arith in
    rw (e1, e2) (sym (insert-insert cards (a - 1) (q - 1) card new (omega arith) (omega arith)))
cross-insert (Behind card) cards q a a1 p new low high is (inl h) =
    let e1 : a1 + 1 - 1 ≡ suc (a + 1 - 1) = omega arith in let e2 : p - 1 ≡ q - 1 = omega arith in
    rw (e1, e2) (insert-insert cards (q - 1) (a + 1 - 1) new card (omega arith) (omega arith))
cross-insert (Behind card) cards q a a1 p new low high is (inr h) =
    let e1 : a1 + 1 - 1 ≡ a + 1 - 1 = omega arith in let e2 : p - 1 ≡ suc (q - 1) = omega arith in
    rw (e1, e2) (sym (insert-insert cards (a + 1 - 1) (q - 1) card new (omega arith) (omega arith)))
cross-insert (Over card) cards q a a1 p new low high is (inl h) =
    let e1 : a1 - 1 ≡ suc (a - 1) = omega arith in let e2 : p - 1 ≡ q - 1 = omega arith in
    rw (e1, e2) (sym (set-insert_in_front cards (a - 1) (q - 1) card new (omega arith) (omega arith)))
cross-insert (Over card) cards q a a1 p new low high is (inr h) =
    let e1 : a1 - 1 ≡ a - 1 = omega arith in let e2 : p - 1 ≡ q - 1 = omega arith in
    rw (e1, e2) (sym (set-insert_behind cards (a - 1) (q - 1) card new (omega arith) (omega arith)))
cross-insert Out cards q a a1 p new low high is (inl h) =
    let e1 : a1 - 1 ≡ suc (a - 1) = omega arith in let e2 : p - 1 ≡ q - 1 = omega arith in
    rw (e1, e2) (sym (remove-insert_in_front cards (a - 1) (q - 1) new (omega arith) (omega arith)))
cross-insert Out cards q a a1 p new low high is (inr h) =
    let e1 : a1 - 1 ≡ a - 1 = omega arith in let e2 : q - 1 ≡ suc (p - 1) = omega arith in
    rw (e1, e2) (sym (remove-insert_behind cards (a - 1) (p - 1) new (omega arith) (omega arith)))

-- with another's replacement
cross-replace : (own : Beside) (cards : List Card) (q a a1 p : ℕ) (new : Card) → 1 ≤ q → q ≤ length cards → IsBeside own a (length cards) →
    ((q < a) × (a1 ≡ a) × (p ≡ q)) ⊎ ((a < q) × (a1 ≡ a) × (p ≡ bumped own q)) →
    edited (set cards (q - 1) new) (beside own a1) ≡ set (edited cards (beside own a)) (p - 1) new
cross-replace (InFront card) cards q a a1 p new low high is (inl h) =
    let e1 : a1 - 1 ≡ a - 1 = omega arith in let e2 : p - 1 ≡ q - 1 = omega arith in
    rw (e1, e2) (set-insert_behind cards (q - 1) (a - 1) new card (omega arith) (omega arith))
cross-replace (InFront card) cards q a a1 p new low high is (inr h) =
    let e1 : a1 - 1 ≡ a - 1 = omega arith in let e2 : p - 1 ≡ suc (q - 1) = omega arith in
    rw (e1, e2) (set-insert_in_front cards (q - 1) (a - 1) new card (omega arith) (omega arith))
cross-replace (Behind card) cards q a a1 p new low high is (inl h) =
    let e1 : a1 + 1 - 1 ≡ a + 1 - 1 = omega arith in let e2 : p - 1 ≡ q - 1 = omega arith in
    rw (e1, e2) (set-insert_behind cards (q - 1) (a + 1 - 1) new card (omega arith) (omega arith))
cross-replace (Behind card) cards q a a1 p new low high is (inr h) =
    let e1 : a1 + 1 - 1 ≡ a + 1 - 1 = omega arith in let e2 : p - 1 ≡ suc (q - 1) = omega arith in
    rw (e1, e2) (set-insert_in_front cards (q - 1) (a + 1 - 1) new card (omega arith) (omega arith))
cross-replace (Over card) cards q a a1 p new low high is (inl h) =
    let e1 : a1 - 1 ≡ a - 1 = omega arith in let e2 : p - 1 ≡ q - 1 = omega arith in
    rw (e1, e2) (set-set_apart cards (q - 1) (a - 1) new card (λ e. omega arith))
cross-replace (Over card) cards q a a1 p new low high is (inr h) =
    let e1 : a1 - 1 ≡ a - 1 = omega arith in let e2 : p - 1 ≡ q - 1 = omega arith in
    rw (e1, e2) (set-set_apart cards (q - 1) (a - 1) new card (λ e. omega arith))
cross-replace Out cards q a a1 p new low high is (inl h) =
    let e1 : a1 - 1 ≡ a - 1 = omega arith in let e2 : p - 1 ≡ q - 1 = omega arith in
    rw (e1, e2) (sym (remove-set_in_front cards (a - 1) (q - 1) new (omega arith) (omega arith)))
cross-replace Out cards q a a1 p new low high is (inr h) =
    let e1 : a1 - 1 ≡ a - 1 = omega arith in let e2 : q - 1 ≡ suc (p - 1) = omega arith in
    rw (e1, e2) (sym (remove-set_behind cards (a - 1) (p - 1) new (omega arith) (omega arith)))

-- with another's removal
cross-remove : (own : Beside) (cards : List Card) (q a a1 p : ℕ) → 1 ≤ q → q ≤ length cards → IsBeside own a (length cards) →
    ((q < a) × (a1 ≡ a - 1) × (p ≡ q)) ⊎ ((a < q) × (a1 ≡ a) × (p ≡ bumped own q)) →
    edited (remove cards (q - 1)) (beside own a1) ≡ remove (edited cards (beside own a)) (p - 1)
cross-remove (InFront card) cards q a a1 p low high is (inl h) =
    let e1 : a - 1 ≡ suc (a1 - 1) = omega arith in let e2 : p - 1 ≡ q - 1 = omega arith in
    rw (e1, e2) (remove-insert_behind cards (q - 1) (a1 - 1) card (omega arith) (omega arith))
cross-remove (InFront card) cards q a a1 p low high is (inr h) =
    let e1 : a1 - 1 ≡ a - 1 = omega arith in let e2 : p - 1 ≡ suc (q - 1) = omega arith in
    rw (e1, e2) (remove-insert_in_front cards (q - 1) (a - 1) card (omega arith) (omega arith))
cross-remove (Behind card) cards q a a1 p low high is (inl h) =
    let e1 : a + 1 - 1 ≡ suc (a1 + 1 - 1) = omega arith in let e2 : p - 1 ≡ q - 1 = omega arith in
    rw (e1, e2) (remove-insert_behind cards (q - 1) (a1 + 1 - 1) card (omega arith) (omega arith))
cross-remove (Behind card) cards q a a1 p low high is (inr h) =
    let e1 : a1 + 1 - 1 ≡ a + 1 - 1 = omega arith in let e2 : p - 1 ≡ suc (q - 1) = omega arith in
    rw (e1, e2) (remove-insert_in_front cards (q - 1) (a + 1 - 1) card (omega arith) (omega arith))
cross-remove (Over card) cards q a a1 p low high is (inl h) =
    let e1 : a - 1 ≡ suc (a1 - 1) = omega arith in let e2 : p - 1 ≡ q - 1 = omega arith in
    rw (e1, e2) (remove-set_behind cards (q - 1) (a1 - 1) card (omega arith) (omega arith))
cross-remove (Over card) cards q a a1 p low high is (inr h) =
    let e1 : a1 - 1 ≡ a - 1 = omega arith in let e2 : p - 1 ≡ q - 1 = omega arith in
    rw (e1, e2) (remove-set_in_front cards (q - 1) (a - 1) card (omega arith) (omega arith))
cross-remove Out cards q a a1 p low high is (inl h) =
    let e1 : a - 1 ≡ suc (a1 - 1) = omega arith in let e2 : p - 1 ≡ q - 1 = omega arith in
    rw (e1, e2) (remove-remove cards (q - 1) (a1 - 1) (omega arith) (omega arith))
cross-remove Out cards q a a1 p low high is (inr h) =
    let e1 : a1 - 1 ≡ a - 1 = omega arith in let e2 : q - 1 ≡ suc (p - 1) = omega arith in
    rw (e1, e2) (sym (remove-remove cards (a - 1) (p - 1) (omega arith) (omega arith)))

-- both orders leave the same cards
pub crosses : (own : Beside) (edit : Edit) (cards : List Card) (a a1 : ℕ) → HasPlace edit cards → IsBeside own a (length cards) → moved edit a ≡ Some a1 →
    edited (edited cards edit) (beside own a1) ≡ edited (edited cards (beside own a)) (crossed own a edit)
crosses own (Insert q new) cards a a1 has is moves = cross-insert own cards q a a1 (shifted own a q) new has.0 has.1 is
    (elim (insert-moves q a a1 new moves) [ inl h ↦ inl (h.0, h.1, shifted-low own a q h.0) | inr h ↦ inr (h.0, h.1, shifted-high own a q h.0) ])
crosses own (Replace q new) cards a a1 has is moves = cross-replace own cards q a a1 (shifted own a q) new has.0 has.1 is
    (elim (replace-moves q a a1 new moves) [ inl h ↦ inl (h.0, h.1, shifted-low own a q (omega arith)) | inr h ↦ inr (h.0, h.1, shifted-high own a q h.0) ])
crosses own (Remove q) cards a a1 has is moves = cross-remove own cards q a a1 (shifted own a q) has.0 has.1 is
    (elim (remove-moves q a a1 moves) [ inl h ↦ inl (h.0, h.1, shifted-low own a q (omega arith)) | inr h ↦ inr (h.0, h.1, shifted-high own a q h.0) ])
