-- The counted item that begins a text begins each front of the text that holds it.
use Rattle.std.proofs.{Common.{◌≡◌, ℕ, ◌≤◌, List, ◌++◌, Option, Some, None, length, take, drop, refl, sym, ◌∙◌, ap, subst, inl, inr, arith}, lemmas.Bool.Decides.leb_tells, lemmas.List.{take-append-drop, take_all, length-take-le}}
use Rattle.definitions.specs.CountedItems.{CountedSpan, counted_item_at}
use Rattle.definitions.proofs.FrontLaws as fronts

-- an item has at most so many characters with its count and letter
abbrev pub IsWithin : Option CountedSpan → ℕ → Type 0
IsWithin None n = Unit {0}
IsWithin (Some counted) n = counted.taken ≤ n

front-by : (xs ys : List ℕ) (found short : Option CountedSpan) → counted_item_at (xs ++ ys) ≡ found → counted_item_at xs ≡ short → IsWithin found (length xs) → short ≡ found
front-by xs ys None None e k h = refl
front-by xs ys None (Some s) e k h = sym (fronts.item-longer xs ys s k) ∙ e
front-by xs ys (Some s) short e k h = sym k ∙ fronts.item-front xs ys s e h

-- an item that ends in time begins each front of the text that holds it, and no other item does
pub item-front : (n : ℕ) (text : List ℕ) → IsWithin (counted_item_at text) n → counted_item_at (take n text) ≡ counted_item_at text
item-front n text h =
    elim (leb_tells (length text) n) [
      | inl k ↦ ap counted_item_at (take_all n text k.1)
      | inr k ↦
          let less = k.1 in
          front-by (take n text) (drop n text) (counted_item_at text) (counted_item_at (take n text)) (ap counted_item_at (take-append-drop n text)) refl
          (subst (IsWithin (counted_item_at text)) (sym (length-take-le n text (omega (arith, less)))) h)
    ]
