-- Letters that are gathered one after the other.
use Rattle.std.proofs.Common.{◌≡◌, ◌∙◌, ℕ, List, [], ◌++◌, ap, sym, append_assoc, append-nil}
use Rattle.definitions.specs.{Letters.in_order, declared.letter.Letter.Letter}

-- the text of those so far; with those that are left they are all
pub record Gathered (text : List ℕ) (left all : List Letter) : Type 0 where
  pub done : List Letter
  pub is : text ≡ in_order done
  pub whole : done ++ left ≡ all

-- one more
pub one_gathered : (text after : List ℕ) (one left rest all : List Letter) → left ≡ one ++ rest →
    ((so_far : List Letter) → text ≡ in_order so_far → after ≡ in_order (so_far ++ one)) → Gathered text left all → Gathered after rest all
one_gathered text after one left rest all e more g = record {
  done = g.done ++ one;
  is = more g.done g.is;
  whole = append_assoc g.done one rest ∙ ap (λ l. g.done ++ l) (sym e) ∙ g.whole;
}

-- none is left
pub all_gathered : (text : List ℕ) (left all : List Letter) → left ≡ [] → Gathered text left all → text ≡ in_order all
all_gathered text left all e g = g.is ∙ ap in_order (sym (append-nil g.done) ∙ ap (λ l. g.done ++ l) (sym e) ∙ g.whole)
