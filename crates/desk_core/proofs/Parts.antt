-- Parts of lists.
use Rattle.std.proofs.Common.{inl, inr, List, [], ◌∷◌, ◌++◌, refl}
use Rattle.desk_core.specs.Jobs.{IsPartOf}

module _ {A : Type 0} where
  pub part_nothing : (whole : List A) → IsPartOf whole []
  part_nothing [] = tt
  part_nothing (x ∷ whole) = tt

  pub part_itself : (whole : List A) → IsPartOf whole whole
  part_itself [] = tt
  part_itself (x ∷ whole) = inl (refl, part_itself whole)

  more_before : (y : A) (whole part : List A) → IsPartOf whole part → IsPartOf (y ∷ whole) part
  more_before y whole [] is = tt
  more_before y whole (x ∷ part) is = inr is

  -- parts of two lists, one behind the other
  pub part_append : (a part b more : List A) → IsPartOf a part → IsPartOf b more → IsPartOf (a ++ b) (part ++ more)
  part_append [] [] b more is also = also
  part_append [] (x ∷ part) b more is also = absurd is
  part_append (y ∷ a) [] b more is also = more_before y (a ++ b) more (part_append a [] b more (part_nothing a) also)
  part_append (y ∷ a) (x ∷ part) b more (inl here) also = inl (here.0, part_append a part b more here.1 also)
  part_append (y ∷ a) (x ∷ part) b more (inr later) also = inr (part_append a (x ∷ part) b more later also)

  -- the front of a part
  pub part_less : (a part more : List A) → IsPartOf a (part ++ more) → IsPartOf a part
  part_less [] [] more is = tt
  part_less [] (x ∷ part) more is = is
  part_less (y ∷ a) [] more is = tt
  part_less (y ∷ a) (x ∷ part) more (inl here) = inl (here.0, part_less a part more here.1)
  part_less (y ∷ a) (x ∷ part) more (inr later) = inr (part_less a (x ∷ part) more later)
