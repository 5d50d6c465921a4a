-- Lists of decks of which something is stated: found, filtered, put in another form, added to.
use Rattle.std.{proofs.Common.{◌≡◌, ℕ, Bool, true, false, cond, List, [], ◌∷◌, ◌++◌, map, filter, find, Option, Some, None, refl, subst}, specs.List.AllByRecursion}
use Rattle.desk_core.specs.Desks.{DeskDeck, is_named, put_if_named}

module _ {X : Type 0} where
  found_head : (P : X → Type 0) (test : X → Bool) (x found : X) (rest : Option X) (pass : Bool) → test x ≡ pass → P x → (rest ≡ Some found → P found × (test found ≡ true)) →
      cond pass (Some x) rest ≡ Some found → P found × (test found ≡ true)
  found_head P test x found rest true passes told later e = let same : x ≡ found = cc in (subst P same told, subst (λ y. test y ≡ true) same passes)
  found_head P test x found rest false passes told later e = later e

  -- what holds of each element holds of the one that is found, which passes the test
  pub found_told : (P : X → Type 0) (test : X → Bool) (xs : List X) (found : X) → AllByRecursion P xs → find test xs ≡ Some found → P found × (test found ≡ true)
  found_told P test [] found told e = cc
  found_told P test (x ∷ xs) found told e = found_head P test x found (find test xs) (test x) refl told.0 (λ later. found_told P test xs found told.1 later) e

  none_head : (test : X → Bool) (x : X) (rest : Option X) (pass : Bool) → test x ≡ pass → cond pass (Some x) rest ≡ None → (test x ≡ false) × (rest ≡ None)
  none_head test x rest true passes e = cc
  none_head test x rest false passes e = (passes, e)

  -- where nothing is found each element fails the test
  pub none_found : (test : X → Bool) (xs : List X) → find test xs ≡ None → AllByRecursion (λ x. test x ≡ false) xs
  none_found test [] e = tt
  none_found test (x ∷ xs) e = let head = none_head test x (find test xs) (test x) refl e in (head.0, none_found test xs head.1)

  -- what holds of each element because of two things that hold of it
  pub all_next : (P Q R : X → Type 0) → ((x : X) → P x → Q x → R x) → (xs : List X) → AllByRecursion P xs → AllByRecursion Q xs → AllByRecursion R xs
  all_next P Q R next [] p q = tt
  all_next P Q R next (x ∷ xs) p q = (next x p.0 q.0, all_next P Q R next xs p.1 q.1)

  -- what holds of each element because of one thing
  pub all_weaker : (P Q : X → Type 0) → ((x : X) → P x → Q x) → (xs : List X) → AllByRecursion P xs → AllByRecursion Q xs
  all_weaker P Q weaker [] p = tt
  all_weaker P Q weaker (x ∷ xs) p = (weaker x p.0, all_weaker P Q weaker xs p.1)

  filtered_head : (P : X → Type 0) (pass : Bool) (x : X) (xs : List X) → P x → AllByRecursion P xs → AllByRecursion P (cond pass (x ∷ xs) xs)
  filtered_head P true x xs p all = (p, all)
  filtered_head P false x xs p all = all

  pub all_filtered : (P : X → Type 0) (test : X → Bool) (xs : List X) → AllByRecursion P xs → AllByRecursion P (filter test xs)
  all_filtered P test [] all = tt
  all_filtered P test (x ∷ xs) all = filtered_head P (test x) x (filter test xs) all.0 (all_filtered P test xs all.1)

  pub all_added : (P : X → Type 0) (xs : List X) (x : X) → AllByRecursion P xs → P x → AllByRecursion P (xs ++ x ∷ [])
  all_added P [] x all p = (p, tt)
  all_added P (y ∷ ys) x all p = (all.0, all_added P ys x all.1 p)

put_head : (Q : DeskDeck → Type 0) (form deck : DeskDeck) (named : Bool) → (named ≡ true → Q form) → (named ≡ false → Q deck) → Q (cond named form deck)
put_head Q form deck true at_name at_other = at_name refl
put_head Q form deck false at_name at_other = at_other refl

-- the deck of a name in another form
pub all_put : (P Q : DeskDeck → Type 0) (name : List ℕ) (form : DeskDeck → DeskDeck) → ((deck : DeskDeck) → P deck → is_named name deck ≡ true → Q (form deck)) →
    ((deck : DeskDeck) → P deck → is_named name deck ≡ false → Q deck) → (decks : List DeskDeck) → AllByRecursion P decks → AllByRecursion Q (map (put_if_named name form) decks)
all_put P Q name form at_name at_other [] all = tt
all_put P Q name form at_name at_other (deck ∷ decks) all = (put_head Q (form deck) deck (is_named name deck) (at_name deck all.0) (at_other deck all.0), all_put P Q name form at_name at_other decks all.1)
