-- Names as they lie in memory, and the test of two texts.
use Rattle.std.{proofs.Common.{◌≡◌, ◌≢◌, ℕ, ◌-◌, List, ◌++◌, nat_eq, length, take, replicate, sym, ap, ap₂, ◌∙◌, subst, true, Decides}, specs.Cmp.Lexicographic.{pointwise, bytes_decides}, proofs.lemmas.Bool.Decides.{Decides-eqb, same_from_decides}}
use Rattle.definitions.{specs.Characters.same_text, proofs.TextLaws.{same_text-true, same_text-refl}}
use Rattle.expr_forms.specs.Joins.NamesInline.{IsName, characters_back, len_back}

-- what the test of two texts shows
pub same_text-Decides : (a b : List ℕ) → Decides (same_text a b) (a ≡ b)
same_text-Decides a b = (same_text-true a b, λ e. subst (λ t. same_text a t ≡ true) e (same_text-refl a))

-- names of one length are the same where all their characters are, and names of different lengths are not
module _ (len other : ℕ) (characters others : List ℕ) (is : IsName len characters) (are : IsName other others) where
  pub characters-tell : len ≡ other → pointwise nat_eq characters others ≡ same_text (take len characters) (take other others)
  characters-tell long =
      let all = bytes_decides characters others in
      let text = same_text-Decides (take len characters) (take other others) in
      same_from_decides (pointwise nat_eq characters others) (same_text (take len characters) (take other others)) all
      (λ h. sym (characters_back len characters is) ∙ ap (λ l. l ++ replicate (9 - length l) 0) (text.0 h) ∙ characters_back other others are, λ e. text.1 (ap₂ take long e))

  pub lengths-tell : len ≢ other → nat_eq len other ≡ same_text (take len characters) (take other others)
  lengths-tell differ =
      let text = same_text-Decides (take len characters) (take other others) in
      same_from_decides (nat_eq len other) (same_text (take len characters) (take other others)) (Decides-eqb len other)
      (λ h. sym (len_back len characters is) ∙ ap length (text.0 h) ∙ len_back other others are, λ e. absurd (differ e))
