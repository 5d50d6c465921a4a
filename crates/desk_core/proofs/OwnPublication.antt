-- What a desk publishes of its own decks is what their delivery publishes.
use Rattle.std.{proofs.Common.{◌≡◌, ◌∙◌, ℕ, ◌==◌, Bool, true, false, cond, not, Some, refl, sym, ap, eq-eqb}, specs.List.list_any, proofs.lemmas.Bool.cond-false}
use Rattle.desk_core.{specs.Desks.{Desk, decks_of, is_leased, is_leased_at}, specs.Joins.Calls.{Stored, Published, Refused, Foreign, Stale}, specs.Answers.{Answer, answers}, specs.Claiming.is_behind, specs.Progress.has_work, specs.Delivering.{publish, deliver_link, own_publication, same_decks, unlinked}, proofs.Same.same_decks-itself}

-- the desks that two answers leave, each by the same test
both : (test : Bool) (x y z w : Answer) → (test ≡ true → x.desk ≡ z.desk) → (test ≡ false → y.desk ≡ w.desk) → (cond test x y).desk ≡ (cond test z w).desk
both true x y z w first second = first refl
both false x y z w first second = second refl

module _ (lease : ℕ) (desk : Desk) (idle : has_work desk ≡ false) where
  -- the desk with its decks published
  abbrev after : Desk
  after = record (unlinked desk) { publication = Some (own_publication desk) }

  published : (cond (list_any is_behind desk.decks) (answers (Refused Foreign) (unlinked desk)) (answers (Published desk.publication) after)).desk ≡ after
  published = ap (λ (a : Answer). a.desk) (cond-false (list_any is_behind desk.decks) (answers (Refused Foreign) (unlinked desk)) (answers (Published desk.publication) after) idle)

  abbrev compared : Answer
  compared = cond (not (same_decks (decks_of desk) (decks_of desk))) (answers (Refused Foreign) (unlinked desk)) (answers Stored after)

  delivered : (cond (not (desk.version == desk.version)) (answers (Refused (Stale desk.version)) (unlinked desk)) compared).desk ≡ after
  delivered = ap (λ (a : Answer). a.desk)
      (cond-false (not (desk.version == desk.version)) (answers (Refused (Stale desk.version)) (unlinked desk)) compared (ap not (eq-eqb desk.version desk.version refl))
      ∙ cond-false (not (same_decks (decks_of desk) (decks_of desk))) (answers (Refused Foreign) (unlinked desk)) (answers Stored after) (ap not (same_decks-itself (decks_of desk))))

  pub published_delivered : (publish lease desk).desk ≡ (deliver_link lease (own_publication desk) desk).desk
  published_delivered =
      both (is_leased lease desk.link) _ _ _ _
      (λ leased. both (not (is_leased_at desk.version desk.link)) _ _ _ _ (λ old. refl) (λ present. published ∙ sym delivered))
      (λ unknown. refl)
