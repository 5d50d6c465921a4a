-- A round at a desk without leases where no deck is behind: its link is published, or it is idle.
use Rattle.std.{proofs.Common.{◌≡◌, ◌+◌, ◌==◌, ◌≤◌, Bool, true, false, cond, not, Option, Some, refl, sym, ap, ◌∙◌, subst, arith, eq-eqb}, specs.Prelude.find, specs.List.list_any, proofs.lemmas.Bool.{cond-true, cond-false}}
use Rattle.desk_core.{specs.Desks.{Desk, Lease, is_leased_at, greatest_number}, specs.Joins.Calls.{Idle, Published, Refusal}, specs.Answers.{Answer, answers, unless}, specs.Claiming.{claim, claim_deck, claim_link, hand_out_link, is_behind, is_free, is_published}, specs.Delivering.{publish, own_publication, unlinked}, specs.Rounds.{after_job, after_round}, proofs.RoundsLeft.{rounds_in, link_rounds}, proofs.DeckRounds.{IsResting, Goes, none_against}}

module _ (desk : Desk) (built : list_any is_behind desk.decks ≡ false) where
  claimed : claim desk ≡ claim_link desk
  claimed = cond-false (list_any is_behind desk.decks) (claim_deck desk (find is_free desk.decks)) (claim_link desk) built

  -- a claim where this version is published
  pub idle_claimed : is_published desk.version desk.publication ≡ true → claim desk ≡ answers (Idle desk.version) desk
  idle_claimed published = claimed ∙ cond-true (is_published desk.version desk.publication) _ _ published

  module _ (resting : IsResting desk) (unpublished : is_published desk.version desk.publication ≡ false) (room : desk.leases + 1 ≤ greatest_number) where
    -- and where it is not
    link_claimed : claim desk ≡ hand_out_link desk
    link_claimed =
        claimed
        ∙ cond-false (is_published desk.version desk.publication) _ _ unpublished
        ∙ cond-false (is_leased_at desk.version desk.link) _ _ (ap (λ (link : Option Lease). is_leased_at desk.version link) resting.unlinked)
        ∙ ap (λ (against : Option Refusal). unless against desk (hand_out_link desk)) (none_against desk.leases room)

    abbrev out : Desk
    out = (hand_out_link desk).desk

    -- the desk that published its decks
    abbrev last : Desk
    last = record (unlinked out) { publication = Some (own_publication out) }

    -- it publishes them
    published : publish (desk.leases + 1) out ≡ answers (Published desk.publication) last
    published =
        let present : (desk.version == desk.version) ≡ true = eq-eqb desk.version desk.version refl in
        cond-true (desk.leases + 1 == desk.leases + 1) _ _ (eq-eqb (desk.leases + 1) (desk.leases + 1) refl)
        ∙ cond-false (not (desk.version == desk.version)) _ _ (ap not present)
        ∙ cond-false (list_any is_behind desk.decks) _ _ built

    goes_published : Goes desk last
    goes_published =
        let before : link_rounds desk ≡ 1 = ap (λ (b : Bool). cond b 0 1) unpublished in
        let after : link_rounds last ≡ 0 = ap (λ (b : Bool). cond b 0 1) (eq-eqb desk.version desk.version refl) in
        let decks : rounds_in last.decks ≡ rounds_in desk.decks = refl in
        record {
          resting = record { own = resting.own; ungiven = resting.ungiven; unlinked = refl };
          version = refl;
          leases = omega arith;
          fewer = omega arith;
        }

    -- the round
    pub link_round : Goes desk (after_round desk)
    link_round =
        subst (λ (a : Answer). Goes desk (after_job a.reply a.desk)) (sym link_claimed)
        (subst (λ (a : Answer). Goes desk a.desk) (sym published) goes_published)
