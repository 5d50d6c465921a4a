-- A claim hands work out where no lease is out.
use Rattle.std.{proofs.Common.{◌≡◌, inl, inr, ℕ, Bool, true, false, not, ◌&&◌, ◌||◌, List, [], ◌∷◌, find, is_some, is_none, Option, Some, None, refl, sym, ap, ◌∙◌, subst}, specs.List.list_any, proofs.lemmas.Bool.{cond_both, cond-true, cond-false}}
use Rattle.desk_core.specs.{Joins.Causes.when, Desks.{Desk, DeskDeck, Lease, is_leased_at}, Joins.Calls.{Claim, Do, Reply, VersionsSpent}, Answers.{Answer, unless}, Claiming.{claim, claim_deck, claim_link, hand_out, hand_out_link, is_behind, is_free, is_published}, Progress.{is_given, has_leases, has_work, hands_a_deck, hands_a_link}, Steps.Steps}

-- neither holds
pub neither : (a b : Bool) → (a || b) ≡ false → (a ≡ false) × (b ≡ false)
neither true b e = absurd (cc)
neither false b e = (refl, e)

free-ungiven : (built : Bool) (lease : Option Lease) → is_some lease ≡ false → (not built && is_none lease) ≡ not built
free-ungiven true None e = refl
free-ungiven false None e = refl
free-ungiven built (Some lease) e = absurd (cc)

-- the first of decks that is behind is found, where none is given to anybody
pub found : (decks : List DeskDeck) → list_any is_behind decks ≡ true → list_any is_given decks ≡ false → (deck : DeskDeck) × (find is_free decks ≡ Some deck)
found [] behind none = absurd (cc)
found (deck ∷ decks) behind none =
    let both = neither (is_given deck) (list_any is_given decks) none in
    let same : is_free deck ≡ is_behind deck = free-ungiven deck.built deck.lease both.0 in
    by (is_behind deck) refl same (λ behind. found decks behind both.1)
  where
    by : (b : Bool) → is_behind deck ≡ b → is_free deck ≡ is_behind deck → (list_any is_behind decks ≡ true → (one : DeskDeck) × (find is_free decks ≡ Some one)) →
        (one : DeskDeck) × (find is_free (deck ∷ decks) ≡ Some one)
    by true here same later = (deck, cond-true (is_free deck) (Some deck) (find is_free decks) (same ∙ here))
    by false here same later =
        let rest = later (ap (λ b. b || list_any is_behind decks) (sym here) ∙ behind) in
        (rest.0, cond-false (is_free deck) (Some deck) (find is_free decks) (same ∙ here) ∙ rest.1)

-- numbers may be used up
deck-unless : (desk : Desk) (spent : Bool) (accepted : Answer) → hands_a_deck accepted.reply ≡ true → hands_a_deck (unless (when spent VersionsSpent) desk accepted).reply ≡ true
deck-unless desk true accepted h = refl
deck-unless desk false accepted h = h

link-unless : (desk : Desk) (spent : Bool) (accepted : Answer) → hands_a_link accepted.reply ≡ true → hands_a_link (unless (when spent VersionsSpent) desk accepted).reply ≡ true
link-unless desk true accepted h = refl
link-unless desk false accepted h = h

abbrev HandsDeck : Answer → Type 0
HandsDeck answer = hands_a_deck answer.reply ≡ true

abbrev HandsLink : Answer → Type 0
HandsLink answer = hands_a_link answer.reply ≡ true

deck-claimed : (desk : Desk) → has_work desk ≡ true → has_leases desk ≡ false → HandsDeck (claim desk)
deck-claimed desk behind none =
    let one = found desk.decks behind (neither (list_any is_given desk.decks) (is_some desk.link) none).0 in
    cond_both (has_work desk) (claim_deck desk (find is_free desk.decks)) (claim_link desk) HandsDeck
    (λ _. subst (λ (d : Option DeskDeck). HandsDeck (claim_deck desk d)) (sym one.1) (deck-unless desk _ (hand_out one.0 desk) refl))
    (λ e. absurd (let other : true ≡ false = sym behind ∙ e in cc))

pub not-leased : (version : ℕ) (link : Option Lease) → is_some link ≡ false → is_leased_at version link ≡ false
not-leased version None e = refl
not-leased version (Some lease) e = absurd (cc)

link-claimed : (desk : Desk) → has_work desk ≡ false → has_leases desk ≡ false → HandsLink (claim desk)
link-claimed desk built none =
    let free = not-leased desk.version desk.link (neither (list_any is_given desk.decks) (is_some desk.link) none).1 in
    cond_both (has_work desk) (claim_deck desk (find is_free desk.decks)) (claim_link desk) HandsLink (λ e. absurd (let other : true ≡ false = sym e ∙ built in cc))
    (λ _. cond_both (is_published desk.version desk.publication) _ _ HandsLink (λ _. refl)
    (λ _. cond_both (is_leased_at desk.version desk.link) _ _ HandsLink (λ e. absurd (let other : true ≡ false = sym e ∙ free in cc))
    (λ _. link-unless desk _ (hand_out_link desk) refl)))

-- where a deck is behind, a deck job
pub deck_is_handed : (desk next : Desk) (reply : Reply) → Steps desk (Do Claim) reply next → has_leases desk ≡ false → has_work desk ≡ true → hands_a_deck reply ≡ true
deck_is_handed desk next reply (inl given) none behind = ap hands_a_deck given.0 ∙ deck-claimed desk behind none
deck_is_handed desk next reply (inr starved) none behind = ap hands_a_deck starved.1

-- where none is, the link job or Idle
pub link_is_handed : (desk next : Desk) (reply : Reply) → Steps desk (Do Claim) reply next → has_leases desk ≡ false → has_work desk ≡ false → hands_a_link reply ≡ true
link_is_handed desk next reply (inl given) none built = ap hands_a_link given.0 ∙ link-claimed desk built none
link_is_handed desk next reply (inr starved) none built = ap hands_a_link starved.1
