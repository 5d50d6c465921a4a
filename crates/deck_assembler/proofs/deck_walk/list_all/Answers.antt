use Rattle.std.proofs.Common.{◌≡◌, ◌∙◌, ◌+◌, ◌<◌, ◌∷◌, length, drop, get_or, subst, add-one, drop-cons}
use Rattle.deck_assembler.{specs.Joins.DeckWalks.IsListing, proofs.DeckWalkLaws.listing-step, proofs.WalkLaws.stood-step}
use Rattle.deck_assembler.proofs.deck_walk.list_all.Goals as goal

pub loop-count-preserved : goal.loop-count-preserved
loop-count-preserved c =
    λ whole is listing.
    let i = c.loop-count.count-index in
    let counts = c.args.counts.now in
    let count = get_or counts i 0 in
    let there = c.loop-count.invariant whole is listing in
    let below : i < length counts = c.loop-count-test.true in
    let split : drop i counts ≡ count ∷ drop (i + 1) counts = rw (add-one, drop-cons counts i 0 below) in
    listing-step whole (drop (i + 1) counts) count c.loop-count.lines c.list.new.self (subst (λ left. IsListing whole left c.loop-count.lines) split there)
    (λ shown given next lined. c.in_ok-list.ensures.lined whole shown given is next lined)
    (λ given next. c.in_ok-list.ensures.stood ∙ stood-step c.loop-count.lines.stood count whole.cards next.some next.within is.few)
