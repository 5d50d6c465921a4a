-- What is kept of a deck is what its cards make.
use Rattle.std.proofs.Common.{◌≡◌, ◌∙◌, ◌+◌, ◌≤◌, All, List, length, refl, sym, ap, arith, subst}
use Rattle.cards.specs.Joins.Spans.{IsSpan}
use Rattle.definitions.specs.{DeckKinds.{up_to_end, kind_of_statements}, Statements.Statement}
use Rattle.statement_coder.specs.Meters.{RisesBy}
use Rattle.deck_assembler.{specs.Joins.Formers.known_in, specs.Joins.OldDecks.StandsInFront, specs.Joins.Tails.{HasTailIfAny, HasTailWithin}, specs.Joins.Takings.CountsMaking, specs.Stays.RisesAnew, proofs.DeckLaws.{all-statements, all-numbered, all-behind, deck-made, counts_of}, proofs.FrontLaws.{front-in, stands-still}}
use Rattle.deck_assembler.specs.declared.old_deck.Stage.TheVariants as stages
use Rattle.deck_assembler.proofs.sized_deck.made.Goals.{After-take_up_to_end}
use Rattle.deck_assembler.proofs.sized_deck.made.Goals as goal

pub take_up_to_end-requires-clause-numbered : goal.take_up_to_end-requires-clause-numbered
take_up_to_end-requires-clause-numbered c = all-numbered c.args.cards.now c.args.spans.now c.requires.statements

pub card_counts-requires : goal.card_counts-requires
card_counts-requires c =
    let spans = c.args.spans.now in
    let cards = length c.args.cards.now in
    (cards, subst (All (IsSpan cards)) (sym c.split_at.ensures.back) (all-behind cards c.in_ok-taken.taken.count spans c.requires.spans))

pub returns-clause-made : goal.returns-clause-made
returns-clause-made c =
    let cards = c.args.cards.now in
    let spans = c.args.spans.now in
    let taken = c.in_ok-taken.ensures.taken in
    let all = all-statements cards spans c.requires.statements in
    let known = ap up_to_end (sym all) ∙ taken.ended.front in
    let kind = c.requires.kind ∙ ap (λ (l : List Statement). kind_of_statements (up_to_end l)) (sym all) in
    record {
      deck_is = deck-made cards spans c.in_ok-taken.taken.count c.args.kind c.take_up_to_end.new.self c.in_ok-behind.behind.items
          c.requires.statements c.requires.spans kind taken.ended taken.taken (c.in_ok-behind.ensures ∙ ap counts_of c.split_at.ensures.back);
      has_tail = λ of kept. subst (HasTailIfAny c.args.kind of cards c.in_ok-taken.taken.tail) (sym known) (taken.has_tail of kept);
      within = λ of front limit kept stands few more will. subst (λ (l : List Statement). HasTailWithin c.args.kind of cards c.in_ok-taken.taken.tail l limit) (sym known)
          (taken.within of front limit kept (subst (λ (l : List Statement). StandsInFront of (up_to_end l) front c.args.old_deck) (sym all) stands) (record { all = all; few = few; more = more }) will);
    }

pub returns-in_err-sizer-clause-counts : goal.returns-in_err-sizer-clause-counts
returns-in_err-sizer-clause-counts c = record {
  sized = omega arith;
  front = λ of front kept stands. stands-still of _ front c.args.old_deck _ stands;
  due = λ of front limit kept stands few more will. omega (arith, few);
  rises = omega arith;
  coded = refl;
}

-- what is counted once the statements are tried
counted : (c : After-take_up_to_end) → CountsMaking c.args.kind c.args.cards.now c.args.old_deck c.args.meter.now c.take_up_to_end.new.meter
counted c =
    let cards = c.args.cards.now in
    let counts = c.take_up_to_end.ensures.counts in
    let all = all-statements cards c.args.spans.now c.requires.statements in
    record {
      sized = subst (λ (l : List Statement). c.take_up_to_end.new.meter.sized ≤ c.args.meter.now.sized + length (up_to_end l)) all counts.sized;
      front = λ of front kept stands. front-in of cards c.args.spans.now front c.args.old_deck _ _ all (counts.front of front kept) stands;
      due = λ of front limit kept stands few more will.
          counts.due of front limit kept (subst (λ (l : List Statement). StandsInFront of (up_to_end l) front c.args.old_deck) (sym all) stands) (record { all = all; few = few; more = more }) will;
      rises = counts.rises;
      coded = counts.coded;
    }

pub returns-in_err-taken-clause-counts : goal.returns-in_err-taken-clause-counts
returns-in_err-taken-clause-counts c = counted (goal.at.returns-in_err-taken-clause-counts c).After-take_up_to_end

pub returns-in_err-behind-clause-counts : goal.returns-in_err-behind-clause-counts
returns-in_err-behind-clause-counts c = counted (goal.at.returns-in_err-behind-clause-counts c).After-take_up_to_end

pub returns-clause-counts : goal.returns-clause-counts
returns-clause-counts c = counted (goal.at.returns-clause-counts c).After-take_up_to_end

pub returns-clause-counted : goal.returns-clause-counted
returns-clause-counted c =
    let all = all-statements c.args.cards.now c.args.spans.now c.requires.statements in
    let known = ap up_to_end (sym all) ∙ c.in_ok-taken.ensures.taken.ended.front in
    let counted = c.in_ok-taken.ensures.counted in
    record {
      anew = λ of kept. subst (λ (l : List Statement). RisesAnew c.args.kind (known_in of) l c.args.meter.now.sized c.take_up_to_end.new.meter.sized) (sym known) (counted.anew of kept);
      all = subst (λ (l : List Statement). c.args.old_deck.stage ≡ stages.Over → RisesBy (length (up_to_end l)) c.args.meter.now.sized c.take_up_to_end.new.meter.sized) all counted.all;
    }
