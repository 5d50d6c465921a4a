-- The statements are sized one behind the other, up to the first END.
use Rattle.std.proofs.Common.{◌≡◌, ◌+◌, ◌≤◌, suc, List, get_or, length, sym, ap, ◌∙◌, subst, arith}
use Rattle.cards.specs.{Joins.Spans.statement_at, declared.statement_list.Span.Span}
use Rattle.definitions.specs.{DeckKinds.{has_end, up_to_end}, Statements.Statement}
use Rattle.deck_assembler.{specs.Joins.FirstStatements.{first_statements, IsEnding}, specs.Joins.Formers.known_in, specs.Joins.OldDecks.{IsKeptOn, IsOnSpan}, specs.Joins.Sizers.IsSizer, specs.Joins.Meetings.WillAgree, specs.Joins.Takings.CountsTaking, specs.Stays.RisesAnew, proofs.DueLaws.{due-bound, next-known}, proofs.EndLaws.{length-first, first-step, next-at, few-sized, ending-here, open-step, ending-none, ending-length, few-all}, proofs.FrontLaws.{front-bound, front-end, front-more, goes-at, stands-few}, proofs.MeetLaws.{ends-in-tail, tail-taken, tail-within}, proofs.StayLaws.stay-more}
use Rattle.deck_assembler.proofs.sizer.Sizer.take_up_to_end.Goals.{After-take_next}
use Rattle.deck_assembler.proofs.sizer.Sizer.take_up_to_end.Goals as goal

-- what stands where there is no span
abbrev other : Span
other = record { start = 0; count = 0 }

-- what is counted with one more statement
counted : (c : After-take_next) → CountsTaking c.args.kind c.args.cards.now c.args.spans.now c.args.old_deck c.args.meter.now c.take_next.new.meter
counted c =
    let cards = c.args.cards.now in
    let spans = c.args.spans.now in
    let k = c.loop-k.k in
    let so_far = c.loop-k.invariant in
    let first = first_statements cards spans k in
    let next = next-at cards spans k other c.loop-k-test.true c.requires.spans c.requires.numbered in
    let few = few-sized cards spans k other c.loop-k-test.true so_far.open' in
    let before = so_far.sized in
    let rose = so_far.rises in
    let counts = c.take_next.ensures.counts in
    let more = counts.sized in
    let rises = counts.rises in
    record {
      sized = omega (arith, few, before, more);
      front = λ of front kept stands.
          let taken = so_far.front of front kept stands in
          let on : IsOnSpan c.args.kind of cards first (get_or spans k other) c.loop-k.self c.loop-k.kept = record { sizer_is = so_far.taken; next = next; kept_on = so_far.kept of kept } in
          front-bound k _ front c.args.old_deck c.loop-k.kept _ _ _ taken more
          (λ less. counts.kept of first on (goes-at of cards spans k other front c.args.old_deck c.loop-k.kept _ _ c.loop-k-test.true so_far.open' stands taken less))
          few (stands-few of _ front c.args.old_deck stands);
      due = λ of front limit kept stands bounded will.
          let taken = so_far.front of front kept stands in
          let due = so_far.due of front limit kept stands bounded will in
          let on : IsOnSpan c.args.kind of cards first (get_or spans k other) c.loop-k.self c.loop-k.kept = record { sizer_is = so_far.taken; next = next; kept_on = so_far.kept of kept } in
          let known = next-known cards spans k other limit front c.loop-k-test.true so_far.open' bounded in
          due-bound k limit (length first) front c.args.old_deck c.loop-k.kept _ _ _ (length-first cards spans k (omega (arith, c.loop-k-test.true))) taken due.1 more
          (λ less. counts.kept of first on (goes-at of cards spans k other front c.args.old_deck c.loop-k.kept _ _ c.loop-k-test.true so_far.open' stands taken less))
          (counts.in_time of first limit on known due.0);
      rises = omega (arith, rose, rises);
      coded = counts.coded ∙ so_far.coded;
    }

pub returns-in_err-take_next-clause-counts : goal.returns-in_err-take_next-clause-counts
returns-in_err-take_next-clause-counts c = counted (goal.at.returns-in_err-take_next-clause-counts c).After-take_next

pub take_next-requires-clause-ready : goal.take_next-requires-clause-ready
take_next-requires-clause-ready c =
    let next = next-at c.args.cards.now c.args.spans.now c.loop-k.k other c.loop-k-test.true c.requires.spans c.requires.numbered in
    let old = c.requires.old_deck in
    (old.0, first_statements c.args.cards.now c.args.spans.now c.loop-k.k, record { sizer_is = c.loop-k.invariant.taken; next = next; kept_on = c.loop-k.invariant.kept old.0 old.1 })

-- the statements are taken, and the tail begins in time
pub returns-then-branch-clause-taken : goal.returns-then-branch-clause-taken
returns-then-branch-clause-taken c =
    let cards = c.args.cards.now in
    let spans = c.args.spans.now in
    let k = c.loop-k.k in
    let so_far = c.loop-k.invariant in
    let first = first_statements cards spans k in
    let next = next-at cards spans k other c.loop-k-test.true c.requires.spans c.requires.numbered in
    let one : suc k ≡ k + 1 = omega arith in
    let step = sym (first-step cards spans k other c.loop-k-test.true) ∙ ap (first_statements cards spans) one in
    let old = c.requires.old_deck in
    let ended = subst (IsEnding cards spans) one (ending-here cards spans k other c.loop-k-test.true so_far.open' (sym c.in_ok-take_next.ensures.end ∙ c.if-branch.true)) in
    record {
      ended = ended;
      taken = subst (λ (statements : List Statement). IsSizer c.args.kind cards statements c.take_next.new.self) step
          (c.in_ok-take_next.ensures.taken old.0 first (record { sizer_is = so_far.taken; next = next; kept_on = so_far.kept old.0 old.1 })).taken;
      has_tail = λ of kept.
          let on : IsOnSpan c.args.kind of cards first (get_or spans k other) c.loop-k.self c.loop-k.kept = record { sizer_is = so_far.taken; next = next; kept_on = so_far.kept of kept } in
          let there = subst (λ (l : List Statement). IsKeptOn c.args.kind of cards l c.take_next.new.old_deck) step (c.in_ok-take_next.ensures.taken of first on).kept_on in
          tail-taken c.args.kind of cards (first_statements cards spans (k + 1)) c.take_next.new.old_deck c.tail.result there c.tail.ensures.tail c.tail.ensures.none;
      within = λ of front limit kept stands bounded will.
          let on : IsOnSpan c.args.kind of cards first (get_or spans k other) c.loop-k.self c.loop-k.kept = record { sizer_is = so_far.taken; next = next; kept_on = so_far.kept of kept } in
          let taken = c.in_ok-take_next.ensures.taken of first on in
          let known = next-known cards spans k other limit front c.loop-k-test.true so_far.open' bounded in
          let now = subst (λ (l : List Statement). WillAgree c.args.kind of cards limit l c.take_next.new.old_deck) step (taken.due limit known (so_far.due of front limit kept stands bounded will).0) in
          let there = subst (λ (l : List Statement). IsKeptOn c.args.kind of cards l c.take_next.new.old_deck) step taken.kept_on in
          let all = sym ended.front ∙ ap up_to_end bounded.all in
          let ends = ends-in-tail c.args.kind of cards limit (first_statements cards spans (k + 1)) c.take_next.new.old_deck c.take_next.new.old_deck.stage all bounded.more now in
          tail-within c.args.kind of cards (first_statements cards spans (k + 1)) c.take_next.new.old_deck c.tail.result limit there ends.0 (c.tail.ensures.tail ends.0) ends.1;
    }

pub returns-then-branch-clause-counts : goal.returns-then-branch-clause-counts
returns-then-branch-clause-counts c = counted (goal.at.returns-then-branch-clause-counts c).After-take_next

-- each statement that is not settled as one of the old deck is counted
pub returns-then-branch-clause-counted : goal.returns-then-branch-clause-counted
returns-then-branch-clause-counted c =
    let cards = c.args.cards.now in
    let spans = c.args.spans.now in
    let k = c.loop-k.k in
    let so_far = c.loop-k.invariant in
    let first = first_statements cards spans k in
    let next = next-at cards spans k other c.loop-k-test.true c.requires.spans c.requires.numbered in
    let one : suc k ≡ k + 1 = omega arith in
    let step = sym (first-step cards spans k other c.loop-k-test.true) ∙ ap (first_statements cards spans) one in
    let ended = subst (IsEnding cards spans) one (ending-here cards spans k other c.loop-k-test.true so_far.open' (sym c.in_ok-take_next.ensures.end ∙ c.if-branch.true)) in
    let counted = ending-length cards spans (k + 1) ended in
    record {
      anew = λ of kept. subst (λ (l : List Statement). RisesAnew c.args.kind (known_in of) l c.args.meter.now.sized c.take_next.new.meter.sized) step
          (stay-more c.args.kind (known_in of) first (statement_at cards (get_or spans k other)) _ _ _ so_far.rises
          (subst (λ n. c.loop-k.meter.sized ≤ c.args.meter.now.sized + n) (sym (length-first cards spans k (omega (arith, c.loop-k-test.true)))) so_far.sized)
          (so_far.anew of kept)
          (c.in_ok-take_next.ensures.counted.anew of first (record { sizer_is = so_far.taken; next = next; kept_on = so_far.kept of kept })));
      all = λ none room.
          let all = so_far.all none (omega (arith, room, counted)) in
          let more = c.in_ok-take_next.ensures.counted.all (so_far.over none) in
          omega (arith, room, counted, all, more);
    }

pub loop-k-preserved : goal.loop-k-preserved
loop-k-preserved c =
    let cards = c.args.cards.now in
    let spans = c.args.spans.now in
    let one : suc c.loop-k.k ≡ c.loop-k.k + 1 = omega arith in
    let step = sym (first-step cards spans c.loop-k.k other c.loop-k-test.true) ∙ ap (first_statements cards spans) one in
    let so_far = c.loop-k.invariant.sized in
    let more = c.in_ok-take_next.ensures.counts.sized in
    let next = next-at cards spans c.loop-k.k other c.loop-k-test.true c.requires.spans c.requires.numbered in
    let old = c.requires.old_deck in
    let first = first_statements cards spans c.loop-k.k in
    let here = c.in_ok-take_next.ensures.taken old.0 first (record { sizer_is = c.loop-k.invariant.taken; next = next; kept_on = c.loop-k.invariant.kept old.0 old.1 }) in
    record {
      taken = subst (λ (statements : List Statement). IsSizer c.args.kind cards statements c.take_next.new.self) step here.taken;
      kept = λ of kept. subst (λ (statements : List Statement). IsKeptOn c.args.kind of cards statements c.take_next.new.old_deck) step
          (c.in_ok-take_next.ensures.taken of first (record { sizer_is = c.loop-k.invariant.taken; next = next; kept_on = c.loop-k.invariant.kept of kept })).kept_on;
      open' = ap (λ n. has_end (first_statements cards spans n)) (sym one)
          ∙ open-step cards spans c.loop-k.k other c.loop-k-test.true c.loop-k.invariant.open' (sym c.in_ok-take_next.ensures.end ∙ c.if-branch.false);
      sized = omega (arith, so_far, more);
      rises = let rises = c.loop-k.invariant.rises in let here = c.in_ok-take_next.ensures.counts.rises in omega (arith, rises, here);
      front = λ of front kept stands.
          let taken = c.loop-k.invariant.front of front kept stands in
          front-more c.loop-k.k front c.args.old_deck c.loop-k.kept c.take_next.new.old_deck _ _ _ taken more
          (λ less.
          let goes = goes-at of cards spans c.loop-k.k other front c.args.old_deck c.loop-k.kept _ _ c.loop-k-test.true c.loop-k.invariant.open' stands taken less in
          let both = (c.in_ok-take_next.ensures.taken of first (record { sizer_is = c.loop-k.invariant.taken; next = next; kept_on = c.loop-k.invariant.kept of kept })).front goes in
          (both.0, (both.1, c.in_ok-take_next.ensures.counts.kept of first (record { sizer_is = c.loop-k.invariant.taken; next = next; kept_on = c.loop-k.invariant.kept of kept }) goes)));
      due = λ of front limit kept stands bounded will.
          let taken = c.loop-k.invariant.front of front kept stands in
          let due = c.loop-k.invariant.due of front limit kept stands bounded will in
          let on : IsOnSpan c.args.kind of cards first (get_or spans c.loop-k.k other) c.loop-k.self c.loop-k.kept = record { sizer_is = c.loop-k.invariant.taken; next = next; kept_on = c.loop-k.invariant.kept of kept } in
          let known = next-known cards spans c.loop-k.k other limit front c.loop-k-test.true c.loop-k.invariant.open' bounded in (
            subst (λ (statements : List Statement). WillAgree c.args.kind of cards limit statements c.take_next.new.old_deck) step ((c.in_ok-take_next.ensures.taken of first on).due limit known due.0),
            due-bound c.loop-k.k limit (length first) front c.args.old_deck c.loop-k.kept _ _ _ (length-first cards spans c.loop-k.k (omega (arith, c.loop-k-test.true))) taken due.1 more
                (λ less. c.in_ok-take_next.ensures.counts.kept of first on (goes-at of cards spans c.loop-k.k other front c.args.old_deck c.loop-k.kept _ _ c.loop-k-test.true c.loop-k.invariant.open' stands taken less))
                (c.in_ok-take_next.ensures.counts.in_time of first limit on known due.0),
          );
      over = λ none. c.take_next.ensures.over (c.loop-k.invariant.over none);
      all = λ none room.
          let all = c.loop-k.invariant.all none (omega (arith, room)) in
          let here = c.in_ok-take_next.ensures.counted.all (c.loop-k.invariant.over none) in
          omega (arith, room, all, here);
      anew = λ of kept. subst (λ (l : List Statement). RisesAnew c.args.kind (known_in of) l c.args.meter.now.sized c.take_next.new.meter.sized) step
          (stay-more c.args.kind (known_in of) first (statement_at cards (get_or spans c.loop-k.k other)) _ _ _ c.loop-k.invariant.rises
          (subst (λ n. c.loop-k.meter.sized ≤ c.args.meter.now.sized + n) (sym (length-first cards spans c.loop-k.k (omega (arith, c.loop-k-test.true)))) so_far)
          (c.loop-k.invariant.anew of kept)
          (c.in_ok-take_next.ensures.counted.anew of first (record { sizer_is = c.loop-k.invariant.taken; next = next; kept_on = c.loop-k.invariant.kept of kept })));
      coded = c.in_ok-take_next.ensures.counts.coded ∙ c.loop-k.invariant.coded;
    }

pub returns-clause-taken : goal.returns-clause-taken
returns-clause-taken c =
    let cards = c.args.cards.now in
    let spans = c.args.spans.now in
    let so_far = c.loop-k.invariant in
    let n : c.loop-k.k ≡ length spans = omega (arith, c.loop-k.auto.k-end, c.loop-k-test.false) in
    let ended = subst (IsEnding cards spans) n (ending-none cards spans c.loop-k.k c.loop-k-test.false c.loop-k.auto.k-end so_far.open') in
    record {
      ended = ended;
      taken = subst (λ k. IsSizer c.args.kind cards (first_statements cards spans k) c.loop-k.self) n so_far.taken;
      has_tail = λ of kept.
          tail-taken c.args.kind of cards (first_statements cards spans (length spans)) c.loop-k.kept c.tail-2.result
          (subst (λ k. IsKeptOn c.args.kind of cards (first_statements cards spans k) c.loop-k.kept) n (so_far.kept of kept)) c.tail-2.ensures.tail c.tail-2.ensures.none;
      within = λ of front limit kept stands bounded will.
          let now = subst (λ k. WillAgree c.args.kind of cards limit (first_statements cards spans k) c.loop-k.kept) n (so_far.due of front limit kept stands bounded will).0 in
          let there = subst (λ k. IsKeptOn c.args.kind of cards (first_statements cards spans k) c.loop-k.kept) n (so_far.kept of kept) in
          let all = sym ended.front ∙ ap up_to_end bounded.all in
          let ends = ends-in-tail c.args.kind of cards limit (first_statements cards spans (length spans)) c.loop-k.kept c.loop-k.kept.stage all bounded.more now in
          tail-within c.args.kind of cards (first_statements cards spans (length spans)) c.loop-k.kept c.tail-2.result limit there ends.0 (c.tail-2.ensures.tail ends.0) ends.1;
    }

pub returns-clause-counts : goal.returns-clause-counts
returns-clause-counts c =
    let cards = c.args.cards.now in
    let spans = c.args.spans.now in
    let so_far = c.loop-k.invariant in
    let n : c.loop-k.k ≡ length spans = omega (arith, c.loop-k.auto.k-end, c.loop-k-test.false) in
    let ended = subst (IsEnding cards spans) n (ending-none cards spans c.loop-k.k c.loop-k-test.false c.loop-k.auto.k-end so_far.open') in
    let all = ending-length cards spans (length spans) ended in
    let few = few-all cards spans c.loop-k.k n so_far.open' in
    let sized = so_far.sized in
    record {
      sized = omega (arith, few, sized);
      front = λ of front kept stands.
          front-end c.loop-k.k _ front c.args.old_deck c.loop-k.kept _ _ (so_far.front of front kept stands) (n ∙ sym all) (stands-few of _ front c.args.old_deck stands);
      due = λ of front limit kept stands bounded will. (so_far.due of front limit kept stands bounded will).1;
      rises = so_far.rises;
      coded = so_far.coded;
    }

pub returns-clause-counted : goal.returns-clause-counted
returns-clause-counted c =
    let cards = c.args.cards.now in
    let spans = c.args.spans.now in
    let so_far = c.loop-k.invariant in
    let n : c.loop-k.k ≡ length spans = omega (arith, c.loop-k.auto.k-end, c.loop-k-test.false) in
    let ended = subst (IsEnding cards spans) n (ending-none cards spans c.loop-k.k c.loop-k-test.false c.loop-k.auto.k-end so_far.open') in
    let counted = ending-length cards spans (length spans) ended in
    record {
      anew = λ of kept. subst (λ k. RisesAnew c.args.kind (known_in of) (first_statements cards spans k) c.args.meter.now.sized c.loop-k.meter.sized) n (so_far.anew of kept);
      all = λ none room. let all = so_far.all none (omega (arith, room, counted, n)) in omega (arith, counted, all, n);
    }
