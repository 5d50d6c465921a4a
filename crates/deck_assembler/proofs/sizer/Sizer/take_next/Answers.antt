-- The next statement is one more, kept or sized, and the old deck goes on behind it.
use Rattle.std.{proofs.Common.{ℕ, inl, inr, true≢false, refl, sym, subst, arith}}
use Rattle.deck_assembler.{proofs.ResultLaws.{on_ok_any, on_ok_one}, specs.Joins.Meetings.{KeepsIf, WillAgreeAt}, specs.Joins.OldDecks.IsAtStage, specs.Joins.Sizers.{stood, ahead, IsNext}, specs.declared.old_deck.OldDeck.OldDeck, proofs.MeetLaws.goes-on, proofs.SizerSteps.sized-accepted}
use Rattle.cards.specs.Joins.Spans.{statement_at}
use Rattle.deck_assembler.proofs.sizer.Sizer.take_next.Goals as goal

pub stays-requires-clause-ready : goal.stays-requires-clause-ready
stays-requires-clause-ready c = let r = c.requires.ready in (c.args.kind, r.0, r.1, r.2)

pub keep_span-requires-clause-some : goal.keep_span-requires-clause-some
keep_span-requires-clause-some c =
    let first = subst (KeepsIf c.args.cards.now c.args.span c.args.self.now c.args.old_deck.now c.stays.new.self) c.if-branch.true c.in_ok-stays.ensures.stays in
    first.some

pub keep_span-requires-clause-accepted : goal.keep_span-requires-clause-accepted
keep_span-requires-clause-accepted c = λ sized rest e.
    let kind = c.args.kind in
    let cards = c.args.cards.now in
    let span = c.args.span in
    let r = c.requires.ready in
    let earlier = r.1 in
    let first = subst (KeepsIf cards span c.args.self.now c.args.old_deck.now c.stays.new.self) c.if-branch.true c.in_ok-stays.ensures.stays in
    sized-accepted kind cards earlier (statement_at cards span) (stood earlier) (ahead cards earlier) sized c.args.self.now r.2.sizer_is (first.that sized rest e kind r.0 earlier r.2).0

pub keep_span-requires-clause-operation : goal.keep_span-requires-clause-operation
keep_span-requires-clause-operation c = λ sized rest e.
    let r = c.requires.ready in
    let first = subst (KeepsIf c.args.cards.now c.args.span c.args.self.now c.args.old_deck.now c.stays.new.self) c.if-branch.true c.in_ok-stays.ensures.stays in
    sym (first.that sized rest e c.args.kind r.0 r.1 r.2).0.operation

pub returns-in_err-stays-clause-counts : goal.returns-in_err-stays-clause-counts
returns-in_err-stays-clause-counts c = record {
  kept = λ old earlier on goes. refl;
  in_time = λ old earlier limit on next will. inl refl;
  sized = omega (arith);
  rises = omega (arith);
  coded = refl;
}

pub returns-then-branch-clause-taken : goal.returns-then-branch-clause-taken
returns-then-branch-clause-taken c =
    let kind = c.args.kind in
    let cards = c.args.cards.now in
    let span = c.args.span in
    let here = c.stays.new.self in
    let next : OldDeck = record { kind = here.kind; ahead = here.ahead; statements = c.keep_span.new.left; pieces = here.pieces; before = here.before; behind = here.behind; stage = here.stage; state = here.state; symbols = here.symbols; missed = here.missed } in
    let first = subst (KeepsIf cards span c.args.self.now c.args.old_deck.now here) c.if-branch.true c.in_ok-stays.ensures.stays in
    on_ok_one c.keep_span.result _ _ (λ one old earlier on.
    let sized = one.0 in
    let that = first.that sized next.statements.items one.1 kind old earlier on in
    let goes = first.behind sized next one.1 refl (record { deck = record { kind = refl; before = refl; behind = refl }; ahead = refl; state = refl; symbols = refl; stage = refl }) in
    record {
      taken = one.2 earlier (subst (λ (n : ℕ). IsNext cards earlier n (statement_at cards span)) (sym that.1.0) on.next) on.sizer_is that.0;
      kept_on = goes.on kind old earlier on;
      front = λ still. let front = goes.front kind old earlier on still in (front.stage, front.before);
      due = λ limit known will. (goes.due kind old earlier limit on known will).will;
    }) c.keep_span.ensures.kept

pub returns-then-branch-clause-counts : goal.returns-then-branch-clause-counts
returns-then-branch-clause-counts c = record {
  kept = λ old earlier on goes. refl;
  in_time = λ old earlier limit on next will. inl refl;
  sized = omega (arith);
  rises = omega (arith);
  coded = refl;
}

-- what is kept is settled as one of the old deck, and all else is counted
pub returns-then-branch-clause-counted : goal.returns-then-branch-clause-counted
returns-then-branch-clause-counted c =
    let first = subst (KeepsIf c.args.cards.now c.args.span c.args.self.now c.args.old_deck.now c.stays.new.self) c.if-branch.true c.in_ok-stays.ensures.stays in
    on_ok_one c.keep_span.result _ _ (λ one. record {
      anew = λ old earlier on. inr (refl, (first.that one.0 c.keep_span.new.left.items one.1 c.args.kind old earlier on).1.1);
      all = λ over.
          let none = c.in_ok-stays.ensures.none over in
          let was = c.in_ok-stays.is in
          let some = c.if-branch.true in
          absurd (cc);
    }) c.keep_span.ensures.kept

pub returns-else-branch-clause-taken : goal.returns-else-branch-clause-taken
returns-else-branch-clause-taken c =
    let goes = subst (KeepsIf c.args.cards.now c.args.span c.args.self.now c.args.old_deck.now c.stays.new.self) c.if-branch.false c.in_ok-stays.ensures.stays in
    let kind = c.args.kind in
    on_ok_one c.take_span-else-branch.result _ _ (λ step old earlier on. record {
      taken = step earlier on.next on.sizer_is;
      kept_on = goes.on kind old earlier on;
      front = λ still. let front = goes.front kind old earlier on still in (front.stage, front.before);
      due = λ limit known will. (goes.due kind old earlier limit on known will).will;
    }) c.take_span-else-branch.ensures.taken

pub returns-else-branch-clause-counts : goal.returns-else-branch-clause-counts
returns-else-branch-clause-counts c =
    let goes = subst (KeepsIf c.args.cards.now c.args.span c.args.self.now c.args.old_deck.now c.stays.new.self) c.if-branch.false c.in_ok-stays.ensures.stays in
    let sized = c.take_span-else-branch.ensures.sized in
    record {
      kept = λ old earlier on still. absurd (true≢false (sym (goes.front c.args.kind old earlier on still).some));
      in_time = λ old earlier limit on known will. inr ((goes.due c.args.kind old earlier limit on known will).sized refl);
      sized = omega (arith, sized);
      rises = c.take_span-else-branch.ensures.rises;
      coded = c.take_span-else-branch.ensures.coded;
    }

pub returns-else-branch-clause-counted : goal.returns-else-branch-clause-counted
returns-else-branch-clause-counted c =
    on_ok_any c.take_span-else-branch.result (record { anew = λ old earlier on. inl c.take_span-else-branch.ensures.sized; all = λ over. c.take_span-else-branch.ensures.sized })

-- where the old deck is over it stays as it is
pub returns-in-Over-clause-taken : goal.returns-in-Over-clause-taken
returns-in-Over-clause-taken c =
    let kind = c.args.kind in
    let cards = c.args.cards.now in
    let deck = c.args.old_deck.now in
    on_ok_one c.take_span.result _ _ (λ step old earlier on. record {
      taken = step earlier on.next on.sizer_is;
      kept_on = goes-on kind old cards earlier _ c.args.span c.args.self.now deck deck on (record { kind = refl; before = refl; behind = refl })
          (subst (IsAtStage kind old cards _ deck) (sym c.in-Over.is) tt);
      front = λ goes.
          let front = goes.stands.stage in
          let over = c.in-Over.is in
          absurd (cc);
      due = λ limit next will. absurd (subst (WillAgreeAt kind old cards limit earlier deck) c.in-Over.is will);
    }) c.take_span.ensures.taken

pub returns-in-Over-clause-counts : goal.returns-in-Over-clause-counts
returns-in-Over-clause-counts c =
    let sized = c.take_span.ensures.sized in
    record {
      kept = λ old earlier on goes.
          let front = goes.stands.stage in
          let over = c.in-Over.is in
          absurd (cc);
      in_time = λ old earlier limit on next will. absurd (subst (WillAgreeAt c.args.kind old c.args.cards.now limit earlier c.args.old_deck.now) c.in-Over.is will);
      sized = omega (arith, sized);
      rises = c.take_span.ensures.rises;
      coded = c.take_span.ensures.coded;
    }

pub returns-in-Over-clause-counted : goal.returns-in-Over-clause-counted
returns-in-Over-clause-counted c =
    on_ok_any c.take_span.result (record { anew = λ old earlier on. inl c.take_span.ensures.sized; all = λ over. c.take_span.ensures.sized })
