-- What beginning counts, and what the edits count.
use Rattle.std.proofs.Common.{◌≡◌, inr, None, Result, Ok, Err, OnOk, ap, arith, rules}
use Rattle.deck_workers.{specs.Joins.Language.{edits_fault, statements_sum}, specs.Jobs.{start_cards, start_deck}, proofs.Counts.counts-edits}
use Rattle.deck_workers.proofs.assembling.assembled.Goals as goal

-- what holds in any case
always : {T E P : Type 0} (result : Result T E) → P → OnOk result P
always (Ok value) holds = holds
always (Err error) holds = tt

pub returns-in-Ok-clause-all : goal.returns-in-Ok-clause-all
returns-in-Ok-clause-all c =
    let begins = c.begun.ensures.meter in
    let sized = c.edit_in_order.ensures.few.sized_few in
    let sized_rises = c.edit_in_order.ensures.few.sized_rises in
    let coded = c.edit_in_order.ensures.few.coded_few in
    let coded_rises = c.edit_in_order.ensures.few.coded_rises in
    let all = c.in_ok-kept.ensures.all in
    let same = ap (statements_sum c.args.edits.now) c.in_ok-kept.ensures.deck.1 in
    always c.finished.result (record {
      few = record {
        sized_rises = omega (arith, begins.sized_rises, sized_rises);
        sized_few = omega (arith, begins.sized_few, sized, same);
        coded_rises = omega (arith, begins.coded_rises, coded_rises);
        coded_few = omega (arith, begins.coded_few, coded, same);
      };
      sized_all = λ room. let first = all.0 (omega (arith, room)) in omega (arith, first, sized_rises);
      coded_all = λ room. let first = all.1 (omega (arith, room)) in omega (arith, first, coded_rises);
    })

pub returns-in-Err-clause-due : goal.returns-in-Err-clause-due
returns-in-Err-clause-due c =
    let none : edits_fault c.args.edits.now (start_cards c.args.start) ≡ None = first_of (search rules, cc) in
    let kept = c.in_ok-kept.kept in
    let counted = c.edit_in_order.ensures in
    inr (
      c.begun.new.meter,
      c.begun.ensures.meter,
      counts-edits c.args.edits.now kept.cards (start_cards c.args.start) (start_deck c.args.name c.args.start).cards kept.is_spent c.begun.new.meter c.edit_in_order.new.meter c.in_ok-kept.ensures.cards c.in_ok-kept.ensures.deck.1
          c.in_ok-kept.ensures.unspent none counted.counts,
    )

pub returns-in-Ok-clause-due : goal.returns-in-Ok-clause-due
returns-in-Ok-clause-due c =
    let none : edits_fault c.args.edits.now (start_cards c.args.start) ≡ None = first_of (search rules, cc) in
    let kept = c.in_ok-kept.kept in
    let counted = c.edit_in_order.ensures in
    inr (
      c.begun.new.meter,
      c.begun.ensures.meter,
      counts-edits c.args.edits.now kept.cards (start_cards c.args.start) (start_deck c.args.name c.args.start).cards kept.is_spent c.begun.new.meter c.edit_in_order.new.meter c.in_ok-kept.ensures.cards c.in_ok-kept.ensures.deck.1
          c.in_ok-kept.ensures.unspent none counted.counts,
    )
