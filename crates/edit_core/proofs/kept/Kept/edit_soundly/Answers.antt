use Rattle.std.proofs.Common.{◌∙◌, ap, arith, subst, sym, rules}
use Rattle.cards.specs.Edits.{edited_by}
use Rattle.edit_core.{specs.Edited.{CountsAtOnce, CountsWithinDue, statement_count, RisesBehindFront, RisesToDue, RisesToDueCode}, specs.Records.Record, proofs.DueLaws.{due-code-none, due-code-some, due-none, due-some}, proofs.EditLaws.{anew-none, bound-some, front-still, none-made, rebound-none}}
use Rattle.edit_core.proofs.kept.Kept.edit_soundly.Goals.{After-remade}
use Rattle.edit_core.proofs.kept.Kept.edit_soundly.Goals as goal

pub returns-then-is_empty-clause-ends : goal.returns-then-is_empty-clause-ends
returns-then-is_empty-clause-ends c = record {
  refused = λ fault there. cc;
  accepted = λ _. tt;
  made = none-made c.args.edits.now c.args.self.now (sym c.is_empty.ensures ∙ c.if-is_empty.true) c.is_whole.ensures;
  lost = λ failed. cc;
}

pub returns-then-is_empty-clause-counts : goal.returns-then-is_empty-clause-counts
returns-then-is_empty-clause-counts c = record {
  sized = first_of (search rules, cc);
  sized_front = front-still c.args.edits.now c.args.self.now.cards c.args.meter.now.sized;
  sized_rises = first_of (search rules, cc);
  coded = first_of (search rules, cc);
  coded_rises = first_of (search rules, cc);
}

pub returns-then-is_empty-clause-anew : goal.returns-then-is_empty-clause-anew
returns-then-is_empty-clause-anew c = record {
  sized = anew-none c.args.edits.now c.args.self.now.cards c.args.meter.now.sized (sym c.is_empty.ensures ∙ c.if-is_empty.true);
  coded = rebound-none c.args.edits.now c.args.self.now.cards c.args.meter.now.coded (sym c.is_empty.ensures ∙ c.if-is_empty.true);
}

pub returns-then-is_empty-clause-due : goal.returns-then-is_empty-clause-due
returns-then-is_empty-clause-due c = record {
  sized = due-none c.args.edits.now c.args.self.now.cards c.args.meter.now.sized (sym c.is_empty.ensures ∙ c.if-is_empty.true);
  coded = due-code-none c.args.edits.now c.args.self.now.cards c.args.meter.now.coded (sym c.is_empty.ensures ∙ c.if-is_empty.true);
}

counted : (c : After-remade) → CountsAtOnce c.args.edits.now c.args.self.now.cards c.args.meter.now c.remade.new.meter
counted c =
    let bound = bound-some c.args.edits.now c.args.self.now.cards (sym c.is_empty.ensures ∙ c.if-is_empty.false) in
    let same = ap (λ (r : Record). statement_count (edited_by c.args.edits.now r.cards)) c.self.view_is in
    let few = c.remade.ensures.few in
    record {
      sized = omega (arith, bound, same, few.sized_few);
      sized_front = subst (λ (r : Record). RisesBehindFront c.args.edits.now r.cards c.args.meter.now.sized c.remade.new.meter.sized) c.self.view_is c.remade.ensures.sized_front;
      sized_rises = few.sized_rises;
      coded = omega (arith, bound, same, few.coded_few);
      coded_rises = few.coded_rises;
    }

pub returns-in-Ok-clause-counts : goal.returns-in-Ok-clause-counts
returns-in-Ok-clause-counts c = counted (goal.at.returns-in-Ok-clause-counts c).After-remade

pub returns-in-Err-clause-counts : goal.returns-in-Err-clause-counts
returns-in-Err-clause-counts c = counted (goal.at.returns-in-Err-clause-counts c).After-remade

due : (c : After-remade) → CountsWithinDue c.args.edits.now c.args.self.now.cards c.args.meter.now c.remade.new.meter
due c = record {
  sized = due-some c.args.edits.now c.args.self.now.cards _ _ (sym c.is_empty.ensures ∙ c.if-is_empty.false)
      (subst (λ (r : Record). RisesToDue c.args.edits.now r.cards c.args.meter.now.sized c.remade.new.meter.sized) c.self.view_is c.remade.ensures.due.sized);
  coded = due-code-some c.args.edits.now c.args.self.now.cards _ _ (sym c.is_empty.ensures ∙ c.if-is_empty.false)
      (subst (λ (r : Record). RisesToDueCode c.args.edits.now r.cards c.args.meter.now.coded c.remade.new.meter.coded) c.self.view_is c.remade.ensures.due.coded);
}

pub returns-in-Ok-clause-due : goal.returns-in-Ok-clause-due
returns-in-Ok-clause-due c = due (goal.at.returns-in-Ok-clause-due c).After-remade

pub returns-in-Err-clause-due : goal.returns-in-Err-clause-due
returns-in-Err-clause-due c = due (goal.at.returns-in-Err-clause-due c).After-remade
