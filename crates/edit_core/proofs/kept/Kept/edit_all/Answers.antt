-- Where an edit doesn't apply nothing is counted; else what is due for all is within the sum of what is due for each.
use Rattle.std.proofs.Common.{rules}
use Rattle.edit_core.{proofs.EditLaws.front-still, proofs.SumLaws.{sum-of-accepted, sum-of-accepted-code}}
use Rattle.edit_core.proofs.kept.Kept.edit_all.Goals as goal

pub returns-in-Some-clause-counts : goal.returns-in-Some-clause-counts
returns-in-Some-clause-counts c = record {
  sized = first_of (search rules, cc);
  sized_front = front-still c.args.edits.now c.args.self.now.cards c.args.meter.now.sized;
  sized_rises = first_of (search rules, cc);
  coded = first_of (search rules, cc);
  coded_rises = first_of (search rules, cc);
}

pub returns-in-None-clause-sums : goal.returns-in-None-clause-sums
returns-in-None-clause-sums c =
    let counts = c.edit_soundly.ensures.counts in
    let due = c.edit_soundly.ensures.due in
    λ none. record {
      sized = sum-of-accepted c.args.edits.now c.args.self.now.is_spent c.args.self.now.cards _ _ counts.sized_rises due.sized none;
      coded = sum-of-accepted-code c.args.edits.now c.args.self.now.is_spent c.args.self.now.cards _ _ counts.coded_rises due.coded none;
    }
