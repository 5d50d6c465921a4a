use Rattle.std.proofs.Common.{◌∙◌, ap, sym, ℕ}
use Rattle.cards.{specs.Counts.fault_from, proofs.FaultLaws.first-fault}
use Rattle.cards.proofs.faults.first_fault.Goals as goal

pub returns : goal.returns
returns c = λ cards count. c.fault_from.ensures ∙ ap (λ (n : ℕ). fault_from 1 n c.args.edits.now) (sym count) ∙ sym (first-fault c.args.edits.now cards)
