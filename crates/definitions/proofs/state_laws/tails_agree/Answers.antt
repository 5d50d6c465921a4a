use Rattle.std.proofs.Common.{ap, sym, ◌∙◌}
use Rattle.definitions.{specs.Settling.settled_all, specs.Laws.States.state_after, proofs.StateSteps.settled_all-in_use, proofs.TailLaws.{tails-agree, settled_all-append}}
use Rattle.definitions.proofs.state_laws.tails_agree.Goals as goal

pub returns-clause-whole : goal.returns-clause-whole
returns-clause-whole c = settled_all-append

pub returns-clause-statements : goal.returns-clause-statements
returns-clause-statements c = λ kind front other_front tail other_tail states cards agree.
    (tails-agree kind (settled_all kind front) (settled_all kind other_front) tail other_tail (settled_all-in_use kind front) (settled_all-in_use kind other_front) states cards agree).0

pub returns-clause-states : goal.returns-clause-states
returns-clause-states c = λ kind front other_front tail other_tail states cards agree.
    ap state_after (settled_all-append kind tail front)
    ∙ (tails-agree kind (settled_all kind front) (settled_all kind other_front) tail other_tail (settled_all-in_use kind front) (settled_all-in_use kind other_front) states cards agree).1
    ∙ ap state_after (sym (settled_all-append kind other_tail other_front))
