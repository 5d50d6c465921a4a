use Rattle.expr_forms.{specs.Joins.Links.{operator_as, link_as}, specs.Joins.Running.running_as, proofs.ValueLaws.{value-term_fault, value-element_fault}}
use Rattle.expr_forms.proofs.values.walk_term.Goals as goal

pub returns-in-Fault-clause-next : goal.returns-in-Fault-clause-next
returns-in-Fault-clause-next g c joins pairs =
    let walk = c.args.walk in
    value-term_fault (g.N.Names.names c.args.names.now) (running_as walk.sum c.args.room.now) (operator_as walk.operator) walk.form c.in-Fault.letter (link_as c.args.link) pairs joins c.in-Fault.ensures.adds

pub returns-in-Err-clause-next : goal.returns-in-Err-clause-next
returns-in-Err-clause-next g c joins pairs =
    let walk = c.args.walk in
    value-element_fault (g.N.Names.names c.args.names.now) (running_as walk.sum c.args.room.now) (running_as c.in-Sum.sum c.plus_form.new.room) (operator_as walk.operator) walk.form c.in-Err.letter (link_as c.args.link) pairs joins
    c.in-Sum.ensures.adds c.in-Err.ensures
