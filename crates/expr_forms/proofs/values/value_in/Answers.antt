use Rattle.std.{proofs.Common.{sym}}
use Rattle.expr_forms.{specs.Joins.Links.link_as, proofs.ValueLaws.{value-start_fault}}
use Rattle.expr_forms.proofs.values.value_in.Goals as goal

pub returns-in-Err-clause-value : goal.returns-in-Err-clause-value
returns-in-Err-clause-value g c =
    sym (value-start_fault (g.N.Names.names c.args.names.now) c.args.expr.now c.links-links.result c.next.new.self (link_as c.in-Some.first) c.in-Err.letter
    c.links-links.ensures.grouped c.in-Some.ensures.some c.links-links.ensures.begins c.in-Err.ensures)
