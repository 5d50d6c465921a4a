use Rattle.std.proofs.Common.{◌∙◌, ap, sym}
use Rattle.expr_forms.{specs.Joins.LoneRegisters.begins_term, proofs.LoneLaws.begins-left}
use Rattle.expr_forms.proofs.links.Links.begins_term.Goals as goal

pub returns : goal.returns
returns c = c.begins_term.ensures ∙ (sym (begins-left c.self.inside.registers c.self.inside.all) ∙ ap begins_term c.self.view_is)
