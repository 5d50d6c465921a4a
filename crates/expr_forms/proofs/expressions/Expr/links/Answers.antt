use Rattle.std.proofs.Common.{◌∙◌, List, ◌∷◌, length, ap, sym, subst, arith}
use Rattle.definitions.{specs.Expressions.{OperatorElement, Expression, Grouped, grouped}, proofs.TermLaws.{links_in, grouped-links_in}}
use Rattle.expr_forms.{specs.Joins.Links.{link_made, links_behind}, specs.Joins.LoneRegisters.{links_left_by, terms_left_by}, specs.Joins.Parsed.BeginsTerm, proofs.LoneLaws.{left-links, left-terms, left-few, joined-begins}, proofs.ParseLaws.links_behind-few}
use Rattle.expr_forms.proofs.expressions.Expr.links.Goals as goal

pub returns-clause-links : goal.returns-clause-links
returns-clause-links c =
    let self = c.self.inside in
    let more = links_behind self.base self.rest.now in
    c.new.ensures
    ∙ (ap (links_left_by self.registers) c.new-all.ensures
    ∙ (left-links self.registers (link_made self.operator self.element) more c.self.invariant.lawful.begins
    ∙ ap (λ (e : Expression). links_in e.terms) c.self.view_is))

pub returns-clause-grouped : goal.returns-clause-grouped
returns-clause-grouped c =
    let self = c.self.inside in
    let all = link_made self.operator self.element ∷ links_behind self.base self.rest.now in
    ap (λ (l : List OperatorElement). (grouped l).terms)
    (c.new.ensures ∙ (ap (links_left_by self.registers) c.new-all.ensures ∙ left-links self.registers (link_made self.operator self.element) (links_behind self.base self.rest.now) c.self.invariant.lawful.begins))
    ∙ (ap (λ (g : Grouped). g.terms) (grouped-links_in (terms_left_by self.registers (grouped all).terms) (left-terms self.registers all))
    ∙ ap (λ (e : Expression). e.terms) c.self.view_is)

pub returns-clause-few : goal.returns-clause-few
returns-clause-few c =
    omega (
      arith,
      ap length c.new.ensures,
      left-few c.self.inside.registers c.new-all.result,
      ap length c.new-all.ensures,
      links_behind-few c.self.inside.base c.self.inside.rest.now,
      c.self.invariant.lawful.short,
    )

pub returns-clause-begins : goal.returns-clause-begins
returns-clause-begins c =
    let self = c.self.inside in
    let all = link_made self.operator self.element ∷ links_behind self.base self.rest.now in
    subst BeginsTerm
    (sym (c.new.ensures ∙ (ap (links_left_by self.registers) c.new-all.ensures ∙ left-links self.registers (link_made self.operator self.element) (links_behind self.base self.rest.now) c.self.invariant.lawful.begins)))
    (joined-begins (terms_left_by self.registers (grouped all).terms) (left-terms self.registers all))
