use Rattle.std.proofs.Common.{◌+◌, ◌-◌, ◌∙◌, List, length, ap, sym, arith}
use Rattle.definitions.specs.Expressions.{OperatorElement}
use Rattle.expr_forms.{specs.Joins.Running.bases_as, specs.Joins.Walks.walk_value, proofs.RunningLaws.AreSmall-le}
use Rattle.expr_forms.proofs.values.walk_on.Goals as goal

pub walk_end-requires-clause-small : goal.walk_end-requires-clause-small
walk_end-requires-clause-small g c =
    AreSmall-le (355 - length c.links.links) 1000 (bases_as c.links.walk.sum.bases c.links.room) (omega arith) c.links.invariant.small

pub walk_link-requires-clause-small : goal.walk_link-requires-clause-small
walk_link-requires-clause-small g c =
    AreSmall-le (355 - length c.links.links) 1000 (bases_as c.links.walk.sum.bases c.links.room) (omega arith) c.links.invariant.small

pub links-preserved : goal.links-preserved
links-preserved g c =
    let one_less = ap length c.in-Some.ensures.some in
    let more = c.in-Next.ensures.one in
    record {
      value = sym (c.in-Next.ensures.next c.next.new.self)
          ∙ (ap (λ (l : List OperatorElement). walk_value (g.N.Names.names c.args.names.now) c.links.walk c.links.room l) (sym c.in-Some.ensures.some)
          ∙ c.links.invariant.value);
      few = omega (arith, one_less, more, c.links.invariant.few);
      within = c.in-Next.ensures.fits;
      small =
          AreSmall-le ((355 - length c.links.links) + 1) (355 - length c.next.new.self) (bases_as c.in-Next.next.sum.bases c.walk_link.new.room)
          (omega (arith, one_less, c.links.invariant.few))
          (c.in-Next.ensures.small (355 - length c.links.links) c.links.invariant.small);
    }
