use Rattle.std.{proofs.Common.{rules, arith, ◌<◌, length, sym, subst}, specs.Io.KnownBytes.Consumes}
use Rattle.asm_main.{specs.Joins.Filters.filtered_left, proofs.FilterSteps.{given-one, take-set}}
use Rattle.asm_main.proofs.filtered.FilteredRead.read.Goals as goal

pub returns-in-Some-clause-bytes : goal.returns-in-Some-clause-bytes
returns-in-Some-clause-bytes g c =
    let room : 0 < length c.args.buf.now = search rules in (
      subst (Consumes (filtered_left g.R.Read.remaining c.args.self.now) (filtered_left g.R.Read.remaining c.next_byte.new.self)) (sym (take-set c.args.buf.now c.in-Some.byte room))
          (given-one _ _ _ _ c.in_ok-byte.ensures c.in-Some.is),
      λ e. absurd (omega (arith, e)),
    )
