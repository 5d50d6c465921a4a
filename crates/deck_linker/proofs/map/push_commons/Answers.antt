use Rattle.std.{proofs.Common.refl, specs.Prelude.flat_map}
use Rattle.definitions.specs.Map.{common_line}
use Rattle.deck_linker.proofs.LineLaws.{text-step}
use Rattle.deck_linker.proofs.map.push_commons.Goals as goal

pub loop-common-preserved : goal.loop-common-preserved
loop-common-preserved c =
    text-step (flat_map common_line) (common_line) (λ x xs. refl) c.args.commons.now c.loop-common.common-index c.common-item.result c.loop-common-test.true c.common-item.is
    c.loop-common.text c.push_common.new.text _ c.loop-common.invariant c.in_ok-push_common.ensures
