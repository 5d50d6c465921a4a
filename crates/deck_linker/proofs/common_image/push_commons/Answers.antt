use Rattle.std.{proofs.Common.refl, specs.Prelude.flat_map}
use Rattle.definitions.specs.Image.{common_section_by}
use Rattle.deck_linker.proofs.{CommonSteps.place-there, LineLaws.text-step}
use Rattle.deck_linker.proofs.common_image.push_commons.Goals as goal

pub push_common-requires-clause-there : goal.push_common-requires-clause-there
push_common-requires-clause-there c =
    place-there c.args.layout.now.commons c.commons-common-items.result.now c.loop-common.common-index c.common-item.result c.commons-common-items.ensures c.loop-common-test.true c.common-item.is

pub loop-common-preserved : goal.loop-common-preserved
loop-common-preserved c =
    text-step (flat_map (common_section_by c.args.layout.now)) (common_section_by c.args.layout.now) (λ x xs. refl) c.commons-common-items.result.now c.loop-common.common-index c.common-item.result c.loop-common-test.true c.common-item.is
    c.loop-common.text c.push_common.new.text _ c.loop-common.invariant c.push_common.ensures
