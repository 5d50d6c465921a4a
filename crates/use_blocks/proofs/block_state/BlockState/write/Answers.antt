use Rattle.std.proofs.Common.{◌∙◌, ◌<◌, length, ap, sym, refl}
use Rattle.definitions.specs.Laws.States.{names_of_blocks}
use Rattle.use_blocks.{specs.Joins.EffectsAs.effect_as, specs.Joins.StateInside.block_at, proofs.BlockLaws.{behind-at, names-behind}, proofs.StackLaws.{state-renamed, written-as}}
use Rattle.use_blocks.proofs.block_state.BlockState.write.Goals as goal

pub invariant_of-self : goal.invariant_of-self
invariant_of-self c =
    let inside = c.self.inside in
    let name = (block_at inside.blocks.items c.args.at).name in
    let effect = effect_as c.args.effect.now in
    let below : c.args.at < length inside.blocks.items = rw (← c.self.view_is) at c.requires in
    let same = c.write.ensures ∙ sym (behind-at effect inside.blocks.items c.args.at c.self.invariant.distinct below) in
    state-renamed inside.blocks.items c.write.new.blocks.items inside.stack.items (ap names_of_blocks same ∙ names-behind name effect inside.blocks.items) c.self.invariant

pub returns : goal.returns
returns c =
    let inside = c.self.inside in
    let below : c.args.at < length inside.blocks.items = rw (← c.self.view_is) at c.requires in
    rw (← c.self.view_is)
    (written-as (effect_as c.args.effect.now) inside.blocks.items c.write.new.blocks.items inside.stack.items inside.number_base c.number_base_behind-self-inside.result inside.neutral _ c.args.at c.self.invariant below c.write.ensures c.number_base_behind-self-inside.ensures refl)
