use Rattle.std.proofs.Common.{◌≡◌, ◌∙◌, ap, subst}
use Rattle.definitions.specs.Laws.States.{BlockState, advanced}
use Rattle.use_blocks.{specs.Joins.EffectsAs.effect_as, specs.Joins.StateInside.{block_at, latest}, specs.Joins.Changes.{written, changed}, proofs.StackLaws.{state_of, advanced-parts}}
use Rattle.use_blocks.proofs.block_state.BlockState.advance.Goals as goal

pub returns-clause-advanced : goal.returns-clause-advanced
returns-clause-advanced c =
    let inside = c.self.inside in
    let effect = effect_as c.args.effect.now in
    let index = c.index_in_use-at.result in
    let at = c.index_in_use-at.ensures ∙ ap latest c.as_slice.ensures.value in
    let view : state_of inside.blocks.items inside.stack.items inside.number_base inside.neutral ≡ c.args.self.now = c.self.view_is in
    let parts = subst (λ (s : BlockState). written (block_at (changed effect.change s).blocks index).name effect (changed effect.change s) ≡ advanced effect s) view
    (advanced-parts effect inside.blocks.items inside.stack.items inside.number_base inside.neutral index c.self.invariant at) in
    c.write.ensures ∙ (ap (λ (s : BlockState). written (block_at s.blocks index).name effect s) c.in_ok-change.ensures.changed ∙ parts)
