use Rattle.std.{proofs.Common.{◌∙◌, ℕ, ap}, specs.Prelude.slice_get}
use Rattle.definitions.specs.Laws.States.{names_of_blocks}
use Rattle.use_blocks.{specs.Joins.StateInside.latest, proofs.NameLaws.in_use-at}
use Rattle.use_blocks.proofs.block_state.BlockState.block_index.Goals as goal

pub returns : goal.returns
returns c =
    let inside = c.self.inside in
    let at = c.index_in_use.ensures ∙ ap latest c.as_slice.ensures.value in
    rw (← c.self.view_is)
    (ap (λ (n : ℕ). slice_get (names_of_blocks inside.blocks.items) n) at ∙ in_use-at inside.blocks.items inside.stack.items c.self.invariant)
