use Rattle.std.proofs.Common.{◌∙◌, sym, ap}
use Rattle.definitions.specs.Laws.States.{UsedBlock, names_of_blocks}
use Rattle.use_blocks.{specs.Joins.StateInside.latest, proofs.BlockLaws.name_at-block, proofs.StackLaws.{in_use-latest, block_now-latest, block_now-read}}
use Rattle.use_blocks.proofs.block_state.BlockState.block.Goals as goal

pub returns-clause-block : goal.returns-clause-block
returns-clause-block c =
    let inside = c.self.inside in
    let at = c.index_in_use-at.ensures ∙ ap latest c.as_slice.ensures.value in
    let read = rw c.as_slice-2.ensures.value at c.index-as_slice-at.is in
    rw (← c.self.view_is)
    (block_now-read inside.blocks.items inside.stack.items c.index_in_use-at.result c.index-as_slice-at.result c.self.invariant at read
    ∙ sym (block_now-latest inside.blocks.items inside.stack.items c.self.invariant))

pub returns-clause-name : goal.returns-clause-name
returns-clause-name c =
    let inside = c.self.inside in
    let at = c.index_in_use-at.ensures ∙ ap latest c.as_slice.ensures.value in
    let read = rw c.as_slice-2.ensures.value at c.index-as_slice-at.is in
    rw (← c.self.view_is)
    (ap (λ (block : UsedBlock). block.name) (block_now-read inside.blocks.items inside.stack.items c.index_in_use-at.result c.index-as_slice-at.result c.self.invariant at read)
    ∙ sym (in_use-latest (names_of_blocks inside.blocks.items) inside.stack.items c.self.invariant.nominal_first ∙ name_at-block inside.blocks.items (latest inside.stack.items)))
