use Rattle.std.proofs.Common.{◌≡◌, ◌∙◌, true, sym, rules}
use Rattle.use_blocks.proofs.StackLaws.{same-states}
use Rattle.use_blocks.proofs.block_state.BlockState.same.Goals as goal

pub returns : goal.returns
returns c =
    let inside = c.self.inside in
    let other = c.other.inside in
    let base : c.is_same_base.result ≡ true = search rules in
    let list : c.is_same_list.result ≡ true = search rules in
    let neutral : inside.neutral ≡ other.neutral = search rules in
    let blocks = sym c.as_slice.ensures.value ∙ (c.is_same_list.ensures.0 list ∙ c.as_slice-2.ensures.value) in
    let told = rw (c.as_slice-3.ensures.value, c.as_slice-4.ensures.value) at c.is_same_stack.ensures in
    rw (← c.self.view_is, ← c.other.view_is)
    (same-states c.is_same_stack.result inside.blocks.items other.blocks.items inside.stack.items other.stack.items inside.number_base other.number_base inside.neutral other.neutral
    c.self.invariant c.other.invariant blocks (c.is_same_base.ensures.0 base) neutral told)
