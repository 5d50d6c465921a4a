use Rattle.std.proofs.Common.{◌≡◌, ◌∙◌, ◌-◌, ℕ, List, length, take, ap}
use Rattle.use_blocks.proofs.StackLaws.{state_of, closed-as}
use Rattle.use_blocks.proofs.block_state.BlockState.close.Goals as goal

pub returns : goal.returns
returns c =
    let inside = c.self.inside in
    let count : inside.stack.len ≡ length inside.stack.items = inside.stack.ok.0 in
    let rest = c.pop.ensures.rest ∙ ap (λ (n : ℕ). take (n - 1) inside.stack.items) count in
    rw (← c.self.view_is)
    (ap (λ (s : List ℕ). state_of inside.blocks.items s inside.number_base inside.neutral) rest
    ∙ closed-as inside.blocks.items inside.stack.items inside.number_base inside.neutral)
