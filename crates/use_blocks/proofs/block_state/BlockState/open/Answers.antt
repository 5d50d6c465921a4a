use Rattle.std.{proofs.Common.{◌∙◌, ℕ, List, ◌++◌, ◌∷◌, [], ap, ap₂, sym}, specs.Prelude.nat_lt, specs.List.prefix_len, proofs.lemmas.Bool.ltb-true}
use Rattle.definitions.specs.Laws.States.{UsedBlock}
use Rattle.use_blocks.{specs.Joins.StateInside.is_other, proofs.StackLaws.{accepted-index, state-opened, opened-as, blocks_opened, state_of}}
use Rattle.use_blocks.proofs.block_state.BlockState.open.Goals as goal

pub open-requires-clause-few : goal.open-requires-clause-few
open-requires-clause-few c =
    let inside = c.self.inside in
    let at = c.index_of-at.ensures ∙ ap (λ (l : List UsedBlock). prefix_len (is_other c.args.name) l) c.as_slice.ensures.value in
    let accepted = rw (← c.self.view_is) at c.requires.accepted in
    ltb-true c.index_of-at.result 64 (ap (λ (n : ℕ). nat_lt n 64) at ∙ (sym (accepted-index c.args.name inside.blocks.items c.self.invariant.few) ∙ accepted))

pub invariant_of-self-2 : goal.invariant_of-self-2
invariant_of-self-2 c =
    let inside = c.self.inside in
    let at = c.index_of-at.ensures ∙ ap (λ (l : List UsedBlock). prefix_len (is_other c.args.name) l) c.as_slice.ensures.value in
    let accepted = rw (← c.self.view_is) at c.requires.accepted in
    let few = ltb-true c.index_of-at.result 64 (ap (λ (n : ℕ). nat_lt n 64) at ∙ (sym (accepted-index c.args.name inside.blocks.items c.self.invariant.few) ∙ accepted)) in
    let blocks = c.open.ensures.blocks ∙ ap (λ (l : List UsedBlock). blocks_opened c.args.name l c.index_of-at.result) c.reserve.ensures.blocks in
    let stack = c.open.ensures.stack ∙ ap (λ (l : List ℕ). l ++ c.index_of-at.result ∷ []) c.reserve.ensures.stack in
    rw (blocks, stack) (state-opened c.args.name inside.blocks.items inside.stack.items c.index_of-at.result c.self.invariant at few)

pub returns-clause-opened : goal.returns-clause-opened
returns-clause-opened c =
    let inside = c.self.inside in
    let at = c.index_of-at.ensures ∙ ap (λ (l : List UsedBlock). prefix_len (is_other c.args.name) l) c.as_slice.ensures.value in
    let blocks = c.open.ensures.blocks ∙ ap (λ (l : List UsedBlock). blocks_opened c.args.name l c.index_of-at.result) c.reserve.ensures.blocks in
    let stack = c.open.ensures.stack ∙ ap (λ (l : List ℕ). l ++ c.index_of-at.result ∷ []) c.reserve.ensures.stack in
    rw (← c.self.view_is)
    (ap₂ (λ (l : List UsedBlock) (s : List ℕ). state_of l s inside.number_base inside.neutral) blocks stack
    ∙ opened-as c.args.name inside.blocks.items inside.stack.items c.index_of-at.result inside.number_base inside.neutral c.self.invariant at)
