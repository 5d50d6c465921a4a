use Rattle.std.{proofs.Common.{◌∙◌, ℕ, List, ap, sym, refl}, specs.Prelude.nat_lt, specs.List.prefix_len, proofs.lemmas.Bool.{lt-ltb, le-ltb}}
use Rattle.definitions.specs.Laws.States.{UsedBlock}
use Rattle.use_blocks.{specs.Joins.StateInside.is_other, proofs.StackLaws.accepted-index}
use Rattle.use_blocks.proofs.block_state.BlockState.use_name.Goals as goal

pub returns-then-opened-lt-MOST_BLOCKS-clause-change : goal.returns-then-opened-lt-MOST_BLOCKS-clause-change
returns-then-opened-lt-MOST_BLOCKS-clause-change c =
    let at = c.index_of-opened.ensures ∙ ap (λ (l : List UsedBlock). prefix_len (is_other c.args.name.now) l) c.as_slice.ensures.value in
    let e = accepted-index c.args.name.now c.self.inside.blocks.items c.self.invariant.few ∙ (ap (λ (n : ℕ). nat_lt n 64) (sym at) ∙ lt-ltb c.index_of-opened.result 64 c.if-opened-lt-MOST_BLOCKS.true) in
    rw (← c.self.view_is, e) refl

pub returns-then-opened-lt-MOST_BLOCKS-clause-accepted : goal.returns-then-opened-lt-MOST_BLOCKS-clause-accepted
returns-then-opened-lt-MOST_BLOCKS-clause-accepted c =
    let at = c.index_of-opened.ensures ∙ ap (λ (l : List UsedBlock). prefix_len (is_other c.args.name.now) l) c.as_slice.ensures.value in
    let e = accepted-index c.args.name.now c.self.inside.blocks.items c.self.invariant.few ∙ (ap (λ (n : ℕ). nat_lt n 64) (sym at) ∙ lt-ltb c.index_of-opened.result 64 c.if-opened-lt-MOST_BLOCKS.true) in
    rw (← c.self.view_is) e

pub returns-else-opened-lt-MOST_BLOCKS-clause-change : goal.returns-else-opened-lt-MOST_BLOCKS-clause-change
returns-else-opened-lt-MOST_BLOCKS-clause-change c =
    let at = c.index_of-opened.ensures ∙ ap (λ (l : List UsedBlock). prefix_len (is_other c.args.name.now) l) c.as_slice.ensures.value in
    let e = accepted-index c.args.name.now c.self.inside.blocks.items c.self.invariant.few ∙ (ap (λ (n : ℕ). nat_lt n 64) (sym at) ∙ le-ltb c.index_of-opened.result 64 c.if-opened-lt-MOST_BLOCKS.false) in
    rw (← c.self.view_is, e) refl
