use Rattle.std.{proofs.Common.{◌≡◌, ◌∙◌, ℕ, List, Some, ap, sym, refl}, specs.Prelude.slice_get}
use Rattle.definitions.specs.{Blocks.block_in_use, Laws.States.lengths_advanced}
use Rattle.use_blocks.{specs.Joins.BlockLengths.block_names, specs.Joins.EffectsAs.effect_as, proofs.NameLaws.{length-at, names-advanced}}
use Rattle.use_blocks.proofs.lengths.Lengths.follow.Goals as goal

pub returns-clause-advanced : goal.returns-clause-advanced
returns-clause-advanced c =
    let lengths = c.args.self.now in
    let effect = effect_as c.args.effect.now in
    let at = c.block_index-block.result in
    let name = block_in_use c.args.state.now.open_names in
    let here : slice_get (block_names lengths) at ≡ Some name = ap (λ (names : List (List ℕ)). slice_get names at) c.requires.same_blocks ∙ c.block_index-block.ensures in
    let found = length-at lengths at name here in
    c.in_ok-advance.ensures.advanced found.0 effect found.1 refl (sym c.opened_name-opened.ensures.name)
    ∙ ap (λ (n : List ℕ). lengths_advanced n effect lengths) found.2

pub returns-clause-same_blocks : goal.returns-clause-same_blocks
returns-clause-same_blocks c =
    ap block_names (returns-clause-advanced c)
    ∙ names-advanced (block_in_use c.args.state.now.open_names) (effect_as c.args.effect.now) c.args.self.now c.args.state.now.blocks c.requires.same_blocks
