use Rattle.std.proofs.{Common.{◌∙◌, List, ℕ, ap}, lemmas.Iterator.Adapters.position_from-zero}
use Rattle.definitions.specs.{Characters.same_text, Layout.Common}
use Rattle.deck_linker.{specs.Joins.CommonWords.common_place, proofs.CommonLaws.place-named}
use Rattle.deck_linker.proofs.commons.Commons.place.Goals as goal

pub returns : goal.returns
returns c =
    let blocks = c.self.inside.blocks.keys in
    c.get_index_of.ensures.index
    ∙ position_from-zero (λ (common : Common). same_text c.named.result.name common.name) blocks
    ∙ place-named c.named.result.name 0 blocks
    ∙ ap (λ (name : List ℕ). common_place name blocks) c.named.ensures
    ∙ ap (λ (commons : List Common). common_place c.args.name.now commons) c.self.view_is
