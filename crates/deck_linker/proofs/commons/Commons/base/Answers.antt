use Rattle.std.{proofs.Common.{◌∙◌, List, ℕ, Option, ap}, specs.Option.option_map_or}
use Rattle.definitions.specs.Layout.{Common, common_base}
use Rattle.deck_linker.proofs.CommonLaws.{base-found}
use Rattle.deck_linker.proofs.commons.Commons.base.Goals as goal

pub returns-in-Some : goal.returns-in-Some
returns-in-Some c =
    let blocks = c.self.inside.blocks.keys in
    c.base.ensures
    ∙ ap (λ (found : Option Common). option_map_or (λ (common : Common). common.base) found 0) c.in-Some.ensures.key
    ∙ base-found c.named.result.name blocks
    ∙ ap (λ (name : List ℕ). common_base name blocks) c.named.ensures
    ∙ ap (λ (commons : List Common). common_base c.args.name.now commons) c.self.view_is

pub returns-in-None : goal.returns-in-None
returns-in-None c =
    let blocks = c.self.inside.blocks.keys in
    ap (λ (found : Option Common). option_map_or (λ (common : Common). common.base) found 0) c.in-None.ensures.key
    ∙ base-found c.named.result.name blocks
    ∙ ap (λ (name : List ℕ). common_base name blocks) c.named.ensures
    ∙ ap (λ (commons : List Common). common_base c.args.name.now commons) c.self.view_is
