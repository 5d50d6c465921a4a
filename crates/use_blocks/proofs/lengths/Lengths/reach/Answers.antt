use Rattle.std.{proofs.Common.{◌≡◌, ◌≤◌, ◌∙◌, ℕ, Some, List, max, ap, sym, subst}, specs.Prelude.{slice_get, map}}
use Rattle.indexmap.specs.{IndexMap.set_value_at, Layout.length-set_value_at}
use Rattle.definitions.specs.Lengths.{BlockLength}
use Rattle.use_blocks.{specs.Joins.BlockLengths.{lengths_shown, reaching}, proofs.ReachLaws.{reached-at, words-at}}
use Rattle.use_blocks.proofs.lengths.Lengths.reach.Goals as goal

pub invariant_of-self : goal.invariant_of-self
invariant_of-self c =
    let entries = c.self.inside.words.entries in
    subst (λ (n : ℕ). n ≤ 64) (sym (length-set_value_at entries c.args.block c.max.result)) c.self.invariant

pub returns : goal.returns
returns c b e =
    let entries = c.self.inside.words.entries in
    let pair = c.pair_mut-reached.ensures in
    let here : slice_get (lengths_shown entries) c.args.block ≡ Some b = ap (λ (bs : List BlockLength). slice_get bs c.args.block) c.self.view_is ∙ e in
    let most : c.max.result ≡ max c.args.words b.words = c.max.ensures ∙ ap (max c.args.words) (words-at entries c.args.block _ b pair.value here) in
    ap (λ (n : ℕ). lengths_shown (set_value_at entries c.args.block n)) most
    ∙ reached-at entries c.args.block b c.args.words pair.unique here
    ∙ ap (map (reaching b.name c.args.words)) c.self.view_is
