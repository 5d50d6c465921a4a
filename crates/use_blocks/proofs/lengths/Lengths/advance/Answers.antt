use Rattle.std.{proofs.Common.{◌≡◌, Some, List, ap, ◌∙◌}, specs.Prelude.{slice_get, map}, specs.Option.option_map}
use Rattle.definitions.specs.{Settled.Opens, Lengths.BlockLength, Laws.States.lengths_behind}
use Rattle.use_blocks.{specs.Joins.BlockLengths.reaching, proofs.ReachLaws.{opened-at, advanced-opened, advanced-unopened}, proofs.lengths.Lengths.advance.Goals.{in-Some+in_ok-open-in-Some, in-None}}
use Rattle.use_blocks.proofs.lengths.Lengths.advance.Goals as goal

pub returns-clause-advanced : goal.returns-clause-advanced
returns-clause-advanced c b effect e r o = elim c.match-opened.branch [
  | in-Some+in_ok-open-in-Some w ↦
      let name = w.in-Some.name.now in
      let is : c.match-opened.self ≡ lengths_behind (Opens name) c.args.self.now = w.self-is ∙ w.in_ok-open-in-Some.ensures.opened in
      let here : slice_get c.match-opened.self c.args.block ≡ Some b = ap (λ (bs : List BlockLength). slice_get bs c.args.block) is ∙ opened-at c.args.self.now c.args.block b name e in
      c.reach.ensures b here
      ∙ ap (map (reaching b.name c.args.words)) is
      ∙ advanced-opened c.args.self.now c.args.block b name c.args.words effect e r (o ∙ ap (option_map (λ text. text.now)) w.in-Some.is)
  | in-None w ↦
      let here : slice_get c.match-opened.self c.args.block ≡ Some b = ap (λ (bs : List BlockLength). slice_get bs c.args.block) w.self-is ∙ e in
      c.reach.ensures b here
      ∙ ap (map (reaching b.name c.args.words)) w.self-is
      ∙ advanced-unopened c.args.self.now b.name c.args.words effect r (o ∙ ap (option_map (λ text. text.now)) w.in-None.is)
]
