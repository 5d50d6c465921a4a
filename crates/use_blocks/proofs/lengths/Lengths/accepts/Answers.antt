use Rattle.std.proofs.Common.{◌≡◌, ◌∙◌, List, true, false, sym, ap}
use Rattle.definitions.specs.{Blocks.is_accepted, Lengths.BlockLength}
use Rattle.use_blocks.{specs.Joins.BlockLengths.{block_names, has_name, lengths_shown}, proofs.ReachLaws.{accepted-old, accepted-new, shown-length}}
use Rattle.use_blocks.proofs.lengths.Lengths.accepts.Goals as goal

pub returns-then-has_block : goal.returns-then-has_block
returns-then-has_block c =
    let blocks = lengths_shown c.self.inside.words.entries in
    let used : has_name c.args.name.now blocks ≡ true = sym c.has_block.ensures ∙ c.if-has_block.true in
    c.if-has_block.true
    ∙ accepted-old c.args.name.now blocks used
    ∙ ap (λ (bs : List BlockLength). is_accepted c.args.name.now (block_names bs)) c.self.view_is

pub returns-else-has_block : goal.returns-else-has_block
returns-else-has_block c =
    let entries = c.self.inside.words.entries in
    let blocks = lengths_shown entries in
    let unused : has_name c.args.name.now blocks ≡ false = sym c.has_block.ensures ∙ c.if-has_block.false in
    accepted-new c.args.name.now blocks c.len.result (c.len.ensures.len ∙ sym (shown-length entries)) unused
    ∙ ap (λ (bs : List BlockLength). is_accepted c.args.name.now (block_names bs)) c.self.view_is
