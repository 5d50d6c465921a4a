use Rattle.std.proofs.Common.{arith}
use Rattle.deck_listing.proofs.ImageLineSteps.{span_more}
use Rattle.deck_listing.proofs.section_words.push_words.Goals as goal

pub loop-span-preserved : goal.loop-span-preserved
loop-span-preserved c =
    span_more c.args.kind c.args.base c.args.block c.args.words.now c.loop-span.span-index _ c.make_room.new.self c.loop-span.text c.push_span.new.text (omega arith)
    c.loop-span.invariant c.push_span.ensures
