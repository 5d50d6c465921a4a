use Rattle.deck_linker.proofs.CommonSteps.{none-more}
use Rattle.deck_linker.proofs.common_words.no_words.Goals as goal

pub loop-preserved : goal.loop-preserved
loop-preserved c = none-more c.loop.counter c.loop.lists.items c.push.new.self.items c.new.result c.loop.invariant c.new.ensures.items c.in_ok-push.ensures.items
