use Rattle.desk_core.proofs.ChangeDone.{put-new, put-gone}
use Rattle.desk_core.proofs.desk.Desk.put_new.Goals as goal

pub returns-then-seen-eq0 : goal.returns-then-seen-eq0
returns-then-seen-eq0 c = put-new c.args.deck c.args.seen c.args.self.now c.requires c.add_deck.result c.add_deck.new.self c.if-seen-eq0.true c.add_deck.ensures

pub returns-else-seen-eq0 : goal.returns-else-seen-eq0
returns-else-seen-eq0 c = put-gone c.args.deck c.args.seen c.args.self.now c.requires c.if-seen-eq0.false
