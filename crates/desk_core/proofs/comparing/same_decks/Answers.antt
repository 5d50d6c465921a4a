use Rattle.std.proofs.Common.{◌∙◌, length, sym, ne_eqb}
use Rattle.desk_core.proofs.DeliverDone.{other-decks}
use Rattle.desk_core.proofs.comparing.same_decks.Goals as goal

pub returns-else-objects-decks : goal.returns-else-objects-decks
returns-else-objects-decks c = let differ = ne_eqb (length c.args.objects.now) (length c.args.decks.now) c.if-objects-decks.false in differ ∙ sym (other-decks c.args.objects.now c.args.decks.now differ)
