use Rattle.deck_linker.{specs.Publishing.listings, proofs.ListedLaws.part-behind-all}
use Rattle.deck_linker.proofs.sending.send_front.Goals as goal

pub returns-in-Err-clause-sends : goal.returns-in-Err-clause-sends
returns-in-Err-clause-sends g c =
    part-behind-all _ _ _ (listings c.args.objects.now) c.args.map.now c.in_ok-listed.listed c.in-Err.broken.sent c.in_ok-listed.ensures.len c.in_ok-listed.ensures.sends c.in-Err.ensures.prefix
