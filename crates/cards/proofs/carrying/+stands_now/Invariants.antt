use Rattle.cards.proofs.carrying.+stands_now.Given as goal

abbrev pub decreases-stands_now : goal.decreases-stands_now
decreases-stands_now l = l.count
