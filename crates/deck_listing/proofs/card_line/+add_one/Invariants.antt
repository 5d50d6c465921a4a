use Rattle.std.proofs.Common.{length}
use Rattle.deck_listing.proofs.card_line.+add_one.Given as goal

abbrev pub decreases-add_one : goal.decreases-add_one
decreases-add_one l = length l.digits.now
