use Rattle.std.proofs.Common.{length}
use Rattle.parcel_packer.proofs.filling.+runs_words.Given as goal

abbrev pub decreases-runs_words : goal.decreases-runs_words
decreases-runs_words l = length l.runs.now
