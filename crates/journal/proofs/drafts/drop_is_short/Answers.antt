use Rattle.journal.proofs.RecordSizes.{drop-short}
use Rattle.journal.proofs.drafts.drop_is_short.Goals as goal

pub returns : goal.returns
returns c = drop-short _ _ _ c.args.seen c.as_slice.ensures.short c.as_slice-2.ensures.short c.as_slice-3.ensures.short c.ranges.seen.fits
