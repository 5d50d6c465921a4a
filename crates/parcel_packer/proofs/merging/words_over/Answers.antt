use Rattle.parcel_packer.proofs.{MergeLaws.if_ok, OverLaws.filled_over}
use Rattle.parcel_packer.proofs.merging.words_over.Goals as goal

pub returns-clause-words : goal.returns-clause-words
returns-clause-words c = if_ok c.merged.result _ _ (λ spans both. filled_over c.args.newer.now c.args.older.now spans.items c.requires.newer c.requires.older both) c.merged.ensures

pub returns-clause-rise : goal.returns-clause-rise
returns-clause-rise c = if_ok c.merged.result _ _ (λ spans both. both.rise) c.merged.ensures
