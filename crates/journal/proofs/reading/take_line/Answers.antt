use Rattle.journal.proofs.ReadingSteps.{EndsIn-cut, EndsIn-long}
use Rattle.journal.proofs.reading.take_line.Goals as goal

pub returns-in-Cut-clause-ends : goal.returns-in-Cut-clause-ends
returns-in-Cut-clause-ends g c = EndsIn-cut _ _ _ _ _ _ c.cut-in-Cut.ensures c.in-Cut.ensures.reads

pub returns-in-TooLong-clause-ends : goal.returns-in-TooLong-clause-ends
returns-in-TooLong-clause-ends g c = EndsIn-long _ _ _ _ _ _ c.faulty.ensures c.in-TooLong.ensures.reads
