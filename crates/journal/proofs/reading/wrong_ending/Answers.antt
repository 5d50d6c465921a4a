use Rattle.journal.proofs.ReadingSteps.{EndsWrong-line, EndsWrong-cut, EndsWrong-long}
use Rattle.journal.proofs.reading.wrong_ending.Goals as goal

pub returns-in-Line-clause-ends : goal.returns-in-Line-clause-ends
returns-in-Line-clause-ends g c = EndsWrong-line _ _ _ _ _ c.faulty.ensures c.in-Line.ensures.reads

pub returns-in-Cut-clause-ends : goal.returns-in-Cut-clause-ends
returns-in-Cut-clause-ends g c = EndsWrong-cut _ _ _ _ _ c.faulty-in-Cut.ensures c.in-Cut.ensures.reads

pub returns-in-TooLong-clause-ends : goal.returns-in-TooLong-clause-ends
returns-in-TooLong-clause-ends g c = EndsWrong-long _ _ _ _ _ c.faulty-in-TooLong.ensures c.in-TooLong.ensures.reads
