use Rattle.definitions.proofs.{WordLaws.stored_words-below, LiteralLaws.literal_words-below}
use Rattle.definitions.proofs.laws.words_fit.Goals as goal

pub returns-clause-blocks : goal.returns-clause-blocks
returns-clause-blocks c = stored_words-below

pub returns-clause-literals : goal.returns-clause-literals
returns-clause-literals c = literal_words-below
