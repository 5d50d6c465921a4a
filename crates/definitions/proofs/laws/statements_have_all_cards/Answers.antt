use Rattle.definitions.proofs.StatementLaws.{cards_in-statements_of, numbered-statements_of}
use Rattle.definitions.proofs.laws.statements_have_all_cards.Goals as goal

pub returns-clause-all : goal.returns-clause-all
returns-clause-all c = cards_in-statements_of

pub returns-clause-numbered : goal.returns-clause-numbered
returns-clause-numbered c = numbered-statements_of
