use Rattle.definitions.proofs.ExpressionLaws.{Spells-expression_of, expression_of-spelt}
use Rattle.definitions.proofs.laws.reads_the_grammar.Goals as goal

-- src/laws.rt:39:1
pub returns : goal.returns
returns c base pieces e = (Spells-expression_of base pieces e, expression_of-spelt base pieces e)
