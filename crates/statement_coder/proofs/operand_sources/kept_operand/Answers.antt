use Rattle.statement_coder.proofs.operand_sources.kept_operand.Goals as goal

pub returns-clause-read : goal.returns-clause-read
returns-clause-read c = λ settled same kept. record { operation = same; operand = c.reading.ensures.reading settled.read.operand kept }

pub invariant_of-result : goal.invariant_of-result
invariant_of-result c = record { whole = c.reading.ensures.whole }
