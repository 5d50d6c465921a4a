use Rattle.std.{proofs.Common.{sym, subst}, specs.List.AllByRecursion}
use Rattle.definitions.specs.Pieces.{pieces_of, subfields_of}
use Rattle.statement_coder.{specs.Joins.Readings.IsLawfulName, proofs.LawfulLaws.names-lawful}
use Rattle.statement_coder.proofs.readings.read_operand.Goals as goal

pub returns-in-Entry-clause-lawful : goal.returns-in-Entry-clause-lawful
returns-in-Entry-clause-lawful c = subst (AllByRecursion IsLawfulName) (sym c.new.ensures) (names-lawful (subfields_of (pieces_of c.args.text.now)))

pub returns-in-Ext-clause-lawful : goal.returns-in-Ext-clause-lawful
returns-in-Ext-clause-lawful c = subst (AllByRecursion IsLawfulName) (sym c.new-in-Ext.ensures) (names-lawful (subfields_of (pieces_of c.args.text.now)))
