-- A name that has no value yet gets this one, and the call returns whether it had none.
use Rattle.std.proofs.Common.{rules}
use Rattle.deck_assembler.proofs.SymbolLaws.{is-first, is-later, keep-entered}
use Rattle.deck_assembler.proofs.symbol_table.keep.Goals as goal

pub returns-in-Vacant-clause-kept : goal.returns-in-Vacant-clause-kept
returns-in-Vacant-clause-kept c =
    keep-entered c.args.forms.now.entries _ c.args.code c.args.form (search rules) (search rules) (λ other. (c.in_ok-forms.ensures.update.0 c.args.form).0 other)

pub returns-in-Vacant-clause-first : goal.returns-in-Vacant-clause-first
returns-in-Vacant-clause-first c = is-first c.args.forms.now.entries c.args.code (search rules)

pub returns-in-Occupied-clause-first : goal.returns-in-Occupied-clause-first
returns-in-Occupied-clause-first c = is-later c.args.forms.now.entries c.args.code (search rules)
