-- An operand without literals and names gives none.
use Rattle.std.proofs.Common.{◌∙◌, ap, sym}
use Rattle.definitions.specs.Literals.{with_literals}
use Rattle.statement_coder.specs.Joins.Sizings.{defines_in}
use Rattle.deck_assembler.{specs.Joins.FirstSymbols.symbol_in, proofs.BareOperands.{bare-defined, bare-externals, bare-lawful}}
use Rattle.deck_assembler.proofs.sizer.Sizer.note_own.Goals as goal

pub returns-clause-noted : goal.returns-clause-noted
returns-clause-noted c = λ operand bare.
    let old = c.args.self.now in
    let statement = c.args.statement.now in
    let defines = defines_in statement.kind c.args.sized.now.sizing in
    record {
      lawful = bare-lawful operand bare.names;
      literals = ap (λ l. with_literals l old.literals) (sym bare.literals);
      symbols = c.in_ok-define_own.ensures ∙ bare-defined statement.location.now operand defines (symbol_in old.symbols) bare.names;
      externals = bare-externals operand defines (symbol_in old.symbols) old.externals.items bare.names;
      lengths = c.in_ok-follow.ensures.advanced;
      same_blocks = c.in_ok-follow.ensures.same_blocks;
    }
