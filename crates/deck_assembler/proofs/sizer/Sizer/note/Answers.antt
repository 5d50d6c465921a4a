use Rattle.std.proofs.Common.{◌∙◌, ap, sym}
use Rattle.definitions.specs.Literals.{with_literals}
use Rattle.deck_assembler.proofs.{BareOperands.{bare-read, literals-read}, DefinitionLaws.lawful-shape}
use Rattle.deck_assembler.proofs.sizer.Sizer.note.Goals as goal

pub returns-clause-noted : goal.returns-clause-noted
returns-clause-noted c = λ operand is lawful. record {
  lawful = lawful-shape operand c.args.reading.now is lawful;
  literals = c.in_ok-is_bare.ensures.words ∙ ap (λ l. with_literals l c.args.self.now.literals) (sym (literals-read c.args.reading.now operand is lawful));
  symbols = c.in_ok-define.ensures.symbols operand is;
  externals = c.in_ok-define.ensures.externals operand is;
  lengths = c.in_ok-follow.ensures.advanced;
  same_blocks = c.in_ok-follow.ensures.same_blocks;
}

pub returns-clause-bare : goal.returns-clause-bare
returns-clause-bare c = λ e operand is lawful.
    let none = c.in_ok-is_bare.ensures.bare e in
    bare-read c.args.reading.now operand is lawful none.0 none.1
