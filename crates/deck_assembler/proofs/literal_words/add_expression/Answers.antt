use Rattle.std.proofs.Common.{◌∙◌, ap, sym}
use Rattle.definitions.specs.Literals.{with_literals}
use Rattle.deck_assembler.proofs.LiteralSteps.{plain-bare}
use Rattle.deck_assembler.proofs.literal_words.add_expression.Goals as goal

pub returns-then-is_plain-clause-words : goal.returns-then-is_plain-clause-words
returns-then-is_plain-clause-words c =
    ap (λ literals. with_literals literals c.args.words.now) (sym (plain-bare c.args.expression.now (sym c.is_plain.ensures ∙ c.if-is_plain.true)))

pub returns-then-is_plain-clause-bare : goal.returns-then-is_plain-clause-bare
returns-then-is_plain-clause-bare c = λ e. plain-bare c.args.expression.now (sym c.is_plain.ensures ∙ c.if-is_plain.true)
