use Rattle.std.proofs.Common.{◌∙◌}
use Rattle.expr_forms.proofs.ReadingLaws.{lone}
use Rattle.expr_forms.proofs.characters.is_lone.Goals as goal

pub returns-then-first-character : goal.returns-then-first-character
returns-then-first-character c = c.is_empty.ensures ∙ lone c.args.text.now c.in-Some.behind.now c.in-Some.first.now c.args.character c.in-Some.ensures.cases.0 c.if-first-character.true
