use Rattle.std.proofs.Common.{◌∙◌, sym}
use Rattle.definitions.proofs.TextLaws.{same_text-true}
use Rattle.deck_assembler.proofs.same_bindings.is_name_same.Goals as goal

pub returns : goal.returns
returns c = λ e. same_text-true c.args.name.now c.args.other.now (sym c.is_same.ensures ∙ e)
