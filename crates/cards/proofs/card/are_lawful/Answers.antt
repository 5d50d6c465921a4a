use Rattle.std.{proofs.Common.{ap₂, ◌&&◌, sym, ◌∙◌}, specs.Prelude.is_some, proofs.lemmas.List.Folds.list_all_more}
use Rattle.definitions.specs.Characters.{display_code_of}
use Rattle.cards.proofs.card.are_lawful.Goals as goal

pub loop-c-preserved : goal.loop-c-preserved
loop-c-preserved c =
    ap₂ ◌&&◌ c.loop-c.invariant c.has_display_code-lawful.ensures
    ∙ sym (list_all_more (λ c. is_some (display_code_of c)) c.args.columns.now c.loop-c.c-index 0 c.loop-c-test.true)
