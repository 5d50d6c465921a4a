use Rattle.std.proofs.Common.{ap, refl, sym, ◌∙◌}
use Rattle.session_line.specs.{Answers.called, LoadingAll.{added_all, not_added, refusal_to_add}}
use Rattle.session_line.specs.declared.answers.Told.TheVariants as told
use Rattle.session_line.proofs.loading_all.tell_adds.Goals as goal

pub returns-in-Some-clause-tells : goal.returns-in-Some-clause-tells
returns-in-Some-clause-tells g c = not_added c.in-Some.refusal (sym (c.in-Some.ensures.refusal ∙ ap (refusal_to_add c.args.rows.now) c.as_slice.ensures.value)) refl c.called.ensures

pub returns-in-Ok-clause-tells : goal.returns-in-Ok-clause-tells
returns-in-Ok-clause-tells g c =
    added_all c.in-Ok.lines.items (sym (c.in_default.ensures.refusal ∙ ap (refusal_to_add c.args.rows.now) c.as_slice.ensures.value)) c.in-Ok.ensures.adds (c.called-in-Ok.ensures ∙ ap (λ lines. called (told.Decks c.args.version lines)) c.new.ensures)
