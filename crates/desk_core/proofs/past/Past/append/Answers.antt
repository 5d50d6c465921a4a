use Rattle.std.proofs.Common.{◌∙◌, List, ap, ap₂}
use Rattle.cards.specs.declared.carrying.MadeEdit.{MadeEdit}
use Rattle.desk_core.{specs.declared.past.Back.Back, specs.Past.{Past, KeptEdit, with_edits}, specs.Joins.Stored.{past_of, kept_both}, proofs.PastSteps.kept-append}
use Rattle.desk_core.proofs.past.Past.append.Goals as goal

pub returns-in-Ok : goal.returns-in-Ok
returns-in-Ok c =
    let inside = c.self.inside in
    let since = inside.since in
    let past : List KeptEdit → Past = λ edits. record { since = since; edits = edits } in
    ap₂ (λ (made : List MadeEdit) (backs : List Back). past_of since made backs) c.in_ok-append.ensures.items c.in-Ok.ensures.items
    ∙ (ap past (kept-append inside.made.items c.args.made.items inside.backs.items c.args.backs.items c.self.invariant)
    ∙ ap (λ (p : Past). with_edits (kept_both c.args.made.items c.args.backs.items) p) c.self.view_is)
