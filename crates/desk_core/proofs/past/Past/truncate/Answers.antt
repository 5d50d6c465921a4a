use Rattle.std.proofs.Common.{◌∙◌, List, take, ap, ap₂}
use Rattle.cards.specs.declared.carrying.MadeEdit.{MadeEdit}
use Rattle.desk_core.{specs.declared.past.Back.Back, specs.Past.{Past, KeptEdit}, specs.Joins.Stored.past_of, proofs.PastSteps.kept-take}
use Rattle.desk_core.proofs.past.Past.truncate.Goals as goal

pub returns : goal.returns
returns c =
    let inside = c.self.inside in
    let since = inside.since in
    let past : List KeptEdit → Past = λ edits. record { since = since; edits = edits } in
    ap₂ (λ (made : List MadeEdit) (backs : List Back). past_of since made backs) c.truncate.ensures.items c.truncate-2.ensures.items
    ∙ (ap past (kept-take c.args.count inside.made.items inside.backs.items) ∙ ap (λ (p : Past). record p { edits = take c.args.count p.edits }) c.self.view_is)
