use Rattle.std.proofs.Common.{◌∙◌, ◌∷◌, [], List, ap, ap₂}
use Rattle.cards.specs.declared.carrying.MadeEdit.{MadeEdit}
use Rattle.desk_core.{specs.declared.past.Back.Back, specs.Past.{Past, KeptEdit, with_edits}, specs.Joins.Stored.past_of, proofs.PastSteps.kept-append}
use Rattle.desk_core.proofs.past.Past.push.Goals as goal

pub returns-in-Ok : goal.returns-in-Ok
returns-in-Ok c =
    let inside = c.self.inside in
    let since = inside.since in
    let one : MadeEdit = record { version = c.args.version; edit = c.args.edit } in
    let kept : KeptEdit = record { version = c.args.version; edit = c.args.edit; back = c.args.back.edit; by = c.args.back.by } in
    let past : List KeptEdit → Past = λ edits. record { since = since; edits = edits } in
    ap₂ (λ (made : List MadeEdit) (backs : List Back). past_of since made backs) c.in_ok-push.ensures.items c.in-Ok.ensures.items
    ∙ (ap past (kept-append inside.made.items (one ∷ []) inside.backs.items (c.args.back ∷ []) c.self.invariant) ∙ ap (λ (p : Past). with_edits (kept ∷ []) p) c.self.view_is)
