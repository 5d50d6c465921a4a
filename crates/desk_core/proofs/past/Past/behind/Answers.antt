use Rattle.std.proofs.Common.{◌≡◌, ◌∙◌, List, length, drop, ap, ap₂, sym}
use Rattle.cards.specs.declared.carrying.MadeEdit.{MadeEdit}
use Rattle.desk_core.{specs.declared.past.Back.Back, specs.Past.{Past, KeptEdit, behind, backs_of}, specs.Carrying.made_in, specs.Joins.Stored.kept_both, proofs.PastSteps.{kept-drop, behind-at, drop-same, backs-kept, made-kept}}
use Rattle.desk_core.proofs.past.Past.behind.Goals as goal

pub returns : goal.returns
returns c =
    let made = c.self.inside.made.items in
    let backs = c.self.inside.backs.items in
    let count = c.count_before-count.result in
    let ms = c.rest.result.now in
    let bs = c.rest-2.result.now in
    let made_left : ms ≡ drop count made = c.rest.ensures ∙ ap (λ (xs : List MadeEdit). drop count xs) c.deref-2.ensures.value in
    let backs_left : bs ≡ drop count backs = c.rest-2.ensures ∙ ap (λ (xs : List Back). drop count xs) c.deref-3.ensures.value in
    let found = behind-at c.args.version count made c.deref.result.now backs c.deref.ensures.value c.self.invariant c.count_before-count.ensures.behind in
    let edits : kept_both ms bs ≡ behind c.args.version c.args.self.now.edits =
    ap₂ (λ (xs : List MadeEdit) (ys : List Back). kept_both xs ys) made_left backs_left ∙ (kept-drop count made backs ∙ (sym found ∙ ap (λ (p : Past). behind c.args.version p.edits) c.self.view_is)) in
    let same : length bs ≡ length ms = ap length backs_left ∙ (drop-same count made backs c.self.invariant ∙ sym (ap length made_left)) in
    record { edits = edits; same = same; made = sym (made-kept ms bs same) ∙ ap made_in edits; backs = sym (backs-kept ms bs same) ∙ ap (λ (kept : List KeptEdit). backs_of kept) edits }
