use Rattle.std.proofs.Common.{◌≡◌, ◌∙◌, ℕ, List, length, take, ap, ap₂, sym, arith}
use Rattle.cards.specs.declared.carrying.MadeEdit.{MadeEdit}
use Rattle.desk_core.{specs.declared.past.Back.Back, specs.Past.{Past, KeptEdit, last_version, without_oldest}, specs.Joins.Stored.kept_both, proofs.PastSteps.{kept-length, kept-drop}}
use Rattle.desk_core.proofs.past.Past.forget.Goals as goal

pub version_of_last-last-requires : goal.version_of_last-last-requires
version_of_last-last-requires c =
    let all = kept-length c.self.inside.made.items c.self.inside.backs.items c.self.invariant in
    let same : length (kept_both c.self.inside.made.items c.self.inside.backs.items) ≡ length c.args.self.now.edits = ap (λ (p : Past). length p.edits) c.self.view_is in
    (c.requires.some, omega (arith, all, same))

pub drop_first-requires : goal.drop_first-requires
drop_first-requires c =
    let all = kept-length c.self.inside.made.items c.self.inside.backs.items c.self.invariant in
    let same : length (kept_both c.self.inside.made.items c.self.inside.backs.items) ≡ length c.args.self.now.edits = ap (λ (p : Past). length p.edits) c.self.view_is in
    omega (arith, all, same)

pub drop_first-requires-2 : goal.drop_first-requires-2
drop_first-requires-2 c =
    let all = kept-length c.self.inside.made.items c.self.inside.backs.items c.self.invariant in
    let same : length (kept_both c.self.inside.made.items c.self.inside.backs.items) ≡ length c.args.self.now.edits = ap (λ (p : Past). length p.edits) c.self.view_is in
    let both = c.self.invariant in
    omega (arith, all, same, both)

pub returns : goal.returns
returns c =
    let inside = c.self.inside in
    let last : c.version_of_last-last.result ≡ last_version inside.since (take c.args.count (kept_both inside.made.items inside.backs.items)) =
    c.version_of_last-last.ensures inside.since inside.backs.items (c.self.invariant ∙ ap length (sym c.deref.ensures.value))
    ∙ ap (λ (made : List MadeEdit). last_version inside.since (take c.args.count (kept_both made inside.backs.items))) c.deref.ensures.value in
    let past : ℕ → List KeptEdit → Past = λ since edits. record { since = since; edits = edits } in
    ap₂ past last (ap₂ (λ (made : List MadeEdit) (backs : List Back). kept_both made backs) c.drop_first.ensures c.drop_first-2.ensures ∙ kept-drop c.args.count inside.made.items inside.backs.items)
    ∙ ap (λ (p : Past). without_oldest c.args.count p) c.self.view_is
