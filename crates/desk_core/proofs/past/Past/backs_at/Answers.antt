use Rattle.std.proofs.Common.{◌≡◌, ◌∙◌, ◌-◌, ℕ, List, take, drop, ap, ap₂, subst}
use Rattle.desk_core.{specs.declared.past.Back.Back, specs.Past.{Past, behind, change_at, backs_of}, specs.Joins.Stored.{kept_both, backs_from}, proofs.PastSteps.{behind-at, backs-between}}
use Rattle.desk_core.proofs.past.Past.backs_at.Goals as goal

pub returns : goal.returns
returns c =
    let made = c.self.inside.made.items in
    let backs = c.self.inside.backs.items in
    let first = c.count_before-first.result in
    let next = c.count_before-next.result in
    let before : behind (c.args.version - 1) (kept_both made backs) ≡ drop first (kept_both made backs) =
    subst (λ (v : ℕ). behind v (kept_both made backs) ≡ drop first (kept_both made backs)) c.saturating_sub.ensures
    (behind-at c.saturating_sub.result first made c.deref.result.now backs c.deref.ensures.value c.self.invariant c.count_before-first.ensures.behind) in
    let after = behind-at c.args.version next made c.deref-2.result.now backs c.deref-2.ensures.value c.self.invariant c.count_before-next.ensures.behind in
    let low = rw c.deref.ensures.value at c.count_before-first.ensures.few in
    let high = rw c.deref-2.ensures.value at c.count_before-next.ensures.few in
    let found : c.front.result.now ≡ take (next - first) (drop first backs) =
    c.front.ensures ∙ ap₂ (λ (n : ℕ) (b : List Back). take n b) c.saturating_sub-2.ensures (c.rest.ensures ∙ ap (λ (b : List Back). drop first b) c.deref-3.ensures.value) in
    ap (λ (b : List Back). backs_from b) found
    ∙ (backs-between c.args.version first next made backs c.self.invariant low high before after ∙ ap (λ (p : Past). backs_of (change_at c.args.version p.edits)) c.self.view_is)
