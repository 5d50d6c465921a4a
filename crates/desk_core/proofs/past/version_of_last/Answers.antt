use Rattle.std.proofs.Common.{◌≡◌, ◌∙◌, ◌-◌, ℕ, suc, take, sym, ap, subst, arith}
use Rattle.cards.specs.declared.carrying.MadeEdit.{MadeEdit}
use Rattle.desk_core.{specs.Past.last_version, specs.Joins.Stored.kept_both, proofs.PastSteps.last-is}
use Rattle.desk_core.proofs.past.version_of_last.Goals as goal

pub returns : goal.returns
returns c = λ since backs same.
    let made = c.args.made.now in
    let one = c.index-made-count.result in
    let some = c.requires.0 in
    let few = c.requires.1 in
    let count : suc (c.args.count - 1) ≡ c.args.count = omega (arith, some) in
    let last : last_version since (take c.args.count (kept_both made backs)) ≡ one.version =
    subst (λ (n : ℕ). last_version since (take n (kept_both made backs)) ≡ one.version) count (last-is since (c.args.count - 1) made backs one same (omega (arith, some, few)) c.index-made-count.is) in
    sym (last ∙ ap (λ (m : MadeEdit). m.version) c.index-made-count.is)
