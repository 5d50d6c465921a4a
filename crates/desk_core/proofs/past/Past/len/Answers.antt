use Rattle.std.proofs.Common.{◌≡◌, ◌∙◌, length, ap, sym, arith}
use Rattle.desk_core.{specs.Past.Past, proofs.PastSteps.kept-length}
use Rattle.desk_core.proofs.past.Past.len.Goals as goal

pub returns : goal.returns
returns c =
    let counted : c.len.result ≡ length c.self.inside.made.items = omega arith in
    counted ∙ (sym (kept-length c.self.inside.made.items c.self.inside.backs.items c.self.invariant) ∙ ap (λ (p : Past). length p.edits) c.self.view_is)
