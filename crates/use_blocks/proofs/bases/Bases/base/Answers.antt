use Rattle.std.{proofs.Common.{◌≡◌, ◌∙◌, List, ℕ, sym, ap}, specs.Map.values_of}
use Rattle.definitions.{specs.Lengths.base_in, proofs.TextLaws.same_text-true}
use Rattle.use_blocks.proofs.bases.Bases.base.Goals as goal

pub returns-then-is_same : goal.returns-then-is_same
returns-then-is_same c =
    let is : c.args.name.now ≡ c.new.result = same_text-true c.args.name.now c.new.result (sym c.is_same.ensures ∙ c.if-is_same.true) in
    c.self.invariant.1 ∙ ap (λ (n : List ℕ). base_in n (values_of c.self.inside.rows.entries)) (sym (is ∙ c.new.ensures)) ∙ ap (base_in c.args.name.now) c.self.view_is
