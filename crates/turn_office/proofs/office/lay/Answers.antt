use Rattle.std.proofs.Common.{◌≡◌, [], ◌∷◌, ◌++◌, replicate, Some, sym, ◌∙◌, subst}
use Rattle.atomic_table.specs.Table.{opening}
use Rattle.turn_office.{specs.Rule.{Kept, undealt}, proofs.Seating.opens}
use Rattle.turn_office.proofs.office.lay.Goals as goal

pub new-requires : goal.new-requires
new-requires g c = let object = c.of.result.value in
    let filled : c.push_reserved.new.self.items ≡ Some object ∷ [] = c.push_reserved.ensures.items ∙ (λ i. (c.reserve.ensures.items ∙ c.new-slots.ensures.items) i ++ Some (sym c.of.ensures i) ∷ []) in
    subst (λ slots. Kept g.O.Sequential.allowed c.args.seats object (opening (replicate 66 0) slots (undealt c.args.seats))) (sym filled) (opens g.O.Sequential.allowed c.args.seats object c.requires.1)
