use Rattle.deck_assembler.{specs.Joins.Walks.whole_of, proofs.FormerLaws.beside-begin, proofs.WalkLaws.none-noted}
use Rattle.deck_assembler.proofs.deck_walk.Making.new.Goals as goal

pub returns-clause-made : goal.returns-clause-made
returns-clause-made c =
    λ known others former is beside.
    let whole = whole_of c.args.view.now known others in
    beside-begin whole (record { lines = c.in_ok-new.field-0; names = c.new-2.result }) former is c.in_ok-new.ensures.stood (c.in_ok-new.ensures.lined whole)
    (none-noted whole c.new-2.result c.new-2.ensures) beside
