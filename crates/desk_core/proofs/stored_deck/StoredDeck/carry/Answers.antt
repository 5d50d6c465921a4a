use Rattle.std.proofs.Common.{◌∙◌, sym}
use Rattle.desk_core.{specs.Joins.Edits.{first_fault, edited_by}, specs.Past.{backs_of, behind}, proofs.CardCounts.edited_by-few, proofs.PastLaws.{past-behind, backs-apply}}
use Rattle.desk_core.proofs.stored_deck.StoredDeck.carry.Goals as goal

pub seen_at-count-requires-clause-applies : goal.seen_at-count-requires-clause-applies
seen_at-count-requires-clause-applies c =
    let inside = c.self.inside in
    backs-apply (behind c.args.seen inside.past.edits) inside.cards (past-behind c.args.seen inside.past.edits inside.cards c.self.invariant.led)

-- the edits apply to the cards that were seen
pub carry-requires-clause-applies : goal.carry-requires-clause-applies
carry-requires-clause-applies c =
    let inside = c.self.inside in
    let held = inside.cards in
    let backs = backs_of (behind c.args.seen inside.past.edits) in
    let apply = backs-apply (behind c.args.seen inside.past.edits) held (past-behind c.args.seen inside.past.edits held c.self.invariant.led) in
    let seen = edited_by backs held in
    let counted = c.seen_at-count.ensures.count in
    (seen, edited_by-few backs held apply c.self.invariant.few, sym (c.first_fault.ensures seen (sym counted)) ∙ c.in_default.is)
