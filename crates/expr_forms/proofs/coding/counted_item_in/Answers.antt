use Rattle.std.proofs.{Common.{◌≤◌, ◌*◌, ◌/◌, ◌∙◌, sym, ap, Some, arith}, Math.Nat.mod-eq_of_lt}
use Rattle.definitions.specs.CountedItems.{bits_needed}
use Rattle.expr_forms.{specs.Joins.CodedItems.in_places, proofs.CodedLaws.{counted_item_in-at_end, counted_item_in-in_front, shifted-small}}
use Rattle.expr_forms.proofs.coding.counted_item_in.Goals as goal

pub returns-then-is_at_end : goal.returns-then-is_at_end
returns-then-is_at_end c =
    let room : bits_needed c.args.item.now ≤ 6 * (c.args.width / 6) = omega arith in
    ap Some c.number_in_places-number.ensures
    ∙ sym (counted_item_in-at_end c.args.width c.args.item.now room (cc))

pub returns-else-is_at_end : goal.returns-else-is_at_end
returns-else-is_at_end c =
    let room : bits_needed c.args.item.now ≤ 6 * (c.args.width / 6) = omega arith in
    let small = shifted-small c.args.width (in_places (c.args.width / 6) c.args.item.now) c.requires in
    rw (c.number_in_places-number.ensures, mod-eq_of_lt small) (sym (counted_item_in-in_front c.args.width c.args.item.now room (cc)))
