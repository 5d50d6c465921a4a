use Rattle.std.proofs.Common.{◌≤◌, ◌+◌, ◌∙◌, List, length, take, drop, map, ap, sym, subst}
use Rattle.statement_coder.specs.{Joins.Items.item_as, declared.items.Item.Item}
use Rattle.deck_objects.specs.declared.lines.LineFields.{LineFields}
use Rattle.deck_assembler.{specs.Joins.KeptFields.AreKeptAs, proofs.CopiedLaws.listed-put}
use Rattle.deck_assembler.proofs.line_fields.linked_fields.Goals as goal

pub returns-in-Ok-clause-kept : goal.returns-in-Ok-clause-kept
returns-in-Ok-clause-kept c =
    λ kind operand sizing lists told same whole its.
    let before = c.args.items.now.items in
    let some = c.args.instruction.now in
    let there = listed-put before c.put_listed.new.items.items some c.in-Ok.ensures.put in
    subst (λ (f : LineFields). AreKeptAs kind operand sizing f lists told) (sym c.in-Ok.ensures.listed) (
      subst (λ (l : List Item). length before + length some ≤ length l) (sym its) there.0,
      ap (λ (l : List Item). map item_as (take (length some) (drop (length before) l))) its ∙ ap (map item_as) there.1 ∙ same ∙ sym whole,
    )
