use Rattle.std.proofs.{Common.{◌∙◌, ap, sym, rules}, lemmas.Option.slice_get_read}
use Rattle.definitions.specs.Characters.{same_text}
use Rattle.deck_assembler.proofs.BlockLaws.{named-some}
use Rattle.deck_assembler.proofs.block_index.is_at.Goals as goal

pub returns-in-Some : goal.returns-in-Some
returns-in-Some c =
    λ e.
    let found = c.in-Some.ensures.lookup in
    named-some c.args.name.now c.in-Some.row.now _ (search (rules, slice_get_read)) (sym (c.is_same.ensures ∙ ap (same_text c.args.name.now) c.name.ensures) ∙ e)
