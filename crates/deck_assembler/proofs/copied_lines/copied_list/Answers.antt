use Rattle.deck_objects.specs.declared.lines.LineFields.TheVariants as kept
use Rattle.deck_assembler.proofs.CopiedLaws.{alike-put}
use Rattle.deck_assembler.proofs.copied_lines.copied_list.Goals as goal

pub returns-clause-copied : goal.returns-clause-copied
returns-clause-copied c =
    alike-put kept.Listed c.args.others.now c.args.items.now.items c.put_listed.new.items.items c.some_of.result.now c.args.first c.args.count c.in_ok-fields.fields c.in_ok-fields.ensures.put c.some_of.ensures c.in_ok-fields.ensures.listed
