use Rattle.std.proofs.Common.{◌∙◌, sym}
use Rattle.deck_assembler.proofs.EntryTables.{row-new, row-there}
use Rattle.deck_assembler.proofs.entry_names.keep_entry.Goals as goal

pub returns-then-contains_key-clause-kept : goal.returns-then-contains_key-clause-kept
returns-then-contains_key-clause-kept c = row-there c.args.entries.now.entries c.args.code c.args.entry (sym c.contains_key.ensures ∙ c.if-contains_key.true)

pub returns-clause-kept : goal.returns-clause-kept
returns-clause-kept c = c.in_ok-insert.ensures.entries ∙ row-new c.args.entries.now c.args.code c.args.entry (sym c.contains_key.ensures ∙ c.if-contains_key.false)
