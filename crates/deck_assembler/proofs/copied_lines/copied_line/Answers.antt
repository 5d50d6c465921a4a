use Rattle.std.proofs.Common.{refl}
use Rattle.deck_assembler.proofs.CopiedLaws.{line-copied}
use Rattle.deck_assembler.proofs.copied_lines.copied_line.Goals as goal

pub returns-clause-line : goal.returns-clause-line
returns-clause-line c =
    λ kind old_rows rows coded is named.
    let line = c.args.line.now in
    line-copied kind old_rows rows c.args.others.now c.copied_fields.new.lists line
    (record { operation = line.operation; block = c.args.block; place = line.place; end = line.end; begins_run = line.begins_run; fields = c.in_ok-fields.fields })
    coded refl refl refl refl c.in_ok-fields.ensures.copied named is
