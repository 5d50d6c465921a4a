use Rattle.deck_assembler.proofs.KeptLaws.{line-coded}
use Rattle.deck_assembler.proofs.statement_lines.coded_line.Goals as goal

pub returns-clause-line : goal.returns-clause-line
returns-clause-line c =
    λ rows view settled before told operation block is.
    line-coded c.args.kind rows view settled c.args.sizing.now c.args.told before c.args.lists.now.items.items c.line_fields.new.lists told
    (record { operation = c.args.operation; block = c.args.block; place = c.place.result; end = c.end.result; begins_run = c.begins_run.result; fields = c.in_ok-fields.fields })
    operation block c.place.ensures c.end.ensures c.begins_run.ensures is (c.in_ok-fields.ensures.kept settled.read.operand c.args.sizing.now before told is.are_told) c.in_ok-fields.ensures.zeros
