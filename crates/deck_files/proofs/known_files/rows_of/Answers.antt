use Rattle.std.proofs.Common.{◌∙◌, Some, ap, sym}
use Rattle.deck_files.{specs.declared.known_rows.Known.Known, specs.Files.with_named, proofs.RowSteps.{rows-cut, rows-long, rows-no_row, rows-row}}
use Rattle.deck_files.proofs.known_files.rows_of.Goals as goal

-- a line that is no row
pub returns-in_default : goal.returns-in_default
returns-in_default c = record {
  rows = rows-no_row c.args.last c.loop-line.rows.files _ _ c.next_line.new.line c.as_slice.result.now _ c.in-Line.ensures.reads c.as_slice.ensures.value c.in_default.ensures c.loop-line.invariant;
}

-- a row
pub loop-line-preserved : goal.loop-line-preserved
loop-line-preserved c =
    let files = c.loop-line.rows.files in
    rows-row c.args.last files c.add.new.self.files _ _ c.next_line.new.line c.as_slice.result.now c.in-Some.row _ c.in-Line.ensures.reads c.as_slice.ensures.value c.in-Some.ensures
    (c.in_ok-add-in-Line.ensures.added ∙ ap (λ (known : Known). with_named c.in-Some.row.name (Some known) files) c.up_to.ensures) c.loop-line.invariant

-- a line that may be cut
pub returns-in-Cut : goal.returns-in-Cut
returns-in-Cut c = record { rows = sym (rows-cut c.args.last c.loop-line.rows.files _ _ c.next_line.new.line c.in-Cut.ensures.reads) ∙ c.loop-line.invariant }

-- a line that is too long
pub returns-in-TooLong : goal.returns-in-TooLong
returns-in-TooLong c = record { rows = sym (rows-long c.args.last c.loop-line.rows.files _ _ c.next_line.new.line c.in-TooLong.ensures.reads) ∙ c.loop-line.invariant }
