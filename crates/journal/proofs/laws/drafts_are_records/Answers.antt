use Rattle.std.proofs.Common.{ℕ, List, ◌++◌, map, decimal, ap}
use Rattle.session_commands.specs.Lines.{behind_a_blank}
use Rattle.journal.{specs.CheckSums.check_sum, specs.Records.{ended, line_of_change, lines_behind_change, sum_line, text_of_lines}, proofs.DraftTexts.as-line}
use Rattle.journal.proofs.laws.drafts_are_records.Goals as goal

pub returns : goal.returns
returns c = λ version moment by change.
    ap (λ (text : List ℕ). text ++ ended (sum_line (check_sum text))) (as-line (decimal version) moment by (line_of_change change) (text_of_lines (map behind_a_blank (lines_behind_change change))))
