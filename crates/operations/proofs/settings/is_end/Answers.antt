use Rattle.std.proofs.Common.{codes, length, ap, arith}
use Rattle.operations.proofs.SettingLaws.{other_length}
use Rattle.operations.proofs.settings.is_end.Goals as goal

pub returns-in_default : goal.returns-in_default
returns-in_default c fields is =
    let size = ap length is in
    let shorter = c.in_default.len_below in
    other_length fields.operation (codes "END") (λ same. omega arith)

pub returns-in_default-5 : goal.returns-in_default-5
returns-in_default-5 c fields is =
    let size = ap length is in
    let longer = c.in_default.len_at_least in
    other_length fields.operation (codes "END") (λ same. omega arith)
