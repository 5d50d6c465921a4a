use Rattle.std.proofs.Common.{codes, arith}
use Rattle.operations.proofs.SettingLaws.{other_length}
use Rattle.operations.proofs.settings.is_base.Goals as goal

pub returns-in_default : goal.returns-in_default
returns-in_default c = other_length c.args.operation.now (codes "BASE") (λ same. let shorter = c.in_default.len_below in omega arith)

pub returns-in_default-6 : goal.returns-in_default-6
returns-in_default-6 c = other_length c.args.operation.now (codes "BASE") (λ same. let longer = c.in_default.len_at_least in omega arith)
