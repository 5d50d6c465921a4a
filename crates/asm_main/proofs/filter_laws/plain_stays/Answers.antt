use Rattle.asm_main.proofs.FilterSteps.{plain-stays}
use Rattle.asm_main.proofs.filter_laws.plain_stays.Goals as goal

pub returns : goal.returns
returns c = plain-stays
