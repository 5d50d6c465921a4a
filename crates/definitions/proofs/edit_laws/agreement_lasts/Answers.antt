use Rattle.definitions.proofs.EditLaws.{agreement-lasts}
use Rattle.definitions.proofs.edit_laws.agreement_lasts.Goals as goal

pub returns : goal.returns
returns c = agreement-lasts
