use Rattle.definitions.proofs.CentralLaws.{central_of-some}
use Rattle.definitions.proofs.field_laws.instructions_fill_parcels.Goals as goal

pub returns-clause-digits : goal.returns-clause-digits
returns-clause-digits c = λ base operation subfields instruction e. let whole = central_of-some base operation subfields instruction e in whole.room

pub returns-clause-parcels : goal.returns-clause-parcels
returns-clause-parcels c = λ base operation subfields instruction e. let whole = central_of-some base operation subfields instruction e in whole.fills
