use Rattle.definitions.proofs.RiseLaws.{settle-behind, settle-ordered, settle-origin, places-within, ends-within, run_end-behind}
use Rattle.definitions.proofs.place_laws.places_rise.Goals as goal

pub returns-clause-behind : goal.returns-clause-behind
returns-clause-behind c = settle-behind

pub returns-clause-ordered : goal.returns-clause-ordered
returns-clause-ordered c = settle-ordered

pub returns-clause-origin : goal.returns-clause-origin
returns-clause-origin c = settle-origin

pub returns-clause-places : goal.returns-clause-places
returns-clause-places c = places-within

pub returns-clause-ends : goal.returns-clause-ends
returns-clause-ends c = ends-within

pub returns-clause-runs : goal.returns-clause-runs
returns-clause-runs c = run_end-behind
