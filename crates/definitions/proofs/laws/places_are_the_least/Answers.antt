use Rattle.definitions.proofs.PlaceLaws.{least_place-behind, least_place-lawful, least_place-least}
use Rattle.definitions.proofs.laws.places_are_the_least.Goals as goal

pub returns-clause-behind : goal.returns-clause-behind
returns-clause-behind c = least_place-behind

pub returns-clause-lawful : goal.returns-clause-lawful
returns-clause-lawful c = least_place-lawful

pub returns-clause-least : goal.returns-clause-least
returns-clause-least c = least_place-least
