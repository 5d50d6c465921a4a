-- The kind of a deck, found statement by statement (COMPASS 60492600, ABS, PERIPH).
use Rattle.std.specs.Prelude.{List, [], ◌∷◌, Option, Some, None, if◌then◌else◌}
use Rattle.definitions.specs.{Fields.Fields, Operations.{Operation, pseudo_instructions, pseudo_among, is_neutral}, DeckKinds.kind_made, declared.deck_kind.DeckKind.DeckKind}

-- the kind that an operation makes, where it is not neutral
abbrev pub kind_made_by : Option Operation → Option DeckKind
kind_made_by operation = if is_neutral operation then None else Some (kind_made operation)

-- the kind that is found, or else that of an operation
abbrev pub or_kind : Option DeckKind → Option Operation → Option DeckKind
or_kind None operation = kind_made_by operation
or_kind (Some kind) operation = Some kind

-- the kind that statements make, newest first, once one of them is not neutral
abbrev pub kind_found : List Fields → Option DeckKind
kind_found [] = None
kind_found (fields ∷ earlier) = or_kind (kind_found earlier) (pseudo_among fields.operation pseudo_instructions)
