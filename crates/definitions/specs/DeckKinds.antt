-- What is known of a deck by its statements' fields alone: END, the kind of the deck, and the number base
-- (COMPASS 60492600, END, ABS, PERIPH, BASE).
use Rattle.std.specs.{Prelude.{List, [], ◌∷◌, Option, Some, None, Bool, true, false, codes, map, reverse, unwrap_or, if◌then◌else◌}, List.list_any}
use Rattle.definitions.specs.{Characters.same_text, Statements.Statement, Fields.{Fields, fields_of}, Operations.{Operation, Kind, pseudo_instructions, pseudo_among, is_neutral}, declared.deck_kind.DeckKind.DeckKind, declared.deck_kind.DeckKind.TheVariants.Rel, declared.number_base.NumberBase.NumberBase, declared.number_base.NumberBase.TheVariants.{Decimal, Octal}}

-- whether a statement is END
abbrev pub is_end : Fields → Bool
is_end fields = same_text fields.operation (codes "END")

-- whether END is among the statements
abbrev pub has_end : List Statement → Bool
has_end statements = list_any (λ (statement : Statement). is_end (fields_of statement.cards)) statements

-- the statements up to END
abbrev pub up_to_end : List Statement → List Statement
up_to_end [] = []
up_to_end (statement ∷ earlier) = elim (has_end earlier) [ true ↦ up_to_end earlier | false ↦ statement ∷ earlier ]

-- the statements behind END, newest first
abbrev pub behind_end : List Statement → List Statement
behind_end [] = []
behind_end (statement ∷ earlier) = elim (has_end earlier) [ true ↦ statement ∷ behind_end earlier | false ↦ [] ]

-- the kind that ABS and PERIPH make; any other operation leaves REL
abbrev pub kind_made : Option Operation → DeckKind
kind_made (Some (Kind kind)) = kind
kind_made _ = Rel

-- the kind of a deck, whose statements are read oldest first
abbrev pub kind_of : List Fields → DeckKind
kind_of [] = Rel
kind_of (fields ∷ later) =
    let operation = pseudo_among fields.operation pseudo_instructions in
    if is_neutral operation then kind_of later else kind_made operation

-- the kind of a deck, from its statements newest first
abbrev pub kind_of_statements : List Statement → DeckKind
kind_of_statements statements = kind_of (map (λ (statement : Statement). fields_of statement.cards) (reverse statements))

-- a BASE that is accepted
abbrev pub number_base_set : Fields → Option NumberBase
number_base_set fields =
    if same_text fields.operation (codes "BASE")
    then (if same_text fields.variable (codes "O") then Some Octal else if same_text fields.variable (codes "D") then Some Decimal else None)
    else None

-- the number base behind statements, newest first
abbrev pub number_base_after : List Fields → NumberBase
number_base_after [] = Decimal
number_base_after (fields ∷ earlier) = unwrap_or (number_base_set fields) (number_base_after earlier)
