-- What is read in DATA has no literals, and what is read in ENTRY and EXT are lawful names.
use Rattle.std.{proofs.Common.{◌≡◌, Bool, true, false, List, [], ◌∷◌, ◌++◌, Option, Some, None, refl, sym, ap, ap₂, ◌∙◌, if◌then◌else◌}, specs.Prelude.{flat_map, map, option_map}, specs.List.AllByRecursion}
use Rattle.definitions.specs.{Expressions.{Literal, Sign, NoSign, PlusSign, MinusSign}, Literals.datum_literals, Operands.{Datum, NumberWord, data_word, all_read, onto_all, linked_name}, Pieces.{Piece, Plain, IsMark, IsCountedItem, Plus, Minus}, Symbols.{Number, number_read, is_linked_name}, declared.number_base.NumberBase.NumberBase}
use Rattle.statement_coder.specs.Joins.Readings.{IsLawfulName}

-- the literals of what may be there
abbrev literals_of : Option Datum → List Literal
literals_of None = []
literals_of (Some datum) = datum_literals datum

abbrev literals_of_all : Option (List Datum) → List Literal
literals_of_all None = []
literals_of_all (Some words) = flat_map datum_literals words

number_word-bare : (sign : Sign) (number : Option Number) → literals_of (option_map (NumberWord sign) number) ≡ []
number_word-bare sign None = refl
number_word-bare sign (Some number) = refl

-- a subfield of DATA has none
data_word-bare : (base : NumberBase) (pieces : List Piece) → literals_of (data_word base pieces) ≡ []
data_word-bare base (Plain text ∷ []) = number_word-bare NoSign (number_read base text)
data_word-bare base (IsMark Plus ∷ Plain text ∷ []) = number_word-bare PlusSign (number_read base text)
data_word-bare base (IsMark Minus ∷ Plain text ∷ []) = number_word-bare MinusSign (number_read base text)
data_word-bare base (IsCountedItem item ∷ []) = refl
data_word-bare base pieces = refl

onto_all-bare : (datum : Option Datum) (words : Option (List Datum)) → literals_of datum ≡ [] → literals_of_all words ≡ [] → literals_of_all (onto_all datum words) ≡ []
onto_all-bare None words d w = refl
onto_all-bare (Some datum) None d w = refl
onto_all-bare (Some datum) (Some words) d w = ap₂ (λ (a b : List Literal). a ++ b) d w

all_read-bare : (base : NumberBase) (subfields : List (List Piece)) → literals_of_all (all_read (data_word base) subfields) ≡ []
all_read-bare base [] = refl
all_read-bare base (subfield ∷ subfields) = onto_all-bare (data_word base subfield) (all_read (data_word base) subfields) (data_word-bare base subfield) (all_read-bare base subfields)

-- the words of DATA have no literals
pub data-lawful : (base : NumberBase) (subfields : List (List Piece)) (words : List Datum) → all_read (data_word base) subfields ≡ Some words → flat_map datum_literals words ≡ []
data-lawful base subfields words e = sym (ap literals_of_all e) ∙ all_read-bare base subfields

linked_name-lawful : (pieces : List Piece) → IsLawfulName (linked_name pieces)
linked_name-lawful (Plain text ∷ []) = by (is_linked_name text) refl
  where
    by : (b : Bool) → is_linked_name text ≡ b → IsLawfulName (if b then Some text else None)
    by true e = e
    by false e = tt
linked_name-lawful pieces = tt

-- the names of ENTRY and EXT are lawful
pub names-lawful : (subfields : List (List Piece)) → AllByRecursion IsLawfulName (map linked_name subfields)
names-lawful [] = tt
names-lawful (subfield ∷ subfields) = (linked_name-lawful subfield, names-lawful subfields)
