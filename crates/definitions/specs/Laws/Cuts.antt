-- The cut of a text into fields as a relation (COMPASS 60492600, statement format): what `fields_of_text` computes.
use Rattle.std.specs.{Prelude.{ℕ, ◌≡◌, ◌≢◌, ◌+◌, ◌<◌, ◌⊎◌, List, [], ◌∷◌, ◌++◌, ⊤, length, codes}, List.AllByRecursion}
use Rattle.definitions.specs.{Characters.blank, Pieces.{Piece, Plain, pieces_of}, Fields.{Fields, columns_before_comments}}

-- nothing follows, or a blank
abbrev pub EndsHere : List ℕ → Type 0
EndsHere [] = ⊤
EndsHere (c ∷ cs) = c ≡ blank

-- nothing follows, or no blank
abbrev pub BeginsHere : List ℕ → Type 0
BeginsHere [] = ⊤
BeginsHere (c ∷ cs) = c ≢ blank

-- a run without blanks, as long as it goes
pub record IsUnbroken (word rest : List ℕ) : Type 0 where
  pub unbroken : AllByRecursion (λ c. c ≢ blank) word
  pub ends : EndsHere rest

-- blanks, as many as there are
pub record AreBlanks (gap rest : List ℕ) : Type 0 where
  pub blanks : AllByRecursion (λ c. c ≡ blank) gap
  pub ends : BeginsHere rest

-- the end `rest` of a text begins before column 30
abbrev pub HasBegun : List ℕ → List ℕ → Type 0
HasBegun text rest = length text < length rest + columns_before_comments

-- a location field begins in column 1, or in column 2 behind a blank
abbrev pub IsLead : List ℕ → List ℕ → Type 0
IsLead [] first = BeginsHere first
IsLead (c ∷ []) first = c ≡ blank
IsLead (c ∷ d ∷ cs) first = ⊥

-- no blank stands in a piece, if the piece is no counted item
abbrev pub HasNoBlank : Piece → Type 0
HasNoBlank (Plain text) = AllByRecursion (λ c. c ≢ blank) text
HasNoBlank _ = ⊤

-- all blanks of a field stand in its counted items
abbrev pub HasBlanksInItems : List ℕ → Type 0
HasBlanksInItems field = AllByRecursion HasNoBlank (pieces_of field)

-- the field is the longest front of a text in which no blank stands outside a counted item
abbrev pub IsLongestFront : List ℕ → List ℕ → Type 0
IsLongestFront text field =
    (rest : List ℕ) × (text ≡ field ++ rest) × HasBlanksInItems field
    × ((more less : List ℕ) → rest ≡ more ++ less → HasBlanksInItems (field ++ more) → more ≡ [])

-- the variable field of what begins there: for DIS all of it
abbrev pub IsVariable : List ℕ → List ℕ → List ℕ → Type 0
IsVariable operation begun variable =
    ((operation ≡ codes "DIS") × (variable ≡ begun)) ⊎ ((operation ≢ codes "DIS") × IsLongestFront begun variable)

-- behind the operation: blanks, and a variable field that begins in time, or none
abbrev pub HasVariable : List ℕ → List ℕ → List ℕ → List ℕ → Type 0
HasVariable text operation behind variable =
    (gap : List ℕ) × (begun : List ℕ) × (behind ≡ gap ++ begun) × AreBlanks gap begun
    × ((HasBegun text begun × IsVariable operation begun variable) ⊎ (¬ HasBegun text begun × (variable ≡ [])))

-- behind the location field: blanks, and an operation that begins in time with what follows it, or none
abbrev pub HasOperation : List ℕ → List ℕ → Fields → Type 0
HasOperation text behind fields =
    (gap : List ℕ) × (begun : List ℕ) × (behind ≡ gap ++ begun) × AreBlanks gap begun
    × ((HasBegun text begun × ((rest : List ℕ) × (begun ≡ fields.operation ++ rest) × IsUnbroken fields.operation rest × HasVariable text fields.operation rest fields.variable))
    ⊎ (¬ HasBegun text begun × (fields.operation ≡ []) × (fields.variable ≡ [])))

-- the lawful cut of a text into its three fields
abbrev pub IsCut : List ℕ → Fields → Type 0
IsCut text fields =
    (lead : List ℕ) × (first : List ℕ) × (text ≡ lead ++ first) × IsLead lead first
    × ((rest : List ℕ) × (first ≡ fields.location ++ rest) × IsUnbroken fields.location rest × HasOperation text rest fields)
