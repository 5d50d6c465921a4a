-- The letters of a statement, once each in alphabetical order (ours).
use Rattle.std.specs.Prelude.{ℕ, List, [], ◌∷◌, ◌++◌, Option, Some, None, codes, flat_map, filter}
use Rattle.definitions.specs.{Characters.is_among, Operations.Operation, Operands.{Operand, NamesOperand}, Settled.{Settled, defined}, Entries.entry_fault, StatementItems.{Item, Context, operand_items}, declared.deck_kind.DeckKind.DeckKind, declared.deck_kind.DeckKind.TheVariants.Periph, declared.letter.Letter.Letter}
use Rattle.definitions.specs.Operations as op
use Rattle.definitions.specs.declared.letter.Letter.TheVariants as letter

-- a letter as it is written
abbrev pub letter_text : Letter → List ℕ
letter_text letter.A = codes "A"
letter_text letter.C = codes "C"
letter_text letter.D = codes "D"
letter_text letter.L = codes "L"
letter_text letter.O = codes "O"
letter_text letter.R = codes "R"
letter_text letter.U = codes "U"
letter_text letter.V = codes "V"
letter_text letter.Z = codes "Z"

-- letters as they are written
abbrev pub texts : List Letter → List ℕ
texts letters = flat_map letter_text letters

-- the letters that are among these, in alphabetical order
abbrev pub in_order : List Letter → List ℕ
in_order letters = filter (λ c. is_among c (texts letters)) (codes "ACDLORUVZ")

-- the letters of a name in ENTRY; a name that is not lawful is V
abbrev pub name_fault : List Settled → Option (List ℕ) → List Letter
name_fault settled None = letter.V ∷ []
name_fault settled (Some name) = entry_fault (defined name settled)

-- the letters that the names of an ENTRY add; a peripheral deck has none of them
abbrev pub entry_letters : DeckKind → List Settled → Operation → Operand → List Letter
entry_letters Periph settled operation operand = []
entry_letters kind settled op.Entry (NamesOperand names) = flat_map (name_fault settled) names
entry_letters kind settled operation operand = []

-- all letters of a statement
abbrev pub letters_of : Context → Settled → List Letter
letters_of context settled =
    settled.letters ++ (entry_letters context.kind context.settled settled.read.operation settled.read.operand
    ++ flat_map (λ (bits : Item). bits.letters) (operand_items context settled settled.read.operand))
