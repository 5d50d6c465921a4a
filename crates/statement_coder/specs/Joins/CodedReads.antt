-- What is coded of an operand that was read, once all symbols and literals have their values and all blocks their places.
use Rattle.std.specs.Prelude.{ℕ, ◌≡◌, List, Result}
use Rattle.definitions.specs.{Expressions.Literal, Forms.Form, Lengths.BlockRow, Letters.{in_order, letters_of}, Literals.literal_form, Settled.{Settled, defined}, Settling.View, StatementItems.items_of, declared.letter.Letter.Letter}
use Rattle.statement_coder.specs.{Joins.Items.deck_with, Joins.CodedItems.AreTold, Joins.ReadOperands.IsReadOperand, Joins.Sizings.IsSizing, declared.coded.Coded.Coded, declared.read_operands.ReadOperand.ReadOperand, declared.sizing.Sizing.Sizing}
use Rattle.statement_coder.specs.declared.items.Item as code

-- the fields that are listed, with the list before and after it, are the definitions' of every settled statement that was so read and sized
abbrev pub AreCodedItems : ReadOperand → Sizing → View → (Literal → Result Form Letter) → List BlockRow → Coded → List code.Item → List code.Item → Type 0
AreCodedItems read sizing symbols literals rows coded before after =
    (view : View) (settled : Settled) (all : List Settled) (words : List ℕ) → symbols ≡ (λ name. defined name all) → literals ≡ (λ literal. literal_form words literal) →
    IsSizing read.kind view settled sizing → IsReadOperand read settled →
    AreTold read.kind settled.read.operand sizing coded.items before after (items_of (deck_with read.kind rows all words) settled settled.read.operation)

-- and so are the letters
abbrev pub AreCodedLetters : ReadOperand → Sizing → View → (Literal → Result Form Letter) → List BlockRow → Coded → Type 0
AreCodedLetters read sizing symbols literals rows coded =
    (view : View) (settled : Settled) (all : List Settled) (words : List ℕ) → symbols ≡ (λ name. defined name all) → literals ≡ (λ literal. literal_form words literal) →
    IsSizing read.kind view settled sizing → IsReadOperand read settled →
    coded.letters ≡ in_order (letters_of (deck_with read.kind rows all words) settled)
