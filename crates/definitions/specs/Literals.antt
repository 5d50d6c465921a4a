-- Literals: the words behind equals signs, each distinct word once, in order of first use (COMPASS 60492600, literals; that they come last is ours).
use Rattle.std.specs.{Prelude.{ℕ, ◌+◌, ◌==◌, List, [], ◌∷◌, ◌++◌, Option, Some, None, Result, Ok, Err, ◌||◌, nat_le, nat_lt, length, flat_map, filter_map, unwrap_or, ℤ, pos, neg_ℤ, if◌then◌else◌}, List.list_any}
use Rattle.definitions.specs.{Symbols.{Number, Value, TooGreat}, Expressions.{Sign, MinusSign, Literal, OfNumber, OfCountedItem, Element, ALiteral, Expression, elements_of}, Forms.{Form, Added, Block}, Coding.{coded_in, counted_item_in}, Matching.{Field, NoField, OfK, OfN}, Operands.{Operand, CentralOperand, WordsOperand, BitsOperand, Datum, ExpressionWord, BitField}, Settled.Settled, Blocks.literals_block, declared.letter.Letter.Letter}
use Rattle.definitions.specs.declared.letter.Letter.TheVariants as letter

-- a number with its sign
abbrev pub signed_number : Sign → ℕ → ℤ
signed_number MinusSign n = neg_ℤ (pos n)
signed_number sign n = pos n

-- a signed number in a word of 60 bits; zero where it is too great
abbrev pub literal_number_bits : Sign → Number → ℕ
literal_number_bits sign (Value n) = unwrap_or (coded_in 60 (signed_number sign n)) 0
literal_number_bits sign TooGreat = 0

-- the word that DATA would make; of a number that is too great the zero word
abbrev pub literal_word : Literal → ℕ
literal_word (OfNumber sign number) = literal_number_bits sign number
literal_word (OfCountedItem item) = unwrap_or (counted_item_in 60 item) 0

-- the literal that an element is, if it is one
abbrev pub literal_in : Element → Option Literal
literal_in (ALiteral literal) = Some literal
literal_in _ = None

-- the literals of an expression from left to right
abbrev pub literals_in : Expression → List Literal
literals_in e = filter_map literal_in (elements_of e)

-- the literals in K or n
abbrev pub field_literals : Field → List Literal
field_literals NoField = []
field_literals (OfK e) = literals_in e
field_literals (OfN e) = literals_in e

-- the literals in a word of CON; DATA has none
abbrev pub datum_literals : Datum → List Literal
datum_literals (ExpressionWord e) = literals_in e
datum_literals _ = []

-- the literals in a field of a VFD, if it has an expression
abbrev pub value_literals : Option Expression → List Literal
value_literals None = []
value_literals (Some e) = literals_in e

-- the literals of an operand from left to right; a faulty operand has none
abbrev pub operand_literals : Operand → List Literal
operand_literals (CentralOperand instruction) = field_literals instruction.field
operand_literals (WordsOperand data') = flat_map datum_literals data'
operand_literals (BitsOperand fields) = flat_map (λ (field : BitField). value_literals field.value) fields
operand_literals _ = []

-- how many words the literals block has at most
abbrev pub most_literals : ℕ
most_literals = 131072

-- the words with this one at the end, if it is not yet among them and there is room
abbrev pub with_word : ℕ → List ℕ → List ℕ
with_word word words = if list_any (λ other. other == word) words || nat_le most_literals (length words) then words else words ++ word ∷ []

-- the words with those of the literals that follow
abbrev pub with_literals : List Literal → List ℕ → List ℕ
with_literals [] words = words
with_literals (literal ∷ literals) words = with_literals literals (with_word (literal_word literal) words)

-- the words of the literals block, for statements newest first
abbrev pub literal_words : List Settled → List ℕ
literal_words [] = []
literal_words (settled ∷ earlier) = with_literals (operand_literals settled.read.operand) (literal_words earlier)

-- how many of the words stand in front of this one
abbrev pub offset_of : ℕ → List ℕ → ℕ
offset_of word [] = 0
offset_of word (other ∷ words) = if other == word then 0 else 1 + offset_of word words

-- where a word stands in the literals block; behind its end there is none
abbrev pub offset_form : ℕ → Result Form Letter
offset_form offset = if nat_lt offset most_literals then Ok (record { number = pos offset; part = Some (Added (Block literals_block)) }) else Err letter.A

-- where the word of a literal stands; a number that is too great is A
abbrev pub literal_form : List ℕ → Literal → Result Form Letter
literal_form words (OfNumber sign TooGreat) = Err letter.A
literal_form words literal = offset_form (offset_of (literal_word literal) words)
