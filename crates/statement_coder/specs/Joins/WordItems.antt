-- Fields as a list has them: what fills several words is listed word by word.
use Rattle.std.specs.Prelude.{ℕ, ◌/◌, ◌%◌, ◌^◌, ◌==◌, List, [], ◌∷◌, Bool, ◌&&◌, nat_lt, map, flat_map, if◌then◌else◌}
use Rattle.definitions.specs.{Kinds.word_bits, Operands.{Operand, WordsOperand, TextOperand}, StatementItems.{Content, Known, Item, known}, Words.cut, declared.deck_kind.DeckKind.DeckKind, declared.letter.Letter.Letter}

-- whether bits fill several words whole
abbrev pub is_several : ℕ → ℕ → ℕ → Bool
is_several word width bits = nat_lt word width && (width % word == 0) && nat_lt bits (2 ^ width)

-- each of these words as a field
abbrev pub known_words : ℕ → List ℕ → List Item
known_words word words = map (known word) words

-- a field, by its letters and its content
abbrev pub words_of : ℕ → Item → List Letter → Content → List Item
words_of word field [] (Known bits) = if is_several word field.width bits then known_words word (cut word (field.width / word) bits) else field ∷ []
words_of word field letters content = field ∷ []

-- a field without letters whose known bits fill several words is listed word by word, every other as it is
abbrev pub in_words : ℕ → Item → List Item
in_words word field = words_of word field field.letters field.content

-- the fields of an operand as a list has them: those of DATA, CON and DIS in words, those of a VFD as they are
abbrev pub listed_fields : DeckKind → Operand → List Item → List Item
listed_fields kind (WordsOperand data') fields = flat_map (in_words (word_bits kind)) fields
listed_fields kind (TextOperand count characters) fields = flat_map (in_words (word_bits kind)) fields
listed_fields kind _ fields = fields
