-- The listing of a deck (ours).
use Rattle.std.specs.Prelude.{ℕ, ◌+◌, ◌/◌, ◌%◌, List, [], ◌∷◌, ◌++◌, Bool, codes, length, filter, flat_map, reverse, nat_lt, pos, ◌+ℤ◌, unwrap_or, Option, Some, None}
use Rattle.definitions.specs.{Characters.line_feed, Numerals.{octal_of, digits_of, decimal_of}, Cards.Card, Kinds.kind_text, Coding.coded_in, Operations.Operation, Lengths.{BlockRow, base_in}, StatementItems.{Item, part_value}, Words.{Coded, Linking, joined, width_of, cut}, Objects.{Object, Shown}, declared.deck_kind.DeckKind.DeckKind, declared.deck_kind.DeckKind.TheVariants.Periph}
use Rattle.definitions.specs.Operations as op

-- a text and the line feed that ends it
abbrev pub line : List ℕ → List ℕ
line text = text ++ line_feed ∷ []

-- the bits of a form in a listing: the deck stands at 0, and so does each external
abbrev pub unlinked : List BlockRow → Linking
unlinked rows width form = unwrap_or (coded_in width (form.number +ℤ part_value (λ name. pos (base_in name rows)) (λ name. pos 0) form.part)) 0

-- cards, each behind its number in the deck, where so many cards stand before them
abbrev pub card_lines : ℕ → List Card → List ℕ
card_lines before [] = []
card_lines before (card ∷ cards) = line (digits_of 10 5 (before + 1) ++ (codes " " ++ card)) ++ card_lines (before + 1) cards

-- the ERR line of a statement, where it has letters
abbrev pub letters_line : List ℕ → List ℕ
letters_line [] = []
letters_line (letter ∷ letters) = line (codes "  ERR " ++ letter ∷ letters)

-- an octal digit for each three bits
abbrev pub bits_text : ℕ → ℕ → List ℕ
bits_text width bits = octal_of (width / 3) bits

-- a line with the word, the parcel and the bits that stand there
abbrev pub central_line : ℕ → ℕ → ℕ → ℕ → List ℕ
central_line word parcel width bits = line (codes "  " ++ (octal_of 6 word ++ (codes " " ++ (octal_of 1 parcel ++ (codes " " ++ bits_text width bits)))))

-- a line with a peripheral word and its offset
abbrev pub peripheral_line : ℕ → ℕ → List ℕ
peripheral_line word bits = line (codes "  " ++ (octal_of 4 word ++ (codes " " ++ octal_of 4 bits)))

-- central words, a line each, all at parcel 0
abbrev pub data_lines : ℕ → List ℕ → List ℕ
data_lines word [] = []
data_lines word (bits ∷ words) = central_line word 0 60 bits ++ data_lines (word + 1) words

-- peripheral words, a line each
abbrev pub peripheral_lines : ℕ → List ℕ → List ℕ
peripheral_lines word [] = []
peripheral_lines word (bits ∷ words) = peripheral_line word bits ++ peripheral_lines (word + 1) words

-- an instruction has one line, data have one for each word; BSSZ has none
abbrev pub central_lines : Linking → Operation → ℕ → List Item → List ℕ
central_lines linking op.Bssz place fields = []
central_lines linking operation place [] = []
central_lines linking op.Instruction place (bits ∷ fields) = central_line (place / 4) (place % 4) (width_of (bits ∷ fields)) (joined linking (bits ∷ fields))
central_lines linking operation place (bits ∷ fields) = data_lines (place / 4) (cut 60 (width_of (bits ∷ fields) / 60) (joined linking (bits ∷ fields)))

-- in a peripheral deck each word of a statement has a line; BSSZ has none
abbrev pub peripheral_item_lines : Linking → Operation → ℕ → List Item → List ℕ
peripheral_item_lines linking op.Bssz place fields = []
peripheral_item_lines linking operation place fields = peripheral_lines place (cut 12 (width_of fields / 12) (joined linking fields))

-- the lines of a statement's items, by the kind of its deck
abbrev pub item_lines : DeckKind → Linking → Coded → List ℕ
item_lines Periph linking coded = peripheral_item_lines linking coded.settled.read.operation coded.settled.place coded.fields
item_lines kind linking coded = central_lines linking coded.settled.read.operation coded.settled.place coded.fields

-- the lines of a statement's items, where it has any: behind END it has none
abbrev pub shown_lines : DeckKind → Linking → Option Coded → List ℕ
shown_lines kind linking None = []
shown_lines kind linking (Some coded) = item_lines kind linking coded

-- a statement in the listing: its cards, its letters, its items
abbrev pub statement_lines : Object → Shown → List ℕ
statement_lines object shown =
    card_lines shown.statement.before shown.statement.cards ++ (letters_line shown.letters ++ shown_lines object.kind (unlinked object.rows) shown.coded)

-- the BLOCK line: name, base and length
abbrev pub block_line : BlockRow → List ℕ
block_line row = line (codes "BLOCK " ++ (row.name ++ (codes " " ++ (octal_of 8 row.base ++ (codes " " ++ octal_of 8 row.words)))))

-- whether a statement has a letter
abbrev pub is_flagged : Shown → Bool
is_flagged shown = nat_lt 0 (length shown.letters)

-- how many statements are flagged
abbrev pub errors_of : Object → ℕ
errors_of object = length (filter is_flagged object.shown)

-- the listing of a deck unlinked
abbrev pub deck_listing : Object → List ℕ
deck_listing object =
    line (codes "DECK " ++ (object.name ++ (codes " " ++ kind_text object.kind)))
    ++ (flat_map (statement_lines object) (reverse object.shown)
    ++ (flat_map block_line object.rows
    ++ line (codes "ERRORS " ++ decimal_of (errors_of object))))
