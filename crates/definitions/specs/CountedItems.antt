-- Counted items (COMPASS 60492600, data items): a count, one of H A L R C, and that many characters.
use Rattle.std.specs.Prelude.{ℕ, ◌+◌, ◌*◌, List, [], ◌∷◌, Option, Some, None, ◌&&◌, nat_le, length, take, drop, codes, take_while, if◌then◌else◌}
use Rattle.definitions.specs.{Characters.{is_digit, is_among}, Numerals.number_of, declared.item_letter.ItemLetter.ItemLetter, declared.item_letter.ItemLetter.TheVariants.{H, A, L, R, C}}

-- the letter that a character is, if it is one of the five
abbrev pub item_letter_of : ℕ → Option ItemLetter
item_letter_of c =
    if is_among c (codes "H") then Some H else if is_among c (codes "A") then Some A else if is_among c (codes "L") then Some L
    else if is_among c (codes "R") then Some R else if is_among c (codes "C") then Some C else None

-- a counted item: its letter and its characters
pub record CountedItem : Type 0 where
  pub letter : ItemLetter
  pub characters : List ℕ

-- the item and how many characters of the text it takes
pub record CountedSpan : Type 0 where
  pub item : CountedItem
  pub taken : ℕ

-- the item behind its count and its letter, where the count is lawful and the text has its characters
abbrev pub counted_item_with : ℕ → ℕ → List ℕ → Option ItemLetter → Option CountedSpan
counted_item_with digits count rest None = None
counted_item_with digits count rest (Some letter) =
    if nat_le 1 count && nat_le count 100 && nat_le count (length rest)
    then Some (record { item = record { letter = letter; characters = take count rest }; taken = digits + 1 + count })
    else None

-- the item behind its count
abbrev pub counted_item_behind : ℕ → ℕ → List ℕ → Option CountedSpan
counted_item_behind digits count [] = None
counted_item_behind digits count (c ∷ rest) = counted_item_with digits count rest (item_letter_of c)

-- the item that begins a text, if one does
abbrev pub counted_item_at : List ℕ → Option CountedSpan
counted_item_at text =
    let digits = take_while is_digit text in
    if nat_le 1 (length digits) then counted_item_behind (length digits) (number_of 10 digits) (drop (length digits) text) else None

-- how many zero bits have to stand behind the characters: for C two zero characters
abbrev pub zero_bits : ItemLetter → ℕ
zero_bits C = 12
zero_bits _ = 0

-- how many bits an item needs
abbrev pub bits_needed : CountedItem → ℕ
bits_needed item = 6 * length item.characters + zero_bits item.letter
