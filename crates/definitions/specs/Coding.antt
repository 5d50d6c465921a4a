-- How a value and an item stand in a field of so many bits (COMPASS 60492600, data generation; negative numbers by ones' complement).
use Rattle.std.specs.Prelude.{ℕ, ◌+◌, ◌-◌, ◌*◌, ◌/◌, ◌^◌, List, ◌++◌, Option, Some, None, Bool, nat_le, length, replicate, ℤ, pos, negsuc, unsigned_abs, if◌then◌else◌}
use Rattle.definitions.specs.{Characters.blank, CountedItems.{CountedItem, bits_needed}, Forms.characters_number, declared.item_letter.ItemLetter.ItemLetter, declared.item_letter.ItemLetter.TheVariants.{H, A, L, R, C}}

-- a value fits where its size is at most the greatest of the field
abbrev pub fits : ℕ → ℤ → Bool
fits width value = nat_le (unsigned_abs value) (2 ^ width - 1)

-- a value that fits, as the field holds it: a negative one is complemented
abbrev pub coded : ℕ → ℤ → ℕ
coded width (pos n) = n
coded width (negsuc n) = 2 ^ width - 1 - (n + 1)

-- the value in the field, if it fits
abbrev pub coded_in : ℕ → ℤ → Option ℕ
coded_in width value = if fits width value then Some (coded width value) else None

-- so many blanks
abbrev pub blanks : ℕ → List ℕ
blanks count = replicate count blank

-- characters at the left of a field of so many bits, and zero bits behind them
abbrev pub at_left : ℕ → List ℕ → ℕ
at_left width characters = characters_number characters * 2 ^ (width - 6 * length characters)

-- the characters of an item in a field of so many bits, as its letter says: H at the left and A at the right, filled with blanks;
-- L at the left and R at the right, filled with zero bits; C as L
abbrev pub justified : ItemLetter → ℕ → List ℕ → ℕ
justified H width characters = at_left width (characters ++ blanks (width / 6 - length characters))
justified A width characters = characters_number (blanks (width / 6 - length characters) ++ characters)
justified L width characters = at_left width characters
justified R width characters = characters_number characters
justified C width characters = at_left width characters

-- an item that has room in a field of so many bits
abbrev pub counted_item_bits : ℕ → CountedItem → ℕ
counted_item_bits width item = justified item.letter width item.characters

-- an item that is all of a field, if it has room there
abbrev pub counted_item_in : ℕ → CountedItem → Option ℕ
counted_item_in width item = if nat_le (bits_needed item) (6 * (width / 6)) then Some (counted_item_bits width item) else None

-- how many words of so many bits an item takes in DATA
abbrev pub words_needed : ℕ → CountedItem → ℕ
words_needed word item = (bits_needed item + word - 1) / word
