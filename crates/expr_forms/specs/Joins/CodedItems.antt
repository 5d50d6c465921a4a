-- A counted item as characters in places of six bits each (COMPASS 60492600, data items).
use Rattle.std.specs.Prelude.{ℕ, ◌-◌, List, ◌++◌, Bool, true, false, Option, Some, None, ◌&&◌, nat_le, length, replicate, if◌then◌else◌}
use Rattle.definitions.specs.{Characters.blank, CountedItems.{CountedItem, item_letter_of}, declared.item_letter.ItemLetter.ItemLetter, declared.item_letter.ItemLetter.TheVariants.{H, A, R}}

-- A and R: the characters stand at the end
abbrev pub is_at_end : ItemLetter → Bool
is_at_end A = true
is_at_end R = true
is_at_end _ = false

-- what fills the other places: a blank for H and A, else the colon, whose code is 0
abbrev pub filler : ItemLetter → ℕ
filler H = blank
filler A = blank
filler _ = 58

-- an item's characters in so many places
abbrev pub in_places : ℕ → CountedItem → List ℕ
in_places places item =
    let others = replicate (places - length item.characters) (filler item.letter) in
    if is_at_end item.letter then others ++ item.characters else item.characters ++ others

-- the item of a letter, if there is one, and of 1 to 100 characters
abbrev pub item_with : List ℕ → Option ItemLetter → Option CountedItem
item_with characters None = None
item_with characters (Some letter) =
    if nat_le 1 (length characters) && nat_le (length characters) 100 then Some (record { letter = letter; characters = characters }) else None

-- the item of a character that is a letter and of 1 to 100 characters, if they are one
abbrev pub item_of : ℕ → List ℕ → Option CountedItem
item_of c characters = item_with characters (item_letter_of c)
