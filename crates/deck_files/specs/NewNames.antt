-- The names of files that a save writes first (ours): the deck's, .NEW, and two numbers with a point between.
use Rattle.std.specs.{Prelude.{ℕ, ◌==◌, ◌&&◌, Bool, List, codes, drop, is_some, length, min, nat_lt, position, take}, List.list_all}
use Rattle.definitions.specs.Characters.{is_digit, same_text}
use Rattle.deck_files.specs.FileRows.{deck_named, place_or_end}

-- digits, and at least one
abbrev pub is_number : List ℕ → Bool
is_number text = nat_lt 0 (length text) && list_all is_digit text

-- where the first point stands, and the end where there is none
abbrev pub point_in : List ℕ → ℕ
point_in text = place_or_end (position (λ c. c == 46) text) (length text)

-- a point and a number
abbrev pub is_behind_point : List ℕ → Bool
is_behind_point text = same_text (take (min (length text) 1) text) (codes ".") && is_number (drop (min (length text) 1) text)

-- two numbers with a point between
abbrev pub are_numbers : List ℕ → Bool
are_numbers text = is_number (take (point_in text) text) && is_behind_point (drop (point_in text) text)

-- .NEW and two numbers with a point between
abbrev pub is_new_ending : List ℕ → Bool
is_new_ending text = same_text (take (min (length text) 4) text) (codes ".NEW") && are_numbers (drop (min (length text) 4) text)

-- a deck's name and such an ending
abbrev pub is_of_a_save : List ℕ → Bool
is_of_a_save name = is_some (deck_named (take (point_in name) name)) && is_new_ending (drop (point_in name) name)

-- a name of these, .NEW and a number
abbrev pub is_new_tail : List ℕ → Bool
is_new_tail tail = same_text (take (min (length tail) 4) tail) (codes ".NEW") && is_number (drop (min (length tail) 4) tail)

abbrev pub is_of_whole : List ℕ → List ℕ → Bool
is_of_whole name whole = same_text (take (min (length name) (length whole)) name) whole && is_new_tail (drop (min (length name) (length whole)) name)
