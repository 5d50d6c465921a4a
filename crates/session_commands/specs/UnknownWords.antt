-- Words that begin no command, which of them can be written, and how a refusal has them (ours).
use Rattle.std.specs.{Prelude.{ℕ, ◌-◌, List, ◌++◌, Option, Some, None, Bool, ◌&&◌, nat_le, length, take, replicate, if◌then◌else◌}, List.list_all}
use Rattle.session_commands.specs.declared.unknown_words.UnknownWord.{UnknownWord}

-- how many characters a word has at most that is shown
abbrev pub most_told : ℕ
most_told = 16

-- whether a character is printed, and no blank
abbrev pub is_printed : ℕ → Bool
is_printed c = nat_le 33 c && nat_le c 126

-- whether a word can be written: 1 to 16 printed characters
abbrev pub can_be_told : List ℕ → Bool
can_be_told word = nat_le 1 (length word) && nat_le (length word) most_told && list_all is_printed word

-- a word as a refusal has it: its characters, zeros behind them up to 16, and how many they are
abbrev pub told_word : List ℕ → UnknownWord
told_word word = record { characters = word ++ replicate (most_told - length word) 0; len = length word }

-- a word as a refusal has it, where it can be written
abbrev pub word_in : List ℕ → Option UnknownWord
word_in word = if can_be_told word then Some (told_word word) else None

-- the characters of a word that a refusal has
abbrev pub text_of_word : UnknownWord → List ℕ
text_of_word word = take word.len word.characters
