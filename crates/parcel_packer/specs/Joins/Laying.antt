-- Words of a block with others over them, a word at a time.
use Rattle.std.specs.Prelude.{ℕ, ◌==◌, List, [], ◌∷◌, Bool, true, false, nat_lt, if◌then◌else◌}
use Rattle.definitions.specs.Words.{StoredWord}

-- words in order of offset with one word more, which takes the place of one that stands there
abbrev pub with_stored : StoredWord → List StoredWord → List StoredWord
with_stored word [] = word ∷ []
with_stored word (other ∷ words) =
    if word.offset == other.offset then word ∷ words
    else if nat_lt word.offset other.offset then word ∷ other ∷ words else other ∷ with_stored word words

-- words in order of offset with others over them
abbrev pub with_all_stored : List StoredWord → List StoredWord → List StoredWord
with_all_stored [] earlier = earlier
with_all_stored (word ∷ words) earlier = with_all_stored words (with_stored word earlier)

-- words with all of these lists over them, the first one first
abbrev pub over_all : List (List StoredWord) → List StoredWord → List StoredWord
over_all [] earlier = earlier
over_all (words ∷ later) earlier = over_all later (with_all_stored words earlier)
