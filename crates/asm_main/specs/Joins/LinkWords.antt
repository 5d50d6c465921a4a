-- What the letters of LINK lines mean (ours).
use Rattle.std.specs.Prelude.{ℕ, ◌==◌, List, [], codes, if◌then◌else◌}

-- what a LINK line means by its letter
abbrev pub words_of_link : ℕ → List ℕ
words_of_link letter =
    if letter == 68 then codes "an earlier deck has this entry already"
    else if letter == 85 then codes "no deck has an entry for this external"
    else if letter == 65 then codes "a field does not fit once it is linked, and is 0"
    else if letter == 70 then codes "it does not fit into memory"
    else []
