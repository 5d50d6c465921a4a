-- Decks as files of a folder (ours).
use Rattle.std.specs.Prelude.{ℕ, List, [], ◌∷◌, ◌++◌, codes, decimal}

-- the path of a file in a folder; no text of a folder is the one that the process runs in
abbrev pub path_in : List ℕ → List ℕ → List ℕ
path_in [] file = file
path_in (c ∷ folder) file = (c ∷ folder) ++ (codes "/" ++ file)

-- a folder by a path of its own
abbrev pub folder_path : List ℕ → List ℕ
folder_path [] = codes "."
folder_path (c ∷ folder) = c ∷ folder

-- the file of the deck with this name
abbrev pub deck_file : List ℕ → List ℕ
deck_file name = name ++ codes ".DECK"

-- the file that keeps what a save was asked to write over
abbrev pub old_file : List ℕ → List ℕ
old_file name = name ++ codes ".OLD"

-- the file that a save on the shelf with this number writes first, at a try
abbrev pub new_file : List ℕ → ℕ → ℕ → List ℕ
new_file name number tries = name ++ (codes ".NEW" ++ (decimal number ++ (codes "." ++ decimal tries)))

-- where a shelf keeps a deck: the folder, the deck's name, and the number of the shelf
pub record Place : Type 0 where
  pub folder : List ℕ
  pub name : List ℕ
  pub number : ℕ

abbrev pub place : List ℕ → List ℕ → ℕ → Place
place folder name number = record { folder = folder; name = name; number = number }

abbrev pub deck_path : Place → List ℕ
deck_path at = path_in at.folder (deck_file at.name)

abbrev pub old_path : Place → List ℕ
old_path at = path_in at.folder (old_file at.name)

abbrev pub new_path : Place → ℕ → List ℕ
new_path at tries = path_in at.folder (new_file at.name at.number tries)
