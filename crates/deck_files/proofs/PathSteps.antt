-- Paths in one folder are distinguished by what stands behind the deck's name.
use Rattle.std.{proofs.Common.{ℕ, ◌≡◌, ◌≢◌, List, [], ◌∷◌, ◌++◌, sym, ap, ◌∙◌, arith}, specs.Prelude.{codes, decimal, slice_index}, proofs.lemmas.List.append_cancel_left}
use Rattle.deck_files.specs.{Folders.{Place, path_in, deck_path, old_path}, FolderSaves.IsNew}

-- the file behind a folder
file-in : (folder first second : List ℕ) → path_in folder first ≡ path_in folder second → first ≡ second
file-in [] first second same = same
file-in (c ∷ folder) first second same = append_cancel_left (codes "/") first second (append_cancel_left (c ∷ folder) (codes "/" ++ first) (codes "/" ++ second) same)

-- a file with another ending is another file
other-ending : (folder name first second : List ℕ) → slice_index first 1 ≢ slice_index second 1 → path_in folder (name ++ first) ≢ path_in folder (name ++ second)
other-ending folder name first second differ same = differ (ap (λ (l : List ℕ). slice_index l 1) (append_cancel_left name first second (file-in folder (name ++ first) (name ++ second) same)))

-- N is neither D nor O
n-d : ◌≢◌ {A = ℕ} 78 68
n-d same = omega (arith, same)

n-o : ◌≢◌ {A = ℕ} 78 79
n-o same = omega (arith, same)

new-apart : (at : Place) (path : List ℕ) (ending : List ℕ) → ◌≢◌ {A = ℕ} 78 (slice_index ending 1) → IsNew at path → path ≢ path_in at.folder (at.name ++ ending)
new-apart at path ending other new same = other-ending at.folder at.name (codes ".NEW" ++ (decimal at.number ++ (codes "." ++ decimal new.0))) ending other (sym new.1 ∙ same)

pub new-no_deck : (at : Place) (path : List ℕ) → IsNew at path → path ≢ deck_path at
new-no_deck at path new same = new-apart at path (codes ".DECK") n-d new same

pub new-not_old : (at : Place) (path : List ℕ) → IsNew at path → path ≢ old_path at
new-not_old at path new same = new-apart at path (codes ".OLD") n-o new same
