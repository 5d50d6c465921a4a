-- Names of files and rows of decks, computed from the definitions.
use Rattle.std.{proofs.Common.{◌≡◌, ℕ, List, [], ◌∷◌, true, false, Some, None, refl}, specs.Prelude.codes}
use Rattle.deck_files.specs.{declared.file_rows.FileRow.FileRow, FileRows.{deck_in, is_before, with_row}, NewNames.is_of_a_save}

file_of_a_deck : deck_in (codes "M.DECK") ≡ Some (codes "M")
file_of_a_deck = refl

file_of_digits : deck_in (codes "7TRUNKS.DECK") ≡ Some (codes "7TRUNKS")
file_of_digits = refl

kept_old_file : deck_in (codes "M.OLD") ≡ None
kept_old_file = refl

new_file : deck_in (codes "M.NEW0.0") ≡ None
new_file = refl

journal_file : deck_in (codes ".beskloun.journal") ≡ None
journal_file = refl

no_name : deck_in (codes ".DECK") ≡ None
no_name = refl

long_name : deck_in (codes "ABCDEFGH.DECK") ≡ None
long_name = refl

small_letters : deck_in (codes "m.DECK") ≡ None
small_letters = refl

behind_a_deck : deck_in (codes "M.DECK.DECK") ≡ None
behind_a_deck = refl

file_of_a_save : is_of_a_save (codes "7TRUNKS.NEW15.999") ≡ true
file_of_a_save = refl

deck_is_no_save : is_of_a_save (codes "M.DECK") ≡ false
deck_is_no_save = refl

old_is_no_save : is_of_a_save (codes "M.OLD") ≡ false
old_is_no_save = refl

news_is_no_save : is_of_a_save (codes "M.NEWS") ≡ false
news_is_no_save = refl

no_tries : is_of_a_save (codes "M.NEW3.") ≡ false
no_tries = refl

more_behind : is_of_a_save (codes "M.NEW3.0.OLD") ≡ false
more_behind = refl

no_deck_of_a_save : is_of_a_save (codes "m.NEW3.0") ≡ false
no_deck_of_a_save = refl

journal_of_a_start : is_of_a_save (codes "beskloun.journal.NEW0") ≡ false
journal_of_a_start = refl

shorter_first : is_before (codes "M") (codes "M1") ≡ true
shorter_first = refl

digits_first : is_before (codes "9Z") (codes "A") ≡ true
digits_first = refl

not_before_itself : is_before (codes "M") (codes "M") ≡ false
not_before_itself = refl

abbrev row : List ℕ → FileRow
row name = record { name = name; cards = Some 1; written = codes "2026-11-26T22:50:03Z" }

between_others : with_row (row (codes "B")) (row (codes "A") ∷ row (codes "C") ∷ []) ≡ row (codes "A") ∷ row (codes "B") ∷ row (codes "C") ∷ []
between_others = refl

behind_all : with_row (row (codes "D")) (row (codes "A") ∷ row (codes "C") ∷ []) ≡ row (codes "A") ∷ row (codes "C") ∷ row (codes "D") ∷ []
behind_all = refl
