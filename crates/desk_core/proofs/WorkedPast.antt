-- Worked histories: what is kept of a deck's changes, and the cards at earlier versions.
use Rattle.std.{proofs.Common.{◌≡◌, ℕ, List, [], ◌∷◌, map, codes, length, refl}, specs.List.range_with_len}
use Rattle.desk_core.{specs.Joins.Edits.{Edit, Insert, Replace, Remove, edited_by}, specs.Past.{Past, KeptEdit, past_after}, specs.Desks.{Desk, new_desk}, specs.Joins.Calls.{Changed, ChangesAre, CardsBefore, Refused, NoDeck, OldVersion, Forgotten}, proofs.Worked.{replies_to, desk_after, M, me, deck_m, add, edit, batch, changes, cards_at, put, drop}}

-- the name of another
abbrev you : List ℕ
you = codes "ANNA"

-- the deck M with the card *ONE, from version 1 on; at 2 a card is put behind it, and at 3 a batch replaces the first and removes the second
abbrev at_three : Desk
at_three = desk_after (
    add (deck_m (codes "*ONE" ∷ [])) ∷ edit M 1 (Insert 2 (codes "*TWO")) me ∷ batch M 2 (Replace 1 (codes "*A") ∷ Remove 2 ∷ []) you ∷ []) new_desk

abbrev kept : ℕ → Edit → Edit → List ℕ → KeptEdit
kept version edit back by = record { version = version; edit = edit; back = back; by = by }

-- the changes behind each version, each edit with what takes it back
pub changes_told : replies_to (changes M 1 ∷ changes M 2 ∷ changes M 3 ∷ changes M 4 ∷ changes M 0 ∷ changes (codes "N") 1 ∷ []) at_three
    ≡ ChangesAre 3 (kept 2 (Insert 2 (codes "*TWO")) (Remove 2) me ∷ kept 3 (Replace 1 (codes "*A")) (Replace 1 (codes "*ONE")) you ∷ kept 3 (Remove 2) (Insert 2 (codes "*TWO")) you ∷ [])
    ∷ ChangesAre 3 (kept 3 (Replace 1 (codes "*A")) (Replace 1 (codes "*ONE")) you ∷ kept 3 (Remove 2) (Insert 2 (codes "*TWO")) you ∷ [])
    ∷ ChangesAre 3 [] ∷ Refused (OldVersion 3) ∷ Refused (Forgotten 1) ∷ Refused NoDeck ∷ []
changes_told = refl

-- the cards of now with what takes back all that came behind a version, the last first
pub cards_told : replies_to (cards_at M 1 ∷ cards_at M 2 ∷ cards_at M 3 ∷ cards_at M 4 ∷ cards_at M 0 ∷ []) at_three
    ≡ CardsBefore 1 (codes "*A" ∷ []) (Insert 2 (codes "*TWO") ∷ Replace 1 (codes "*ONE") ∷ Remove 2 ∷ [])
    ∷ CardsBefore 2 (codes "*A" ∷ []) (Insert 2 (codes "*TWO") ∷ Replace 1 (codes "*ONE") ∷ [])
    ∷ CardsBefore 3 (codes "*A" ∷ []) [] ∷ Refused (OldVersion 3) ∷ Refused (Forgotten 1) ∷ []
cards_told = refl

-- and made there they give the cards of that version
pub taken_back : edited_by (Insert 2 (codes "*TWO") ∷ Replace 1 (codes "*ONE") ∷ Remove 2 ∷ []) (codes "*A" ∷ []) ≡ codes "*ONE" ∷ []
taken_back = refl

-- a deck that is put begins its past anew, and one that is dropped has none
pub begun_anew : replies_to (put (deck_m (codes "*B" ∷ [])) 3 ∷ changes M 3 ∷ changes M 4 ∷ edit M 4 (Remove 1) you ∷ changes M 4 ∷ drop M 5 ∷ changes M 5 ∷ []) at_three
    ≡ Changed 4 ∷ Refused (Forgotten 4) ∷ ChangesAre 4 [] ∷ Changed 5 ∷ ChangesAre 5 (kept 5 (Remove 1) (Insert 1 (codes "*B")) you ∷ []) ∷ Changed 6 ∷ Refused NoDeck ∷ []
begun_anew = refl

-- so many edits of one card, each of a version of its own, behind version 1
abbrev edits_from : ℕ → ℕ → List KeptEdit
edits_from first count = map (λ version. kept version (Replace 1 []) (Replace 1 []) me) (range_with_len first count)

abbrev past_of_one : ℕ → Past
past_of_one count = record { since = 1; edits = edits_from 2 count }

-- 1,900 edits are kept, and of one more the last 1,100 are: all changes behind the version of the last that went
pub all_kept : length (past_after 1901 me (Replace 1 [] ∷ []) ([] ∷ []) (past_of_one 1899)).edits ≡ 1900
all_kept = refl

pub oldest_gone : past_after 1902 me (Replace 1 [] ∷ []) ([] ∷ []) (past_of_one 1900) ≡ record { since = 802; edits = edits_from 803 1100 }
oldest_gone = refl
