-- A deck that has no block of a name stores nothing there.
use Rattle.std.{proofs.Common.{◌≡◌, ℕ, zero, suc, List, [], ◌∷◌, Option, Some, None, Bool, true, false, ◌||◌, refl, sym, ap, ◌∙◌}, specs.Prelude.{slice_get, reverse}, specs.List.list_any, proofs.lemmas.List.Folds.list_any-append, proofs.lemmas.List.reverse-append}
use Rattle.definitions.specs.{Characters.same_text, Lengths.BlockRow, Words.{Coded, Linking, Parcel, onto_runs, parcels_of, runs_of, stored, stored_words, words_in}, declared.deck_kind.DeckKind.DeckKind}
use Rattle.deck_objects.specs.declared.lines.FieldLists.{FieldLists}
use Rattle.deck_objects.specs.{Joins.CodedLines.{IsNamed, AreCoded}, declared.lines.Line.Line}
use Rattle.deck_objects.specs.declared.lines.CodedLine as lines
use Rattle.deck_linker.proofs.UnfitLaws.{IsGoingOn}

-- whether a statement stands in the block of a name
abbrev stands_in : List ℕ → Coded → Bool
stands_in name coded = same_text coded.settled.block name

-- whether a row is that of a name
abbrev is_row_of : List ℕ → BlockRow → Bool
is_row_of name row = same_text row.name name

first_false : (b c : Bool) → (b || c) ≡ false → b ≡ false
first_false true c e = e
first_false false c e = refl

second_false : (b c : Bool) → (b || c) ≡ false → c ≡ false
second_false true c e = cc
second_false false c e = e

both_false : (b c : Bool) → b ≡ false → c ≡ false → (b || c) ≡ false
both_false b c e f = rw (e, f) refl

turned : (b c : Bool) → (b || c) ≡ false → (c || b) ≡ false
turned b c e = both_false c b (second_false b c e) (first_false b c e)

-- a row that is there is none of them
row_other : (name block : List ℕ) (rows : List BlockRow) (i : ℕ) → list_any (is_row_of name) rows ≡ false → IsNamed (slice_get rows i) block → same_text block name ≡ false
row_other name block [] i e h = absurd h
row_other name block (row ∷ rows) zero e h = ap (λ (b : List ℕ). same_text b name) (sym h) ∙ first_false (is_row_of name row) (list_any (is_row_of name) rows) e
row_other name block (row ∷ rows) (suc i) e h = row_other name block rows i (second_false (is_row_of name row) (list_any (is_row_of name) rows) e) h

-- no statement stands in the block
none-stands : (name : List ℕ) (kind : DeckKind) (rows : List BlockRow) (lists : FieldLists) (statements : List Line) (all : List Coded) → list_any (is_row_of name) rows ≡ false →
    AreCoded kind rows lists statements all → list_any (stands_in name) all ≡ false
none-stands name kind rows lists [] [] e h = refl
none-stands name kind rows lists [] (coded ∷ others) e h = absurd h
none-stands name kind rows lists (line ∷ behind) all e h = step line.coded all (λ others k. none-stands name kind rows lists behind others e k) h
  where
    step : (stored : Option lines.CodedLine) (all : List Coded) → ((others : List Coded) → AreCoded kind rows lists behind others → list_any (stands_in name) others ≡ false) →
        IsGoingOn kind rows lists behind stored all → list_any (stands_in name) all ≡ false
    step None all again h = again all h
    step (Some stored) [] again h = absurd h
    step (Some stored) (coded ∷ others) again h = both_false (stands_in name coded) (list_any (stands_in name) others) (row_other name coded.settled.block rows stored.block e h.0.block) (again others h.1)

-- nor in the other order
none-back : (name : List ℕ) (all : List Coded) → list_any (stands_in name) (reverse all) ≡ false → list_any (stands_in name) all ≡ false
none-back name [] e = refl
none-back name (coded ∷ others) e =
    let split : (list_any (stands_in name) (reverse others) || list_any (stands_in name) (coded ∷ [])) ≡ false =
    sym (list_any-append (stands_in name) (reverse others) (coded ∷ [])) ∙ ap (list_any (stands_in name)) (sym (reverse-append (coded ∷ []) others)) ∙ e in
    both_false (stands_in name coded) (list_any (stands_in name) others)
    (first_false (stands_in name coded) false (second_false (list_any (stands_in name) (reverse others)) (list_any (stands_in name) (coded ∷ [])) split))
    (none-back name others (first_false (list_any (stands_in name) (reverse others)) (list_any (stands_in name) (coded ∷ [])) split))

-- the runs with a statement more, by whether it stands in the block
abbrev runs_with : DeckKind → Linking → Coded → List (List Parcel) → Bool → List (List Parcel)
runs_with kind linking coded runs here = elim here [ true ↦ onto_runs coded.settled.begins_run (parcels_of kind linking coded) runs | false ↦ runs ]

one-run : (kind : DeckKind) (linking : Linking) (name : List ℕ) (all : List Coded) → list_any (stands_in name) all ≡ false → runs_of kind linking name all ≡ [] ∷ []
one-run kind linking name [] e = refl
one-run kind linking name (coded ∷ others) e =
    ap (runs_with kind linking coded (runs_of kind linking name others)) (first_false (stands_in name coded) (list_any (stands_in name) others) e)
    ∙ one-run kind linking name others (second_false (stands_in name coded) (list_any (stands_in name) others) e)

-- a deck without a row of the name stores nothing in its block
pub stored-nowhere : (kind : DeckKind) (linking : Linking) (name : List ℕ) (rows : List BlockRow) (lists : FieldLists) (statements : List Line) (all : List Coded) → list_any (is_row_of name) rows ≡ false →
    AreCoded kind rows lists statements (reverse all) → stored_words kind linking name all ≡ []
stored-nowhere kind linking name rows lists statements all e h =
    let alone = one-run kind linking name all (none-back name all (none-stands name kind rows lists statements (reverse all) e h)) in
    ap (λ (runs : List (List Parcel)). stored kind runs (words_in kind runs)) alone
