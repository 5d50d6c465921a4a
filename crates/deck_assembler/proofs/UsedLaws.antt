-- The block of a statement is among the blocks of its deck.
use Rattle.std.proofs.{Common.{◌≡◌, ◌∙◌, ℕ, ◌||◌, Bool, true, false, true≢false, List, [], ◌∷◌, ◌++◌, map, drop, refl, ap, sym, if◌then◌else◌}, lemmas.List.Folds.list_any-append}
use Rattle.definitions.{specs.Blocks.{nominal, open_names, block_in_use, changes, is_named, with_opened, blocks_used}, specs.Characters.same_text, specs.Lengths.{BlockRow, rows_from, block_rows, length_of}, specs.Settled.{BlockChange, NoChange, Opens, Closes}, specs.Settling.{settle, settled_all}, specs.Statements.Statement, specs.declared.deck_kind.DeckKind.DeckKind, proofs.TextLaws.same_text-refl}
use Rattle.deck_assembler.specs.Joins.Walks.{has_row}

or-true : (b : Bool) → (b || true) ≡ true
or-true true = refl
or-true false = refl

named-append : (name : List ℕ) (names others : List (List ℕ)) → is_named name names ≡ true → is_named name (names ++ others) ≡ true
named-append name names others e = list_any-append (λ other. same_text name other) names others ∙ ap (λ b. b || is_named name others) e

named-last : (name : List ℕ) (names : List (List ℕ)) → is_named name (names ++ name ∷ []) ≡ true
named-last name names =
    list_any-append (λ other. same_text name other) names (name ∷ []) ∙ ap (λ b. is_named name names || (b || false)) (same_text-refl name) ∙ or-true (is_named name names)

named-cond : (b : Bool) (name : List ℕ) (names others : List (List ℕ)) → is_named name names ≡ true → is_named name others ≡ true → is_named name (if b then names else others) ≡ true
named-cond true name names others e f = e
named-cond false name names others e f = f

-- a block stays where another is opened
named-opened : (name : List ℕ) (change : BlockChange) (names : List (List ℕ)) → is_named name names ≡ true → is_named name (with_opened change names) ≡ true
named-opened name NoChange names e = e
named-opened name Closes names e = e
named-opened name (Opens other) names e = named-cond (is_named other names) name names (names ++ other ∷ []) e (named-append name names (other ∷ []) e)

-- and what is opened is there
opened-named : (b : Bool) (name : List ℕ) (names : List (List ℕ)) → is_named name names ≡ b → is_named name (if b then names else names ++ name ∷ []) ≡ true
opened-named true name names e = e
opened-named false name names e = named-last name names

-- names that are all among others
abbrev AreAmong : List (List ℕ) → List (List ℕ) → Type 0
AreAmong [] others = Unit {0}
AreAmong (name ∷ names) others = (is_named name others ≡ true) × AreAmong names others

among-opened : (change : BlockChange) (names others : List (List ℕ)) → AreAmong names others → AreAmong names (with_opened change others)
among-opened _ [] others h = tt
among-opened change (name ∷ names) others h = (named-opened name change others h.0, among-opened change names others h.1)

among-drop : (names others : List (List ℕ)) → AreAmong names others → AreAmong (drop 1 names) others
among-drop [] others h = tt
among-drop (name ∷ names) others h = h.1

-- the open names are used
open-used : (done : List BlockChange) → AreAmong (open_names done) (blocks_used done)
open-used [] = tt
open-used (NoChange ∷ earlier) = open-used earlier
open-used (Closes ∷ earlier) = among-drop (open_names earlier) (blocks_used earlier) (open-used earlier)
open-used (Opens name ∷ earlier) =
    (opened-named (is_named name (blocks_used earlier)) name (blocks_used earlier) refl, among-opened (Opens name) (open_names earlier) (blocks_used earlier) (open-used earlier))

nominal-used : (done : List BlockChange) → is_named nominal (blocks_used done) ≡ true
nominal-used [] = refl
nominal-used (change ∷ earlier) = named-opened nominal change (blocks_used earlier) (nominal-used earlier)

first-used : (names others : List (List ℕ)) → AreAmong names others → is_named nominal others ≡ true → is_named (block_in_use names) others ≡ true
first-used [] others h e = e
first-used (name ∷ names) others h e = h.0

-- the block in use is used
in_use-used : (done : List BlockChange) → is_named (block_in_use (open_names done)) (blocks_used done) ≡ true
in_use-used done = first-used (open_names done) (blocks_used done) (open-used done) (nominal-used done)

-- and stays where statements follow
used-later : (kind : DeckKind) (name : List ℕ) (later earlier : List Statement) → is_named name (blocks_used (changes (settled_all kind earlier))) ≡ true →
    is_named name (blocks_used (changes (settled_all kind (later ++ earlier)))) ≡ true
used-later kind name [] earlier e = e
used-later kind name (statement ∷ later) earlier e =
    named-opened name _ (blocks_used (changes (settled_all kind (later ++ earlier)))) (used-later kind name later earlier e)

-- each block that is used has a row
either-there : (t b c : Bool) → (t || b) ≡ true → (b ≡ true → c ≡ true) → (t || c) ≡ true
either-there true b c e h = refl
either-there false b c e h = h e

row-there : (name : List ℕ) (names : List (List ℕ)) (words : List ℕ → ℕ) (base : ℕ) (rest : List BlockRow) → is_named name names ≡ true →
    has_row name (rows_from base (map (λ (n : List ℕ). record { name = n; words = words n }) names) ++ rest) ≡ true
row-there name [] words base rest e = absurd (true≢false (sym e))
row-there name (first ∷ names) words base rest e = either-there (same_text name first) (is_named name names) _ e (row-there name names words _ rest)

-- the block of a statement
pub block-there : (kind : DeckKind) (later earlier : List Statement) (given : Statement) → has_row (settle kind (settled_all kind earlier) given).block (block_rows kind (settled_all kind (later ++ earlier))) ≡ true
block-there kind later earlier given =
    let block = block_in_use (open_names (changes (settled_all kind earlier))) in
    let settled = settled_all kind (later ++ earlier) in
    row-there block (blocks_used (changes settled)) (λ (n : List ℕ). length_of kind n settled) 0 _ (used-later kind block later earlier (in_use-used (changes (settled_all kind earlier))))
