-- Whether an object stores a word beyond its memory, asked line by line in place of block by block.
use Rattle.std.{proofs.Common.{ℕ, zero, suc, ◌≡◌, Bool, true, false, not, ◌&&◌, ◌||◌, List, [], ◌∷◌, Option, Some, None, length, map, refl, sym, ap, ap₂, subst, ◌∙◌}, specs.Prelude.slice_get, specs.List.{AllByRecursion, list_any}, proofs.lemmas.Map.Keys.{IsDistinct-head, IsDistinct-tail}}
use Rattle.definitions.{specs.Blocks.{is_common, literals_block}, specs.Cards.Card, specs.Characters.same_text, specs.Lengths.BlockRow, specs.Layout.has_beyond, specs.Objects.Object, specs.declared.deck_kind.DeckKind.DeckKind, proofs.TextLaws.same_text-refl}
use Rattle.deck_objects.specs.{Joins.PartsOf.ArePartsOf, declared.lines.CodedLine.CodedLine, declared.lines.Line.Line, declared.object.ObjectParts.ObjectParts}
use Rattle.deck_listing.{specs.Joins.Walking.DoNamesDiffer, proofs.BlockSteps.behind_other}
use Rattle.deck_linker.{specs.Joins.Beyond.{is_plain, keeps_fields, line_beyond, listed_beyond, literals_beyond, literals_row_beyond, parts_beyond, stores_beyond}, proofs.BeyondLaws.{line_of_row, listed_of_row, row_beyond, rows-beyond}, proofs.WordLaws.list_any-same}
use Rattle.use_blocks.specs.Joins.NameKeys.{same_text_equivalence}

or-none : (a : Bool) → (a || false) ≡ a
or-none true = refl
or-none false = refl

and-none : (a : Bool) → (a && false) ≡ false
and-none true = refl
and-none false = refl

and-all : (a : Bool) → (a && true) ≡ a
and-all true = refl
and-all false = refl

or-four : (a b c d : Bool) → ((a || b) || (c || d)) ≡ ((a || c) || (b || d))
or-four true b c d = refl
or-four false true true d = refl
or-four false true false d = refl
or-four false false c d = refl

-- nothing passes a test that always fails
any-never : {X : Type 0} (xs : List X) → list_any (λ (x : X). false) xs ≡ false
any-never [] = refl
any-never (x ∷ xs) = any-never xs

-- one test or another
any-either : {X : Type 0} (p q : X → Bool) (xs : List X) → list_any (λ (x : X). p x || q x) xs ≡ (list_any p xs || list_any q xs)
any-either p q [] = refl
any-either p q (x ∷ xs) = ap (λ (b : Bool). (p x || q x) || b) (any-either p q xs) ∙ or-four (p x) (q x) (list_any p xs) (list_any q xs)

-- a test that is the same for all
any-both : {X : Type 0} (b : Bool) (p : X → Bool) (xs : List X) → (b && list_any p xs) ≡ list_any (λ (x : X). b && p x) xs
any-both true p xs = refl
any-both false p xs = sym (any-never xs)

-- the one is looked for among the other, or the other among the one
any-turned : {X Y : Type 0} (p : X → Y → Bool) (xs : List X) (ys : List Y) → list_any (λ (x : X). list_any (p x) ys) xs ≡ list_any (λ (y : Y). list_any (λ (x : X). p x y) xs) ys
any-turned p [] ys = sym (any-never ys)
any-turned {X = X} {Y = Y} p (x ∷ xs) ys =
    ap (λ (b : Bool). list_any (p x) ys || b) (any-turned p xs ys) ∙ sym (any-either (p x) (λ (y : Y). list_any (λ (z : X). p z y) xs) ys)

-- no row has a name that is behind them
none-named : (q : BlockRow → Bool) (name : List ℕ) (rows : List BlockRow) → AllByRecursion (λ other. same_text name other ≡ false) (map (λ (row : BlockRow). row.name) rows) →
    list_any (λ (row : BlockRow). q row && same_text name row.name) rows ≡ false
none-named q name [] all = refl
none-named q name (row ∷ rows) all = ap₂ (λ (a b : Bool). (q row && a) || b) all.0 (none-named q name rows all.1) ∙ or-none (q row && false) ∙ and-none (q row)

-- one row alone has the name of one
one-named : (q : BlockRow → Bool) (rows : List BlockRow) (i : ℕ) (found : BlockRow) → DoNamesDiffer rows → slice_get rows i ≡ Some found →
    list_any (λ (row : BlockRow). q row && same_text found.name row.name) rows ≡ q found
one-named q [] i found differ e = cc
one-named q (row ∷ rows) zero found differ e =
    let here : row ≡ found = cc in
    let none = none-named q row.name rows (IsDistinct-head same_text row.name (map (λ (r : BlockRow). r.name) rows) differ) in
    subst (λ (f : BlockRow). list_any (λ (r : BlockRow). q r && same_text f.name r.name) (row ∷ rows) ≡ q f) here
    (ap₂ (λ (a b : Bool). (q row && a) || b) (same_text-refl row.name) none ∙ or-none (q row && true) ∙ and-all (q row))
one-named q (row ∷ rows) (suc i) found differ e =
    let apart : same_text found.name row.name ≡ false =
    same_text_equivalence.symm found.name row.name ∙ behind_other row.name rows i found (IsDistinct-head same_text row.name (map (λ (r : BlockRow). r.name) rows) differ) e in
    ap₂ (λ (a b : Bool). (q row && a) || b) apart (one-named q rows i found (IsDistinct-tail same_text row.name (map (λ (r : BlockRow). r.name) rows) differ) e)
    ∙ ap (λ (b : Bool). b || q found) (and-none (q row))

-- five tests that are all true, in another order
turned : (c s n k m : Bool) → (c && (s && (n && (k && m)))) ≡ (((n && k) && (c && s)) && m)
turned false s false k m = refl
turned false s true false m = refl
turned false s true true m = refl
turned true false false k m = refl
turned true false true false m = refl
turned true false true true m = refl
turned true true false k m = refl
turned true true true false m = refl
turned true true true true m = refl

never : (c s n k : Bool) → (c && (s && (n && (k && false)))) ≡ false
never false s n k = refl
never true false n k = refl
never true true false k = refl
never true true true false = refl
never true true true true = refl

-- a line among the lines of all blocks
of_line : (kind : DeckKind) (rows : List BlockRow) (line : CodedLine) → DoNamesDiffer rows →
    list_any (λ (row : BlockRow). is_plain row && line_of_row kind rows row line) rows ≡ line_beyond kind rows line
of_line kind rows line differ = by_found (slice_get rows line.block) refl
  where
    named_by : Option BlockRow → List ℕ → Bool
    named_by o name = elim o [ None ↦ false | Some row ↦ same_text row.name name ]

    test : BlockRow → Bool
    test row = (not line.begins_run && keeps_fields line.fields) && (is_plain row && stores_beyond kind row.base line.place line.end)

    by_found : (o : Option BlockRow) → slice_get rows line.block ≡ o →
        list_any (λ (row : BlockRow). is_plain row && (stores_beyond kind row.base line.place line.end && (not line.begins_run && (keeps_fields line.fields && named_by o row.name)))) rows
        ≡ elim o [ None ↦ false | Some row ↦ test row ]
    by_found None e =
        list_any-same (λ (row : BlockRow). is_plain row && (stores_beyond kind row.base line.place line.end && (not line.begins_run && (keeps_fields line.fields && false)))) (λ row. false)
        (λ row. never (is_plain row) (stores_beyond kind row.base line.place line.end) (not line.begins_run) (keeps_fields line.fields)) rows
        ∙ any-never rows
    by_found (Some found) e =
        list_any-same
        (λ (row : BlockRow). is_plain row && (stores_beyond kind row.base line.place line.end && (not line.begins_run && (keeps_fields line.fields && same_text found.name row.name))))
        (λ (row : BlockRow). test row && same_text found.name row.name)
        (λ row. turned (is_plain row) (stores_beyond kind row.base line.place line.end) (not line.begins_run) (keeps_fields line.fields) (same_text found.name row.name)) rows
        ∙ one-named test rows line.block found differ e

-- a line of the listing
of_listed : (kind : DeckKind) (rows : List BlockRow) (line : Line) → DoNamesDiffer rows →
    list_any (λ (row : BlockRow). is_plain row && listed_of_row kind rows row line) rows ≡ listed_beyond kind rows line
of_listed kind rows line differ = by_stored line.coded
  where
    by_stored : (stored : Option CodedLine) →
        list_any (λ (row : BlockRow). is_plain row && elim stored [ None ↦ false | Some coded ↦ line_of_row kind rows row coded ]) rows
        ≡ elim stored [ None ↦ false | Some coded ↦ line_beyond kind rows coded ]
    by_stored None = list_any-same (λ (row : BlockRow). is_plain row && false) (λ row. false) (λ row. and-none (is_plain row)) rows ∙ any-never rows
    by_stored (Some coded) = of_line kind rows coded differ

-- a block that has literals or statements
row-parted : (c l a b : Bool) → (c && elim l [ true ↦ a | false ↦ b ]) ≡ (((c && not l) && b) || (c && (l && a)))
row-parted false l a b = refl
row-parted true true a b = refl
row-parted true false a b = sym (or-none b)

-- the parts of an object show whether it stores a word beyond its memory
pub parts-beyond : (cards : List Card) (parts : ObjectParts) (object : Object) → ArePartsOf cards parts object → DoNamesDiffer parts.bases → parts_beyond parts ≡ has_beyond object
parts-beyond cards parts object are differ =
    let kind = parts.kind in
    let rows = parts.bases in
    let lines = parts.lines.items in
    let literals : BlockRow → Bool = literals_row_beyond kind (length parts.literals.items) in
    let of_row : BlockRow → Bool = λ row. is_plain row && list_any (listed_of_row kind rows row) lines in
    let by_lines : list_any of_row rows ≡ list_any (listed_beyond kind rows) lines =
    list_any-same of_row (λ (row : BlockRow). list_any (λ (line : Line). is_plain row && listed_of_row kind rows row line) lines)
    (λ row. any-both (is_plain row) (listed_of_row kind rows row) lines) rows
    ∙ any-turned (λ (row : BlockRow) (line : Line). is_plain row && listed_of_row kind rows row line) rows lines
    ∙ list_any-same (λ (line : Line). list_any (λ (row : BlockRow). is_plain row && listed_of_row kind rows row line) rows) (listed_beyond kind rows)
    (λ line. of_listed kind rows line differ) lines in
    ap (λ (b : Bool). b || list_any literals rows) (sym by_lines)
    ∙ sym (any-either of_row literals rows)
    ∙ sym (list_any-same (row_beyond parts) (λ (row : BlockRow). of_row row || literals row)
    (λ row. row-parted (not (is_common row.name)) (same_text row.name literals_block) (literals_beyond kind row.base (length parts.literals.items)) (list_any (listed_of_row kind rows row) lines))
    rows)
    ∙ rows-beyond cards parts object are
