-- The words of the common blocks of a link, a deck and a block at a time.
use Rattle.std.{proofs.Common.{ℕ, zero, suc, ◌≡◌, ◌+◌, ◌^◌, ◌<◌, ◌≤◌, Bool, true, false, ◌||◌, cond, List, [], ◌∷◌, ◌++◌, Option, Some, None, length, map, take, get_or, refl, sym, ap, ap₂, subst, ◌∙◌, inl, inr, arith}, specs.Prelude.{Vec, slice_get, if◌then◌else◌}, specs.List.{AllByRecursion, position_from}, specs.Option.is_some, proofs.lemmas.List.{length-append, length-map, take_more}, proofs.lemmas.List.Folds.list_any-append, proofs.lemmas.Map.Keys.{IsDistinct-head, IsDistinct-tail}, proofs.lemmas.Option.{slice_get-get_or, slice_get_within}}
use Rattle.definitions.{specs.Characters.same_text, specs.Image.common_words, specs.Lengths.BlockRow, specs.Layout.{Based, Common, Layout}, specs.LinkValues.linking_of, specs.Words.{StoredWord, runs_of}, proofs.TextLaws.{same_text-refl, same_text_tells}}
use Rattle.parcel_packer.{specs.Joins.Laying.with_all_stored, specs.Joins.Filling.{DoSpansRise, as_stored}, specs.declared.word_spans.WordSpan.WordSpan, proofs.FillLaws.stored-rise, proofs.LaidLaws.{DoesRise, over-laid}}
use Rattle.deck_listing.{specs.Joins.Walking.DoNamesDiffer, proofs.BlockSteps.behind_other}
use Rattle.deck_linker.specs.Joins.{CommonWords.{AreCommonWords, AreMade, AreNone, DoListsRise, IsPutOver, common_place, deck_words, has_common, has_row, over_deck, over_decks, over_row, over_rows}, Placing.names_of_commons}

-- a place that is found lies between the first and the end
found-from : {X : Type 0} (t : X → Bool) (from : ℕ) (xs : List X) (i : ℕ) → position_from t from xs ≡ Some i → (from ≤ i) × (i < from + length xs)
found-from t from [] i e = cc
found-from {X = X} t from (x ∷ xs) i e = by_test (t x) (found-from t (from + 1) xs i) e
  where
    by_test : (b : Bool) → (position_from t (from + 1) xs ≡ Some i → (from + 1 ≤ i) × (i < from + 1 + length xs)) → cond b (Some from) (position_from t (from + 1) xs) ≡ Some i →
        (from ≤ i) × (i < from + suc (length xs))
    by_test true more h = let same : from ≡ i = cc in (omega arith, omega arith)
    by_test false more h = let low = (more h).0 in let high = (more h).1 in (omega arith, omega arith)

-- two names that are found at one place are one
found-once : (n m : List ℕ) (from : ℕ) (names : List (List ℕ)) (i : ℕ) → position_from (same_text n) from names ≡ Some i → position_from (same_text m) from names ≡ Some i → n ≡ m
found-once n m from [] i e f = cc
found-once n m from (name ∷ names) i e f = elim (same_text_tells n name) [
  | inl a ↦ elim (same_text_tells m name) [
    | inl b ↦ a.1 ∙ sym b.1
    | inr b ↦ absurd (behind m (at_first n a.0 e) (later m b.0 f))
  ]
  | inr a ↦ elim (same_text_tells m name) [
    | inl b ↦ absurd (behind n (at_first m b.0 f) (later n a.0 e))
    | inr b ↦ found-once n m (from + 1) names i (later n a.0 e) (later m b.0 f)
  ]
]
  where
    later : (k : List ℕ) → same_text k name ≡ false → cond (same_text k name) (Some from) (position_from (same_text k) (from + 1) names) ≡ Some i → position_from (same_text k) (from + 1) names ≡ Some i
    later k t h = subst (λ (b : Bool). cond b (Some from) (position_from (same_text k) (from + 1) names) ≡ Some i) t h

    at_first : (k : List ℕ) → same_text k name ≡ true → cond (same_text k name) (Some from) (position_from (same_text k) (from + 1) names) ≡ Some i → from ≡ i
    at_first k t h = let first : Some from ≡ Some i = subst (λ (b : Bool). cond b (Some from) (position_from (same_text k) (from + 1) names) ≡ Some i) t h in cc

    behind : (k : List ℕ) → from ≡ i → position_from (same_text k) (from + 1) names ≡ Some i → ⊥
    behind k here h = let low = (found-from (same_text k) (from + 1) names i h).0 in absurd (omega arith)

-- the place of a common block is one of theirs
pub place-within : (name : List ℕ) (commons : List Common) (i : ℕ) → common_place name commons ≡ Some i → i < length commons
place-within name commons i e =
    let within = (found-from (same_text name) 0 (names_of_commons commons) i e).1 in
    let same = length-map commons (λ (common : Common). common.name) in
    omega (arith, within, same)

-- a common block among them has a place
found-some : (name : List ℕ) (from : ℕ) (commons : List Common) (i : ℕ) (common : Common) → slice_get commons i ≡ Some common → common.name ≡ name →
    is_some (position_from (same_text name) from (names_of_commons commons)) ≡ true
found-some name from [] i common e n = cc
found-some name from (first ∷ commons) zero common e n =
    let here : first ≡ common = cc in
    let same : same_text name first.name ≡ true = subst (λ (k : List ℕ). same_text name k ≡ true) (sym (ap (λ (c : Common). c.name) here ∙ n)) (same_text-refl name) in
    ap (λ (b : Bool). is_some (cond b (Some from) (position_from (same_text name) (from + 1) (names_of_commons commons)))) same
found-some name from (first ∷ commons) (suc i) common e n = by_test (same_text name first.name) (found-some name (from + 1) commons i common e n)
  where
    by_test : (b : Bool) → is_some (position_from (same_text name) (from + 1) (names_of_commons commons)) ≡ true →
        is_some (cond b (Some from) (position_from (same_text name) (from + 1) (names_of_commons commons))) ≡ true
    by_test true h = refl
    by_test false h = h

pub place-there : (commons all : List Common) (i : ℕ) (common : Common) → all ≡ commons → i < length all → common ≡ get_or all i common → is_some (common_place common.name commons) ≡ true
place-there commons all i common e h is =
    subst (λ (l : List Common). is_some (common_place common.name l) ≡ true) e
    (found-some common.name 0 all i common (slice_get-get_or all i common h ∙ ap Some (sym is)) refl)

pub no_place : (o : Option ℕ) → is_some o ≡ true → o ≡ None → ⊥
no_place None h e = let wrong : false ≡ true = h in cc
no_place (Some i) h e = cc

-- what is at a place is there once
one_there : {X : Type 0} (xs : List X) (i : ℕ) (a b : X) → slice_get xs i ≡ Some a → slice_get xs i ≡ Some b → a ≡ b
one_there xs i a b e f = let same : Some a ≡ Some b = sym e ∙ f in cc

not_both : (b : Bool) → b ≡ true → b ≡ false → ⊥
not_both b e f = let h : true ≡ false = sym e ∙ f in cc

-- a deck's words of a block are put over those of the common block of its name
pub row-put : {Z : Type 0} (commons : List Common) (row : BlockRow) (words : List WordSpan) (place : ℕ) (old new : List (Vec WordSpan Z)) → common_place row.name commons ≡ Some place →
    IsPutOver place words old new → AreMade commons (over_row row (as_stored words)) old new
row-put {Z = Z} commons row words place old new there put = record { same = put.same; rise = put.rise; each = by_name }
  where
    by_name : (name : List ℕ) (i : ℕ) (before after : Vec WordSpan Z) → common_place name commons ≡ Some i → slice_get old i ≡ Some before → slice_get new i ≡ Some after →
        as_stored after.items ≡ over_row row (as_stored words) name (as_stored before.items)
    by_name name i before after p e f = elim (same_text_tells row.name name) [
      | inl same ↦
          let at : place ≡ i = one_place (subst (λ k. common_place k commons ≡ Some place) same.1 there) p in
          put.here before after (subst (λ k. slice_get old k ≡ Some before) (sym at) e) (subst (λ k. slice_get new k ≡ Some after) (sym at) f)
          ∙ sym (ap (λ (b : Bool). if b then with_all_stored (as_stored words) (as_stored before.items) else as_stored before.items) same.0)
      | inr other ↦
          let apart = λ (k : place ≡ i). other.1 (found-once row.name name 0 (names_of_commons commons) i (subst (λ n. common_place row.name commons ≡ Some n) k there) p) in
          ap (λ (spans : Vec WordSpan Z). as_stored spans.items) (one_there old i after before (put.others i after apart f) e)
          ∙ sym (ap (λ (b : Bool). if b then with_all_stored (as_stored words) (as_stored before.items) else as_stored before.items) other.0)
    ]
      where
        one_place : {o : Option ℕ} {a b : ℕ} → o ≡ Some a → o ≡ Some b → a ≡ b
        one_place {o} {a} {b} g h = let same : Some a ≡ Some b = sym g ∙ h in cc

-- where the link has no common block of the name, all lists stay
pub row-none : {Z : Type 0} (commons : List Common) (row : BlockRow) (words : List WordSpan) (lists : List (Vec WordSpan Z)) → common_place row.name commons ≡ None → DoListsRise lists →
    AreMade commons (over_row row (as_stored words)) lists lists
row-none {Z = Z} commons row words lists none rise = record { same = refl; rise = rise; each = by_name }
  where
    by_name : (name : List ℕ) (i : ℕ) (before after : Vec WordSpan Z) → common_place name commons ≡ Some i → slice_get lists i ≡ Some before → slice_get lists i ≡ Some after →
        as_stored after.items ≡ over_row row (as_stored words) name (as_stored before.items)
    by_name name i before after p e f = elim (same_text_tells row.name name) [
      | inl same ↦ let there : common_place name commons ≡ None = subst (λ k. common_place k commons ≡ None) same.1 none in absurd (missing there p)
      | inr other ↦
          ap (λ (spans : Vec WordSpan Z). as_stored spans.items) (one_there lists i after before f e)
          ∙ sym (ap (λ (b : Bool). if b then with_all_stored (as_stored words) (as_stored before.items) else as_stored before.items) other.0)
    ]
      where
        missing : {o : Option ℕ} {k : ℕ} → o ≡ None → o ≡ Some k → ⊥
        missing {o} {k} g h = let same : None ≡ Some k = sym g ∙ h in cc

-- nothing is made
pub made-none : {Z : Type 0} (commons : List Common) (lists : List (Vec WordSpan Z)) → DoListsRise lists → AreMade commons (λ name words. words) lists lists
made-none {Z = Z} commons lists rise = record {
  same = refl;
  rise = rise;
  each = λ name i before after p e f. ap (λ (spans : Vec WordSpan Z). as_stored spans.items) (one_there lists i after before f e);
}

-- what is made the same way
pub made-same : {Z : Type 0} (commons : List Common) (f g : List ℕ → List StoredWord → List StoredWord) (old new : List (Vec WordSpan Z)) →
    ((name : List ℕ) (i : ℕ) (words : List StoredWord) → common_place name commons ≡ Some i → f name words ≡ g name words) → AreMade commons f old new → AreMade commons g old new
made-same commons f g old new same made = record {
  same = made.same;
  rise = made.rise;
  each = λ name i before after p e h. made.each name i before after p e h ∙ same name i (as_stored before.items) p;
}

-- one thing is made behind another
pub made-both : {Z : Type 0} (commons : List Common) (f g : List ℕ → List StoredWord → List StoredWord) (old middle new : List (Vec WordSpan Z)) →
    AreMade commons f old middle → AreMade commons g middle new → AreMade commons (λ name words. g name (f name words)) old new
made-both {Z = Z} commons f g old middle new first second = record {
  same = second.same ∙ first.same;
  rise = second.rise;
  each = by_name;
}
  where
    by_name : (name : List ℕ) (i : ℕ) (before after : Vec WordSpan Z) → common_place name commons ≡ Some i → slice_get old i ≡ Some before → slice_get new i ≡ Some after →
        as_stored after.items ≡ g name (f name (as_stored before.items))
    by_name name i before after p e h =
        let within = slice_get_within old i before e in
        let same = first.same in
        let between : slice_get middle i ≡ Some (get_or middle i before) = slice_get-get_or middle i before (omega (arith, within, same)) in
        second.each name i (get_or middle i before) after p between h ∙ ap (g name) (first.each name i before (get_or middle i before) p e between)

-- no row before one has its name
none-before : (rows : List BlockRow) (i : ℕ) (row : BlockRow) → DoNamesDiffer rows → slice_get rows i ≡ Some row → has_row row.name (take i rows) ≡ false
none-before [] i row differ e = cc
none-before (first ∷ rows) zero row differ e = refl
none-before (first ∷ rows) (suc i) row differ e =
    let apart = behind_other first.name rows i row (IsDistinct-head same_text first.name (map (λ (r : BlockRow). r.name) rows) differ) e in
    ap₂ (λ (a b : Bool). a || b) apart (none-before rows i row (IsDistinct-tail same_text first.name (map (λ (r : BlockRow). r.name) rows) differ) e)

-- the words of one row more are over those before
pub rows-more : (layout : Layout) (based : Based) (rows : List BlockRow) (i : ℕ) (row : BlockRow) (words : List StoredWord) → DoNamesDiffer rows → i < length rows → row ≡ get_or rows i row →
    words ≡ deck_words layout based row.name → (name : List ℕ) (earlier : List StoredWord) →
    over_row row words name (over_rows layout based (take i rows) name earlier) ≡ over_rows layout based (take (i + 1) rows) name earlier
rows-more layout based rows i row words differ h is w name earlier =
    elim (same_text_tells row.name name) [
      | inl same ↦
          let none : has_row name (take i rows) ≡ false =
          subst (λ k. has_row k (take i rows) ≡ false) same.1 (none-before rows i row differ (slice_get-get_or rows i row h ∙ ap Some (sym is))) in
          ap (λ (b : Bool). if b then with_all_stored words (over_rows layout based (take i rows) name earlier) else over_rows layout based (take i rows) name earlier) same.0
          ∙ ap₂ (λ (ws es : List StoredWord). with_all_stored ws es) (w ∙ ap (deck_words layout based) same.1) (ap (over_by name) none)
          ∙ sym (ap (over_by name) (more ∙ ap₂ (λ (a b : Bool). a || (b || false)) none same.0))
      | inr other ↦
          ap (λ (b : Bool). if b then with_all_stored words (over_rows layout based (take i rows) name earlier) else over_rows layout based (take i rows) name earlier) other.0
          ∙ sym (ap (over_by name) (more ∙ ap (λ (b : Bool). has_row name (take i rows) || (b || false)) other.0 ∙ or_none (has_row name (take i rows))))
    ]
  where
    over_by : List ℕ → Bool → List StoredWord
    over_by n b = if b then with_all_stored (deck_words layout based n) earlier else earlier

    or_none : (b : Bool) → (b || false) ≡ b
    or_none true = refl
    or_none false = refl

    more : has_row name (take (i + 1) rows) ≡ (has_row name (take i rows) || (same_text row.name name || false))
    more =
        ap (has_row name) (take_more rows i row h)
        ∙ list_any-append (λ (r : BlockRow). same_text r.name name) (take i rows) (get_or rows i row ∷ [])
        ∙ ap (λ (r : BlockRow). has_row name (take i rows) || (same_text r.name name || false)) (sym is)

-- where no row is that of a common block, none has the name of one
none-common : (commons : List Common) (rows : List BlockRow) (name : List ℕ) (i : ℕ) → has_common commons rows ≡ false → common_place name commons ≡ Some i → has_row name rows ≡ false
none-common commons [] name i e p = refl
none-common commons (row ∷ rows) name i e p =
    elim (same_text_tells row.name name) [
      | inl same ↦
          let there : is_some (common_place row.name commons) ≡ true = ap is_some (subst (λ k. common_place k commons ≡ Some i) (sym same.1) p) in
          absurd (not_both (is_some (common_place row.name commons)) there (first (is_some (common_place row.name commons)) (has_common commons rows) e))
      | inr other ↦ ap₂ (λ (a b : Bool). a || b) other.0 (none-common commons rows name i (second (is_some (common_place row.name commons)) (has_common commons rows) e) p)
    ]
  where
    first : (a b : Bool) → (a || b) ≡ false → a ≡ false
    first true b h = h
    first false b h = refl

    second : (a b : Bool) → (a || b) ≡ false → b ≡ false
    second true b h = cc
    second false b h = h

-- a deck that has no block of a name stores nothing there
abbrev pub StoresNowhere : Layout → Based → List BlockRow → Type 0
StoresNowhere layout based rows = (name : List ℕ) → has_row name rows ≡ false → deck_words layout based name ≡ []

-- a deck without common blocks
pub deck-none : {Z : Type 0} (layout : Layout) (based : Based) (rows : List BlockRow) (lists : List (Vec WordSpan Z)) → StoresNowhere layout based rows → has_common layout.commons rows ≡ false →
    DoListsRise lists → AreMade layout.commons (over_deck layout based) lists lists
deck-none layout based rows lists nowhere none rise =
    made-same layout.commons (λ name words. words) (over_deck layout based) lists lists
    (λ name i words p. sym (ap (λ (ws : List StoredWord). with_all_stored ws words) (nowhere name (none-common layout.commons rows name i none p))))
    (made-none layout.commons lists rise)

-- a deck with all its rows
pub deck-rows : {Z : Type 0} (layout : Layout) (based : Based) (rows : List BlockRow) (old new : List (Vec WordSpan Z)) → StoresNowhere layout based rows →
    AreMade layout.commons (over_rows layout based rows) old new → AreMade layout.commons (over_deck layout based) old new
deck-rows layout based rows old new nowhere made =
    made-same layout.commons (over_rows layout based rows) (over_deck layout based) old new (λ name i words p. by_row name words (has_row name rows) refl) made
  where
    by_row : (name : List ℕ) (words : List StoredWord) (b : Bool) → has_row name rows ≡ b → (if b then with_all_stored (deck_words layout based name) words else words) ≡ over_deck layout based name words
    by_row name words true e = refl
    by_row name words false e = sym (ap (λ (ws : List StoredWord). with_all_stored ws words) (nowhere name e))

-- one deck more
over-decks-more : (layout : Layout) (name : List ℕ) (decks : List Based) (based : Based) (earlier : List StoredWord) →
    over_deck layout based name (over_decks layout name decks earlier) ≡ over_decks layout name (decks ++ based ∷ []) earlier
over-decks-more layout name [] based earlier = refl
over-decks-more layout name (first ∷ decks) based earlier = over-decks-more layout name decks based (over_deck layout first name earlier)

pub decks-more : (layout : Layout) (decks : List Based) (i : ℕ) (based : Based) → i < length decks → based ≡ get_or decks i based → (name : List ℕ) (earlier : List StoredWord) →
    over_deck layout based name (over_decks layout name (take i decks) earlier) ≡ over_decks layout name (take (i + 1) decks) earlier
decks-more layout decks i based h is name earlier =
    over-decks-more layout name (take i decks) based earlier
    ∙ ap (λ (l : List Based). over_decks layout name l earlier) (ap (λ (d : Based). take i decks ++ d ∷ []) is ∙ sym (take_more decks i based h))

-- lists without words are by increasing offset
pub none-rise : {Z : Type 0} (count : ℕ) (lists : List (Vec WordSpan Z)) → AreNone count lists → DoListsRise lists
none-rise {Z = Z} count lists none i spans e = subst (λ (words : List WordSpan). DoSpansRise 0 words (2 ^ 20)) (sym (none.none i spans e)) (omega arith)

-- the words of decks, one over the other from none on, are those that the definitions lay
decks-laid : (layout : Layout) (name : List ℕ) (decks : List Based) → over_decks layout name decks [] ≡ common_words layout name decks
decks-laid layout name decks = over-laid (map (λ (based : Based). deck_words layout based name) decks) (each decks)
  where
    each : (left : List Based) → AllByRecursion DoesRise (map (λ (based : Based). deck_words layout based name) left)
    each [] = tt
    each (based ∷ left) = (stored-rise based.object.kind (runs_of based.object.kind (linking_of layout based) name based.object.coded), each left)

-- the words of all decks
pub all-made : {Z : Type 0} (layout : Layout) (count : ℕ) (old new : List (Vec WordSpan Z)) → AreNone count old → count ≡ length layout.commons →
    AreMade layout.commons (λ name words. over_decks layout name layout.decks words) old new → AreCommonWords layout new
all-made {Z = Z} layout count old new none counted made = record {
  same = made.same ∙ none.same ∙ counted;
  rise = made.rise;
  each = by_name;
}
  where
    by_name : (name : List ℕ) (i : ℕ) (spans : Vec WordSpan Z) → common_place name layout.commons ≡ Some i → slice_get new i ≡ Some spans → as_stored spans.items ≡ common_words layout name layout.decks
    by_name name i spans p e =
        let within = slice_get_within new i spans e in
        let same = made.same in
        let there : slice_get old i ≡ Some (get_or old i spans) = slice_get-get_or old i spans (omega (arith, within, same)) in
        made.each name i (get_or old i spans) spans p there e
        ∙ ap (λ (ws : List WordSpan). over_decks layout name layout.decks (as_stored ws)) (none.none i (get_or old i spans) there)
        ∙ decks-laid layout name layout.decks

-- one list more without words
pub none-more : {Z : Type 0} (count : ℕ) (old new : List (Vec WordSpan Z)) (last : Vec WordSpan Z) → AreNone count old → last.items ≡ [] → new ≡ old ++ last ∷ [] → AreNone (count + 1) new
none-more {Z = Z} count old new last none empty e = record {
  same = ap length e ∙ length-append old (last ∷ []) ∙ (let same = none.same in omega (arith, same));
  none = λ i spans f. pushed old i spans none.none (subst (λ all. slice_get all i ≡ Some spans) e f);
}
  where
    pushed : (all : List (Vec WordSpan Z)) (i : ℕ) (spans : Vec WordSpan Z) → ((i : ℕ) (s : Vec WordSpan Z) → slice_get all i ≡ Some s → s.items ≡ []) → slice_get (all ++ last ∷ []) i ≡ Some spans → spans.items ≡ []
    pushed [] zero spans each f = let is : last ≡ spans = cc in ap (λ (s : Vec WordSpan Z). s.items) (sym is) ∙ empty
    pushed [] (suc i) spans each f = cc
    pushed (first ∷ all) zero spans each f = each zero spans f
    pushed (first ∷ all) (suc i) spans each f = pushed all i spans (λ j. each (suc j)) f
