-- Spans of cards as statements newest first, and where END stands among them.
use Rattle.std.{proofs.Common.{◌≡◌, ℕ, suc, ◌<◌, ◌≤◌, ◌||◌, Bool, true, false, true≢false, List, [], ◌∷◌, ◌++◌, length, take, drop, get_or, refl, sym, ap, ap₂, ◌∙◌, subst, arith, take-append-drop, length-append, length-take-le, All}, specs.Prelude.reverse, proofs.Math.Seq.{take-suc, take-length}, proofs.lemmas.List.{reverse-append, length-reverse, length-drop, map-append, length-map, drop_all}, proofs.lemmas.List.Elements.All-get_or}
use Rattle.cards.specs.{Joins.Spans.{IsSpan, statement_at, statements_at}, declared.statement_list.Span.Span}
use Rattle.definitions.specs.{Cards.Card, DeckKinds.{is_end, has_end, up_to_end, behind_end}, Fields.fields_of, Statements.{Statement, AreNumbered}}
use Rattle.deck_assembler.specs.Joins.{FirstStatements.{first_statements, all_statements, IsEnding}, Sizers.{stood, IsNext}}

-- one span more
pub first-step : (cards : List Card) (spans : List Span) (count : ℕ) (span : Span) → count < length spans →
    first_statements cards spans (suc count) ≡ statement_at cards (get_or spans count span) ∷ first_statements cards spans count
first-step cards spans count span within =
    ap (λ taken. reverse (statements_at cards taken)) (take-suc spans count span within)
    ∙ ap reverse (map-append (statement_at cards) (take count spans) (get_or spans count span ∷ []))
    ∙ reverse-append (statements_at cards (take count spans)) (statement_at cards (get_or spans count span) ∷ [])

-- the spans behind the first so many, and those
pub all-split : (cards : List Card) (spans : List Span) (count : ℕ) → all_statements cards spans ≡ reverse (statements_at cards (drop count spans)) ++ first_statements cards spans count
all-split cards spans count =
    sym (
    sym (reverse-append (statements_at cards (take count spans)) (statements_at cards (drop count spans)))
    ∙ ap reverse (sym (map-append (statement_at cards) (take count spans) (drop count spans)))
    ∙ ap (all_statements cards) (take-append-drop count spans)
    )

numbered-behind : (later earlier : List Statement) → AreNumbered (later ++ earlier) → AreNumbered earlier
numbered-behind [] earlier h = h
numbered-behind (statement ∷ later) earlier h = numbered-behind later earlier h.1

-- a span that begins behind the statements before it is the next one
pub next-span : (cards : List Card) (earlier : List Statement) (span : Span) → IsSpan (length cards) span → span.start ≡ stood earlier → IsNext cards earlier span.count (statement_at cards span)
next-span cards earlier span is before =
    let left = length-drop (stood earlier) cards in
    let whole = is.within in
    record {
      before = before;
      cards = ap (λ n. take span.count (drop n cards)) (sym before);
      some = is.some;
      few = is.few;
      within = omega (arith, left, whole, before);
    }

-- the next span is the next statement
pub next-at : (cards : List Card) (spans : List Span) (count : ℕ) (span : Span) → count < length spans → All (IsSpan (length cards)) spans → AreNumbered (all_statements cards spans) →
    IsNext cards (first_statements cards spans count) (get_or spans count span).count (statement_at cards (get_or spans count span))
next-at cards spans count span within all numbered =
    let here = get_or spans count span in
    let earlier = first_statements cards spans count in
    let split = all-split cards spans (suc count) ∙ ap (λ (l : List Statement). reverse (statements_at cards (drop (suc count) spans)) ++ l) (first-step cards spans count span within) in
    next-span cards earlier here (All-get_or (IsSpan (length cards)) spans count span within all)
    (numbered-behind (reverse (statements_at cards (drop (suc count) spans))) (statement_at cards here ∷ earlier) (subst AreNumbered split numbered)).0

has_end-behind : (later earlier : List Statement) → has_end earlier ≡ true → has_end (later ++ earlier) ≡ true
has_end-behind [] earlier h = h
has_end-behind (statement ∷ later) earlier h = ap (λ b. is_end (fields_of statement.cards) || b) (has_end-behind later earlier h) ∙ or-true (is_end (fields_of statement.cards))
  where
    or-true : (b : Bool) → (b || true) ≡ true
    or-true true = refl
    or-true false = refl

abbrev front_if : Bool → List Statement → List Statement → List Statement
front_if b short long = elim b [ true ↦ short | false ↦ long ]

-- END and the statements before it
end-front : (later earlier : List Statement) (statement : Statement) → has_end earlier ≡ false → has_end (statement ∷ earlier) ≡ true →
    (up_to_end (later ++ statement ∷ earlier) ≡ statement ∷ earlier) × (behind_end (later ++ statement ∷ earlier) ≡ later)
end-front [] earlier statement e h = (
  ap (λ b. front_if b (up_to_end earlier) (statement ∷ earlier)) e,
  ap (λ b. front_if b (statement ∷ behind_end earlier) []) e,
)
end-front (last ∷ later) earlier statement e h =
    let rest = end-front later earlier statement e h in
    let whole = later ++ statement ∷ earlier in
    let there = has_end-behind later (statement ∷ earlier) h in (
      ap (λ b. front_if b (up_to_end whole) (last ∷ whole)) there ∙ rest.0,
      ap (λ b. front_if b (last ∷ behind_end whole) []) there ∙ ap (λ (l : List Statement). last ∷ l) rest.1,
    )

or-last : (x y : Bool) → (x || y) ≡ false → y ≡ false
or-last true y h = absurd (true≢false h)
or-last false y h = h

-- no END
pub end-none : (statements : List Statement) → has_end statements ≡ false → (up_to_end statements ≡ statements) × (behind_end statements ≡ [])
end-none [] h = (refl, refl)
end-none (last ∷ earlier) h =
    let e = or-last (is_end (fields_of last.cards)) (has_end earlier) h in
    (ap (λ b. front_if b (up_to_end earlier) (last ∷ earlier)) e, ap (λ b. front_if b (last ∷ behind_end earlier) []) e)

-- a statement that no END stands before is among those up to END
end-behind : (later earlier : List Statement) (statement : Statement) → has_end earlier ≡ false → suc (length earlier) ≤ length (up_to_end (later ++ statement ∷ earlier))
end-behind [] earlier statement e = let same = ap (λ b. length (front_if b (up_to_end earlier) (statement ∷ earlier))) e in omega (arith, same)
end-behind (last ∷ later) earlier statement e = by (has_end whole) (end-behind later earlier statement e)
  where
    whole : List Statement
    whole = later ++ statement ∷ earlier

    by : (b : Bool) → suc (length earlier) ≤ length (up_to_end whole) → suc (length earlier) ≤ length (front_if b (up_to_end whole) (last ∷ whole))
    by true h = h
    by false h = let all = length-append later (statement ∷ earlier) in omega (arith, all)

-- and it stands there with those before it
end-open : (later earlier : List Statement) (statement : Statement) → has_end earlier ≡ false → (others : List Statement) × (up_to_end (later ++ statement ∷ earlier) ≡ others ++ statement ∷ earlier)
end-open [] earlier statement e = ([], ap (λ b. front_if b (up_to_end earlier) (statement ∷ earlier)) e)
end-open (last ∷ later) earlier statement e = by (has_end whole) (end-open later earlier statement e)
  where
    whole : List Statement
    whole = later ++ statement ∷ earlier

    by : (b : Bool) → (others : List Statement) × (up_to_end whole ≡ others ++ statement ∷ earlier) → (others : List Statement) × (front_if b (up_to_end whole) (last ∷ whole) ≡ others ++ statement ∷ earlier)
    by true h = h
    by false h = (last ∷ later, refl)

pub length-first : (cards : List Card) (spans : List Span) (count : ℕ) → count ≤ length spans → length (first_statements cards spans count) ≡ count
length-first cards spans count within =
    length-reverse (statements_at cards (take count spans)) ∙ length-map (take count spans) (statement_at cards) ∙ length-take-le count spans within

-- so many statements stand up to END
pub few-sized : (cards : List Card) (spans : List Span) (count : ℕ) (span : Span) → count < length spans → has_end (first_statements cards spans count) ≡ false →
    suc count ≤ length (up_to_end (all_statements cards spans))
few-sized cards spans count span within e =
    let earlier = first_statements cards spans count in
    let split = all-split cards spans (suc count) ∙ ap (λ (l : List Statement). reverse (statements_at cards (drop (suc count) spans)) ++ l) (first-step cards spans count span within) in
    let h = end-behind (reverse (statements_at cards (drop (suc count) spans))) earlier (statement_at cards (get_or spans count span)) e in
    let n = length-first cards spans count (omega arith) in
    let all = ap (λ (l : List Statement). length (up_to_end l)) split in
    omega (arith, h, n, all)

-- the next statement among those up to END, and those before it
pub open-at : (cards : List Card) (spans : List Span) (count : ℕ) (span : Span) → count < length spans → has_end (first_statements cards spans count) ≡ false →
    (others : List Statement) × (up_to_end (all_statements cards spans) ≡ others ++ statement_at cards (get_or spans count span) ∷ first_statements cards spans count)
open-at cards spans count span within e =
    let later = reverse (statements_at cards (drop (suc count) spans)) in
    let split = all-split cards spans (suc count) ∙ ap (λ (l : List Statement). later ++ l) (first-step cards spans count span within) in
    let there = end-open later (first_statements cards spans count) (statement_at cards (get_or spans count span)) e in
    (there.0, ap up_to_end split ∙ there.1)

-- the first END
pub ending-here : (cards : List Card) (spans : List Span) (count : ℕ) (span : Span) → count < length spans → has_end (first_statements cards spans count) ≡ false →
    is_end (fields_of (statement_at cards (get_or spans count span)).cards) ≡ true → IsEnding cards spans (suc count)
ending-here cards spans count span within e end =
    let earlier = first_statements cards spans count in
    let here = statement_at cards (get_or spans count span) in
    let later = reverse (statements_at cards (drop (suc count) spans)) in
    let step = first-step cards spans count span within in
    let split = all-split cards spans (suc count) ∙ ap (λ (l : List Statement). later ++ l) step in
    let both = end-front later earlier here e (ap (λ b. b || has_end earlier) end) in
    record {
      within = omega arith;
      front = ap up_to_end split ∙ both.0 ∙ sym step;
      behind = ap behind_end split ∙ both.1;
    }

-- no END so far
pub open-step : (cards : List Card) (spans : List Span) (count : ℕ) (span : Span) → count < length spans → has_end (first_statements cards spans count) ≡ false →
    is_end (fields_of (statement_at cards (get_or spans count span)).cards) ≡ false → has_end (first_statements cards spans (suc count)) ≡ false
open-step cards spans count span within e end =
    ap has_end (first-step cards spans count span within) ∙ ap₂ (λ a b. a || b) end e

-- no END at all
pub ending-none : (cards : List Card) (spans : List Span) (count : ℕ) → length spans ≤ count → count ≤ length spans → has_end (first_statements cards spans count) ≡ false → IsEnding cards spans count
ending-none cards spans count most few e =
    let n : count ≡ length spans = omega arith in
    let all : first_statements cards spans count ≡ all_statements cards spans = ap (first_statements cards spans) n ∙ ap (all_statements cards) (take-length spans) in
    let both = end-none (all_statements cards spans) (ap has_end (sym all) ∙ e) in
    record {
      within = few;
      front = both.0 ∙ sym all;
      behind = both.1 ∙ ap (λ rest. reverse (statements_at cards rest)) (sym (drop_all count spans most));
    }

-- so many statements are those up to END
pub ending-length : (cards : List Card) (spans : List Span) (count : ℕ) → IsEnding cards spans count → length (up_to_end (all_statements cards spans)) ≡ count
ending-length cards spans count ending = ap length ending.front ∙ length-first cards spans count ending.within

-- where no END stands, all statements are those up to END
pub few-all : (cards : List Card) (spans : List Span) (count : ℕ) → count ≡ length spans → has_end (first_statements cards spans count) ≡ false → count ≤ length (up_to_end (all_statements cards spans))
few-all cards spans count n e =
    let ending = ending-none cards spans count (omega arith) (omega arith) e in
    let all = ap length ending.front in
    let own = length-first cards spans count (omega arith) in
    omega (arith, all, own)
