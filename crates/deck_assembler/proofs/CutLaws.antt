-- From a place on where statements begin in two decks, and the same cards follow, both are cut into the same statements.
use Rattle.std.{proofs.Common.{◌≡◌, ℕ, suc, ◌<◌, inl, inr, ◌⊎◌, ◌&&◌, Bool, true, false, List, [], ◌∷◌, ◌++◌, take, drop, length, refl, sym, ap, ap₂, ◌∙◌, subst, arith, append_assoc, length-append, take-append-drop, if◌then◌else◌}, specs.Prelude.{⊤, reverse, nat_le, not, ◌||◌}, specs.List.AllByRecursion, proofs.lemmas.Bool.{leb-false, lt-leb}, proofs.lemmas.List.{reverse-append, reverse-reverse, length-reverse, length-drop}}
use Rattle.definitions.{specs.Cards.{Card, is_comma_card, is_comment}, specs.DeckKinds.{is_end, has_end, up_to_end, behind_end}, specs.Fields.fields_of, specs.Statements.{Statement, cards_in, statements_of, onto_latest, continues, has_owner, comma_cards}, specs.Laws.Agreement.HaveSameCards, proofs.EditLaws.cards_in-append, proofs.NamesLaws.all-behind, proofs.StatementLaws.cards_in-statements_of}
use Rattle.deck_assembler.{specs.Joins.Formers.known_in, specs.Joins.Sizers.stood, proofs.EndLaws.end-none}

-- each statement has a card
abbrev HaveCards : List Statement → Type 0
HaveCards statements = AllByRecursion (λ (statement : Statement). 0 < length statement.cards) statements

-- statements with a card more, which goes on with the latest one or not
abbrev onto : Bool → ℕ → Card → List Statement → List Statement
onto goes_on before card statements = if goes_on then onto_latest card statements else (record { before = before; cards = card ∷ [] } ∷ statements)

have-onto : (goes_on : Bool) (before : ℕ) (card : Card) (statements : List Statement) → HaveCards statements → HaveCards (onto goes_on before card statements)
have-onto true before card [] h = tt
have-onto true before card (latest ∷ others) h = let more = length-append latest.cards (card ∷ []) in (omega (arith, more), h.1)
have-onto false before card statements h = (omega arith, h)

have-cards : (cards : List Card) → HaveCards (statements_of cards)
have-cards [] = tt
have-cards (card ∷ earlier) = have-onto (continues earlier card) (length earlier) card (statements_of earlier) (have-cards earlier)

-- statements without cards are none
no-cards : (behind front : List Statement) → HaveCards (behind ++ front) → length (cards_in behind) ≡ 0 → behind ≡ []
no-cards [] front h none = refl
no-cards (statement ∷ behind) front h none = let parts = length-append (cards_in behind) statement.cards in let some = h.0 in absurd (omega (arith, none, parts, some))

-- the first of these cards, which are read newest first, does not go on with a statement of the cards before
abbrev Begins : List Card → List Card → Type 0
Begins [] earlier = ⊤
Begins (card ∷ []) earlier = continues earlier card ≡ false
Begins (card ∷ next ∷ rest) earlier = Begins (next ∷ rest) earlier

first-of : {X : Type 0} (a b : X) (x y : List X) → a ∷ x ≡ b ∷ y → a ≡ b
first-of a b x y e = cc

rest-of : {X : Type 0} (a b : X) (x y : List X) → a ∷ x ≡ b ∷ y → x ≡ y
rest-of a b x y e = cc

-- where the cards of the statements behind a front end, one begins
cut-behind : (rest earlier : List Card) (behind front : List Statement) → statements_of (rest ++ earlier) ≡ behind ++ front → length (cards_in behind) ≡ length rest →
    (statements_of earlier ≡ front) × Begins rest earlier
cut-behind [] earlier behind front e count =
    let none = no-cards behind front (subst HaveCards e (have-cards earlier)) count in
    (e ∙ ap (λ (l : List Statement). l ++ front) none, tt)
cut-behind (card ∷ rest) earlier behind front e count = by (continues (rest ++ earlier) card) (statements_of (rest ++ earlier)) refl refl behind e count (cut-behind rest earlier)
  where
    all : List Card
    all = rest ++ earlier

    Found : Type 0
    Found = (statements_of earlier ≡ front) × Begins (card ∷ rest) earlier

    -- where the card begins a statement
    begins : (l : List Card) → continues (l ++ earlier) card ≡ false → Begins l earlier → Begins (card ∷ l) earlier
    begins [] first h = first
    begins (next ∷ l) first h = h

    -- where it doesn't there is one before it
    goes : (l : List Card) → 0 < length l → Begins l earlier → Begins (card ∷ l) earlier
    goes [] some h = absurd (omega (arith, some))
    goes (next ∷ l) some h = h

    by : (goes_on : Bool) (statements : List Statement) → continues all card ≡ goes_on → statements_of all ≡ statements → (behind : List Statement) →
        onto (continues all card) (length all) card (statements_of all) ≡ behind ++ front → length (cards_in behind) ≡ suc (length rest) →
        ((behind front : List Statement) → statements_of (rest ++ earlier) ≡ behind ++ front → length (cards_in behind) ≡ length rest → (statements_of earlier ≡ front) × Begins rest earlier) → Found
    by goes_on statements is are [] e count more = absurd (omega (arith, count))
    by true [] is are (statement ∷ behind) e count more = absurd (nothing e)
      where
        nothing : onto (continues all card) (length all) card (statements_of all) ≡ statement ∷ (behind ++ front) → ⊥
        nothing e = let other : [] ≡ statement ∷ (behind ++ front) = ap₂ (λ (b : Bool) (l : List Statement). onto b (length all) card l) (sym is) (sym are) ∙ e in cc
    by true (latest ∷ others) is are (statement ∷ behind) e count more =
        let other : record { before = latest.before; cards = latest.cards ++ card ∷ [] } ∷ others ≡ statement ∷ (behind ++ front) =
        ap₂ (λ (b : Bool) (l : List Statement). onto b (length all) card l) (sym is) (sym are) ∙ e in
        let own = ap (λ (s : Statement). length s.cards) (first-of (record { before = latest.before; cards = latest.cards ++ card ∷ [] }) statement others (behind ++ front) other) in
        let parts = length-append latest.cards (card ∷ []) in
        let whole = length-append (cards_in behind) statement.cards in
        let fewer = length-append (cards_in behind) latest.cards in
        let some : 0 < length latest.cards = (subst HaveCards are (have-cards all)).0 in
        let found = more (latest ∷ behind) front (are ∙ ap (λ (l : List Statement). latest ∷ l) (rest-of (record { before = latest.before; cards = latest.cards ++ card ∷ [] }) statement others (behind ++ front) other))
        (omega (arith, own, parts, whole, fewer, count)) in
        (found.0, goes rest (omega (arith, own, parts, whole, count, some)) found.1)
    by false statements is are (statement ∷ behind) e count more =
        let fresh : Statement = record { before = length all; cards = card ∷ [] } in
        let other : fresh ∷ statements ≡ statement ∷ (behind ++ front) = ap₂ (λ (b : Bool) (l : List Statement). onto b (length all) card l) (sym is) (sym are) ∙ e in
        let own = ap (λ (s : Statement). length s.cards) (first-of fresh statement statements (behind ++ front) other) in
        let whole = length-append (cards_in behind) statement.cards in
        let found = more behind front (are ∙ rest-of fresh statement statements (behind ++ front) other) (omega (arith, own, whole, count)) in
        (found.0, begins rest is found.1)

-- behind two lists of cards it is decided alike whether a comma card goes on with a statement: all that decides it is the same, or none does
abbrev SeeAlike : Bool → ℕ → Bool → ℕ → Type 0
SeeAlike owner commas other_owner other_commas =
    ((owner ≡ other_owner) × (commas ≡ other_commas)) ⊎ (((owner && nat_le commas 8) ≡ false) × ((other_owner && nat_le other_commas 8) ≡ false))

abbrev AreSeenAlike : List Card → List Card → Type 0
AreSeenAlike a b = SeeAlike (has_owner a) (comma_cards a) (has_owner b) (comma_cards b)

-- no more go on behind one comma card more
none-later : (owner : Bool) (commas : ℕ) → (owner && nat_le commas 8) ≡ false → (owner && nat_le (suc commas) 8) ≡ false
none-later false commas none = refl
none-later true commas none = let more = leb-false commas 8 none in lt-leb (suc commas) 8 (omega (arith, more))

seen-step : (is_comma owner other_owner fresh : Bool) (commas other_commas : ℕ) → SeeAlike owner commas other_owner other_commas →
    SeeAlike (if is_comma then owner else fresh) (if is_comma then suc commas else 0) (if is_comma then other_owner else fresh) (if is_comma then suc other_commas else 0)
seen-step true owner other_owner fresh commas other_commas (inl same) = inl (same.0, ap suc same.1)
seen-step true owner other_owner fresh commas other_commas (inr none) = inr (none-later owner commas none.0, none-later other_owner other_commas none.1)
seen-step false owner other_owner fresh commas other_commas h = inl (refl, refl)

seen-first : (is_comma owner other_owner fresh : Bool) (commas other_commas : ℕ) → (is_comma && owner && nat_le commas 8) ≡ false → (is_comma && other_owner && nat_le other_commas 8) ≡ false →
    SeeAlike (if is_comma then owner else fresh) (if is_comma then suc commas else 0) (if is_comma then other_owner else fresh) (if is_comma then suc other_commas else 0)
seen-first true owner other_owner fresh commas other_commas h k = inr (none-later owner commas h, none-later other_owner other_commas k)
seen-first false owner other_owner fresh commas other_commas h k = inl (refl, refl)

-- the same cards follow
seen-all : (card : Card) (rest a b : List Card) → Begins (card ∷ rest) a → Begins (card ∷ rest) b → AreSeenAlike (card ∷ (rest ++ a)) (card ∷ (rest ++ b))
seen-all card [] a b h k = seen-first (is_comma_card card) (has_owner a) (has_owner b) (not (is_comment card)) (comma_cards a) (comma_cards b) h k
seen-all card (next ∷ rest) a b h k =
    seen-step (is_comma_card card) (has_owner (next ∷ (rest ++ a))) (has_owner (next ∷ (rest ++ b))) (not (is_comment card)) (comma_cards (next ∷ (rest ++ a))) (comma_cards (next ∷ (rest ++ b)))
    (seen-all next rest a b h k)

goes-alike : (is_comma owner other_owner : Bool) (commas other_commas : ℕ) → SeeAlike owner commas other_owner other_commas →
    (is_comma && owner && nat_le commas 8) ≡ (is_comma && other_owner && nat_le other_commas 8)
goes-alike is_comma owner other_owner commas other_commas (inl same) = ap₂ (λ (o : Bool) (n : ℕ). is_comma && o && nat_le n 8) same.0 same.1
goes-alike true owner other_owner commas other_commas (inr none) = none.0 ∙ sym none.1
goes-alike false owner other_owner commas other_commas (inr none) = refl

-- two decks of the same cards behind these, as statements
record AreCut (card : Card) (rest a b : List Card) : Type 0 where
  first : Statement
  second : Statement
  behind : List Statement
  other : List Statement
  of_a : statements_of (card ∷ (rest ++ a)) ≡ first ∷ (behind ++ statements_of a)
  of_b : statements_of (card ∷ (rest ++ b)) ≡ second ∷ (other ++ statements_of b)
  here : first.cards ≡ second.cards
  later : HaveSameCards behind other

-- a card more
cut-more : (goes_on : Bool) (card : Card) (before there : ℕ) (first second : Statement) (behind other x y : List Statement) → first.cards ≡ second.cards → HaveSameCards behind other →
    (newest : Statement) × (latest : Statement) × (found : List Statement) × (others : List Statement)
    × ((onto goes_on before card (first ∷ (behind ++ x)) ≡ newest ∷ (found ++ x)) × ((onto goes_on there card (second ∷ (other ++ y)) ≡ latest ∷ (others ++ y)) × ((newest.cards ≡ latest.cards) × HaveSameCards found others)))
cut-more true card before there first second behind other x y same later = (
  record { before = first.before; cards = first.cards ++ card ∷ [] },
  record { before = second.before; cards = second.cards ++ card ∷ [] },
  behind,
  other,
  (refl, (refl, (ap (λ (l : List Card). l ++ card ∷ []) same, later))),
)
cut-more false card before there first second behind other x y same later = (
  record { before = before; cards = card ∷ [] },
  record { before = there; cards = card ∷ [] },
  first ∷ behind,
  second ∷ other,
  (refl, (refl, (refl, (same, later)))),
)

are-cut : (card : Card) (rest a b : List Card) → Begins (card ∷ rest) a → Begins (card ∷ rest) b → AreCut card rest a b
are-cut card [] a b h k = record {
  first = record { before = length a; cards = card ∷ [] };
  second = record { before = length b; cards = card ∷ [] };
  behind = [];
  other = [];
  of_a = ap (λ (goes_on : Bool). onto goes_on (length a) card (statements_of a)) h;
  of_b = ap (λ (goes_on : Bool). onto goes_on (length b) card (statements_of b)) k;
  here = refl;
  later = tt;
}
are-cut card (next ∷ rest) a b h k =
    let so_far = are-cut next rest a b h k in
    let one : List Card = next ∷ (rest ++ a) in
    let two : List Card = next ∷ (rest ++ b) in
    let alike : continues one card ≡ continues two card =
    goes-alike (is_comma_card card) (has_owner one) (has_owner two) (comma_cards one) (comma_cards two) (seen-all next rest a b h k) in
    let step = cut-more (continues one card) card (length one) (length two) so_far.first so_far.second so_far.behind so_far.other (statements_of a) (statements_of b) so_far.here so_far.later in
    record {
      first = step.0;
      second = step.1;
      behind = step.2;
      other = step.3;
      of_a = ap (onto (continues one card) (length one) card) so_far.of_a ∙ step.4.0;
      of_b = ap₂ (λ (goes_on : Bool) (l : List Statement). onto goes_on (length two) card l) (sym alike) so_far.of_b ∙ step.4.1.0;
      here = step.4.1.1.0;
      later = step.4.1.1.1;
    }

-- what stands behind the same list
pub behind-same : (a b front : List Statement) → a ++ front ≡ b ++ front → a ≡ b
behind-same [] [] front e = refl
behind-same [] (first ∷ b) front e = let whole = ap length e in let parts = length-append b front in absurd (omega (arith, whole, parts))
behind-same (first ∷ a) [] front e = let whole = ap length e in let parts = length-append a front in absurd (omega (arith, whole, parts))
behind-same (first ∷ a) (second ∷ b) front e =
    ap₂ (λ (s : Statement) (l : List Statement). s ∷ l) (first-of first second (a ++ front) (b ++ front) e) (behind-same a b front (rest-of first second (a ++ front) (b ++ front) e))

-- the same cards behind two fronts are cut alike
cut-same : (rest a b : List Card) (behind front other earlier : List Statement) → statements_of (rest ++ a) ≡ behind ++ front → length (cards_in behind) ≡ length rest →
    statements_of (rest ++ b) ≡ other ++ earlier → length (cards_in other) ≡ length rest → HaveSameCards behind other
cut-same [] a b behind front other earlier e n f m =
    let first = no-cards behind front (subst HaveCards e (have-cards a)) n in
    let second = no-cards other earlier (subst HaveCards f (have-cards b)) m in
    subst (λ (both : List Statement × List Statement). HaveSameCards both.0 both.1) (λ i. (sym first i, sym second i)) tt
cut-same (card ∷ rest) a b behind front other earlier e n f m =
    let first = cut-behind (card ∷ rest) a behind front e n in
    let second = cut-behind (card ∷ rest) b other earlier f m in
    let cut = are-cut card rest a b first.1 second.1 in
    let x : behind ≡ cut.first ∷ cut.behind = behind-same behind (cut.first ∷ cut.behind) front (sym e ∙ cut.of_a ∙ ap (λ (l : List Statement). cut.first ∷ (cut.behind ++ l)) first.0) in
    let y : other ≡ cut.second ∷ cut.other = behind-same other (cut.second ∷ cut.other) earlier (sym f ∙ cut.of_b ∙ ap (λ (l : List Statement). cut.second ∷ (cut.other ++ l)) second.0) in
    subst (λ (both : List Statement × List Statement). HaveSameCards both.0 both.1) (λ i. (sym x i, sym y i)) (cut.here, cut.later)

abbrev front_if : Bool → List Statement → List Statement → List Statement
front_if b short long = elim b [ true ↦ short | false ↦ long ]

-- the statements behind END, and those up to it
split-end : (statements : List Statement) → statements ≡ behind_end statements ++ up_to_end statements
split-end [] = refl
split-end (statement ∷ earlier) = by (has_end earlier) (split-end earlier)
  where
    by : (b : Bool) → earlier ≡ behind_end earlier ++ up_to_end earlier →
        statement ∷ earlier ≡ front_if b (statement ∷ behind_end earlier) [] ++ front_if b (up_to_end earlier) (statement ∷ earlier)
    by true e = ap (λ (l : List Statement). statement ∷ l) e
    by false e = refl

-- each statement up to END has a card
pub known-cards : (cards : List Card) → AllByRecursion (λ (statement : Statement). 0 < length statement.cards) (known_in cards)
known-cards cards =
    let all = statements_of (reverse cards) in
    all-behind (λ (statement : Statement). 0 < length statement.cards) (behind_end all) (up_to_end all) (subst HaveCards (split-end all) (have-cards (reverse cards)))

-- where there is no END in front
end-over : (behind front : List Statement) → has_end front ≡ false → (up_to_end (behind ++ front) ≡ up_to_end behind ++ front) × (has_end (behind ++ front) ≡ has_end behind)
end-over [] front none = ((end-none front none).0, none)
end-over (statement ∷ behind) front none =
    let more = end-over behind front none in
    (by (has_end behind) more.1 more.0, ap (λ (b : Bool). is_end (fields_of statement.cards) || b) more.1)
  where
    by : (b : Bool) → has_end (behind ++ front) ≡ b → up_to_end (behind ++ front) ≡ up_to_end behind ++ front →
        front_if (has_end (behind ++ front)) (up_to_end (behind ++ front)) (statement ∷ (behind ++ front)) ≡ front_if b (up_to_end behind) (statement ∷ behind) ++ front
    by true is e = ap (λ (b : Bool). front_if b (up_to_end (behind ++ front)) (statement ∷ (behind ++ front))) is ∙ e
    by false is e = ap (λ (b : Bool). front_if b (up_to_end (behind ++ front)) (statement ∷ (behind ++ front))) is

-- the same cards have the same END
same-end : (a b : List Statement) → HaveSameCards a b → (has_end a ≡ has_end b) × HaveSameCards (up_to_end a) (up_to_end b)
same-end [] [] h = (refl, tt)
same-end [] (second ∷ b) h = absurd h
same-end (first ∷ a) [] h = absurd h
same-end (first ∷ a) (second ∷ b) h =
    let more = same-end a b h.1 in
    (ap₂ (λ (c : List Card) (e : Bool). is_end (fields_of c) || e) h.0 more.0, by (has_end b) more.0 more.1)
  where
    by : (e : Bool) → has_end a ≡ e → HaveSameCards (up_to_end a) (up_to_end b) →
        HaveSameCards (front_if (has_end a) (up_to_end a) (first ∷ a)) (front_if e (up_to_end b) (second ∷ b))
    by true is same = subst (λ (c : Bool). HaveSameCards (front_if c (up_to_end a) (first ∷ a)) (up_to_end b)) (sym is) same
    by false is same = subst (λ (c : Bool). HaveSameCards (front_if c (up_to_end a) (first ∷ a)) (second ∷ b)) (sym is) h

-- a deck that is split into the statements up to END behind a front, and this
record IsSplit (cards : List Card) (later front : List Statement) : Type 0 where
  behind : List Statement
  all : statements_of (reverse (drop (stood front) cards) ++ reverse (take (stood front) cards)) ≡ (behind ++ later) ++ front
  count : length (cards_in (behind ++ later)) ≡ length (reverse (drop (stood front) cards))
  known : later ≡ up_to_end (behind ++ later)

is-split : (cards : List Card) (later front : List Statement) → known_in cards ≡ later ++ front → has_end front ≡ false → IsSplit cards later front
is-split cards later front e none =
    let n = stood front in
    let all = statements_of (reverse cards) in
    let behind = behind_end all in
    let whole : all ≡ (behind ++ later) ++ front = split-end all ∙ ap (λ (l : List Statement). behind ++ l) e ∙ sym (append_assoc behind later front) in
    let cut : reverse (drop n cards) ++ reverse (take n cards) ≡ reverse cards = sym (reverse-append (take n cards) (drop n cards)) ∙ ap reverse (take-append-drop n cards) in
    let every = ap length (ap cards_in (sym whole) ∙ cards_in-statements_of (reverse cards) ∙ reverse-reverse cards) in
    let parts = cards_in-append (behind ++ later) front in
    let left = length-drop n cards in
    let back = length-reverse (drop n cards) in
    record {
      behind = behind;
      all = ap statements_of cut ∙ whole;
      count = omega (arith, every, parts, left, back);
      known = behind-same later (up_to_end (behind ++ later)) front (sym e ∙ ap up_to_end whole ∙ (end-over (behind ++ later) front none).0);
    }

-- where the same cards follow, and no END is in front, the statements up to END are of the same cards
pub cut-alike : (old cards : List Card) (later front other earlier : List Statement) → known_in old ≡ later ++ front → known_in cards ≡ other ++ earlier → has_end front ≡ false → has_end earlier ≡ false →
    drop (stood front) old ≡ drop (stood earlier) cards → HaveSameCards later other
cut-alike old cards later front other earlier e f unended open' same =
    let first = is-split old later front e unended in
    let second = is-split cards other earlier f open' in
    let rest = reverse (drop (stood front) old) in
    let back : rest ≡ reverse (drop (stood earlier) cards) = ap reverse same in
    let alike = cut-same rest (reverse (take (stood front) old)) (reverse (take (stood earlier) cards)) (first.behind ++ later) front (second.behind ++ other) earlier first.all first.count
    (subst (λ (l : List Card). statements_of (l ++ reverse (take (stood earlier) cards)) ≡ (second.behind ++ other) ++ earlier) (sym back) second.all)
    (subst (λ (l : List Card). length (cards_in (second.behind ++ other)) ≡ length l) (sym back) second.count) in
    subst (λ (both : List Statement × List Statement). HaveSameCards both.0 both.1) (λ i. (sym first.known i, sym second.known i)) (same-end (first.behind ++ later) (second.behind ++ other) alike).1

-- no END stands in front of a statement that is known
pub known-open : (statements later front : List Statement) (statement : Statement) → up_to_end statements ≡ (later ++ statement ∷ []) ++ front → has_end front ≡ false
known-open [] [] front statement e = cc
known-open [] (last ∷ later) front statement e = cc
known-open (first ∷ earlier) later front statement e = by (has_end earlier) refl later e (known-open earlier later front statement)
  where
    or-last : (x y : Bool) → (x || y) ≡ false → y ≡ false
    or-last true y h = cc
    or-last false y h = h

    front-open : (behind : List Statement) → has_end (behind ++ front) ≡ false → has_end front ≡ false
    front-open [] h = h
    front-open (last ∷ behind) h = front-open behind (or-last (is_end (fields_of last.cards)) (has_end (behind ++ front)) h)

    by : (b : Bool) → has_end earlier ≡ b → (later : List Statement) → front_if (has_end earlier) (up_to_end earlier) (first ∷ earlier) ≡ (later ++ statement ∷ []) ++ front →
        (up_to_end earlier ≡ (later ++ statement ∷ []) ++ front → has_end front ≡ false) → has_end front ≡ false
    by true is later e more = more (ap (λ (b : Bool). front_if b (up_to_end earlier) (first ∷ earlier)) (sym is) ∙ e)
    by false is [] e more =
        let same = rest-of first statement earlier front (ap (λ (b : Bool). front_if b (up_to_end earlier) (first ∷ earlier)) (sym is) ∙ e) in
        ap has_end (sym same) ∙ is
    by false is (last ∷ later) e more =
        let same = rest-of first last earlier ((later ++ statement ∷ []) ++ front) (ap (λ (b : Bool). front_if b (up_to_end earlier) (first ∷ earlier)) (sym is) ∙ e) in
        front-open (later ++ statement ∷ []) (ap has_end (sym same) ∙ is)

-- a deck up to where a statement begins has the statements in front of that
pub cut-front : (cards : List Card) (later front : List Statement) → known_in cards ≡ later ++ front → has_end front ≡ false → known_in (take (stood front) cards) ≡ front
cut-front cards later front e none =
    let n = stood front in
    let split = is-split cards later front e none in
    ap up_to_end (cut-behind (reverse (drop n cards)) (reverse (take n cards)) (split.behind ++ later) front split.all split.count).0 ∙ (end-none front none).0
