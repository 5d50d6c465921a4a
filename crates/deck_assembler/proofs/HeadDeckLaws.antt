-- What stays of an old deck in an edited one of another kind: the neutral statements in front, and their lines.
use Rattle.std.{proofs.Common.{◌≡◌, ◌∙◌, ℕ, ◌+◌, ◌-◌, ◌<◌, ◌≤◌, ◌⊎◌, inl, inr, true, true≢false, List, [], ◌∷◌, ◌++◌, Option, Some, None, length, take, drop, refl, sym, ap, subst, arith, append-nil, length-append, length-take-le}, specs.Prelude.{reverse, unwrap_or}, specs.List.AllByRecursion, proofs.lemmas.Bool.cases_lt, proofs.lemmas.List.{drop-take, length-drop, length-reverse, reverse-append, reverse-reverse, take-take}}
use Rattle.definitions.{specs.Cards.Card, specs.Counters.counters_at, specs.DeckKinds.kind_of_statements, specs.Forms.Form, specs.Operands.{Operand, operand_of}, specs.Operations.is_neutral, specs.Settled.{Settled, defined}, specs.Settling.{View, settle, settled_all}, specs.Statements.{Statement, cards_in}, specs.declared.deck_kind.DeckKind.DeckKind, specs.declared.deck_kind.DeckKind.TheVariants.{Rel, Abs, Periph}, specs.declared.number_base.NumberBase.NumberBase, proofs.EditLaws.cards_in-append, proofs.NamesLaws.all-behind}
use Rattle.operations.specs.Joins.OperationsAs.{operation_as}
use Rattle.definitions.specs.Operations as op
use Rattle.statement_coder.specs.declared.definitions_made.Definition.TheVariants as definition
use Rattle.statement_coder.specs.declared.kept_readings.KeptReading.TheVariants as kept
use Rattle.statement_coder.specs.{Joins.Definitions.{defined_by, externals_of, made_as, IsOfExt}, Joins.KeptReadings.IsKeptReading, Joins.Sizings.{location_in, origin_in, IsSizing}, declared.definitions_made.Definition.Definition, declared.kept_readings.KeptReading.KeptReading}
use Rattle.deck_assembler.{specs.Joins.Agreements.{left, HaveSameEnd}, specs.Joins.DeckParts.{DeckParts, sized_in}, specs.Joins.Formers.known_in, specs.Joins.LiteralsRead.IsBareOperand, specs.Joins.Heads.{AreHead, IsHeadDeck, IsOldDeck, IsWholeDeck, BeginsBeside}, specs.Joins.Meetings.{cards_of, IsShort}, specs.Joins.OldDecks.{IsAtStage, IsInFront, IsKeptOn}, specs.Joins.SizedDecks.{own_of, IsSizedDeck, IsSizedStatement, AreSizedFrom}, specs.declared.old_deck.OldCards.OldCards, specs.declared.old_deck.OldDeck.OldDeck, specs.declared.sized_statement.SizedStatement.SizedStatement, proofs.AgreementLaws.between, proofs.CutLaws.cut-front, proofs.DueLaws.filled-short, proofs.ForwardLaws.stood-more, proofs.HeadLaws.deck-in-front, proofs.NeutralLaws.{counter_of, AreNeutral, IsNeutral, base-same, counted, front-neutral, neutral-known, neutral-nothing, neutral-open, neutral-settles, neutral-told, neutral-view}, proofs.OntoLaws.{append-none, reverse-onto}}

-- what a neutral statement has as its operand is so in any kind
neutral-operand : (first second : DeckKind) (base : NumberBase) (operation : op.Operation) (name text : List ℕ) → is_neutral (Some operation) ≡ true → operand_of first base operation name text ≡ operand_of second base operation name text
neutral-operand first second base op.EmptyField name text e = refl
neutral-operand first second base op.Listed name text e = refl
neutral-operand first second base op.Base name text e = refl
neutral-operand first second base _ name text e = absurd (true≢false (sym e))

neutral-kept : (first second : DeckKind) (operation : op.Operation) (reading : KeptReading) (operand : Operand) → is_neutral (Some operation) ≡ true → IsKeptReading first operation reading operand → IsKeptReading second operation reading operand
neutral-kept first second operation (kept.Spelt text) operand e h = h ∙ neutral-operand first second text.value.base operation text.value.name.items text.value.variable.items e
neutral-kept first second operation _ operand e h = h

-- what defines nothing does so with another counter
none-defined : (v w : View) (location : List ℕ) (operand : Operand) (counter other value : Form) (what : Definition) → v ≡ w → defined_by v location operand (made_as counter value what) ≡ [] →
    defined_by w location operand (made_as other value what) ≡ []
none-defined v w location operand counter other value definition.Nothing e none = refl
none-defined v w location operand counter other value definition.Counter e none = absurd cc
none-defined v w location operand counter other value definition.Number e none = absurd cc
none-defined v w location operand counter other value definition.Externals e none = ap (λ (view : View). externals_of view operand) (sym e) ∙ none

of-ext : (operation : op.Operation) (counter other value : Form) (what : Definition) → IsOfExt operation (made_as counter value what) → IsOfExt operation (made_as other value what)
of-ext operation counter other value definition.Nothing is = tt
of-ext operation counter other value definition.Counter is = is
of-ext operation counter other value definition.Number is = is
of-ext operation counter other value definition.Externals is = is

-- a neutral statement that was sized behind neutral ones is so in a deck of another kind
neutral-sized : (first second : DeckKind) (earlier : List Statement) (stood : ℕ) (ahead other : List Card) (sized : SizedStatement) (statement : Statement) → AreNeutral earlier → IsNeutral statement →
    IsSizedStatement first earlier stood ahead sized statement → take sized.cards ahead ≡ take sized.cards other → sized.cards ≤ length other → IsSizedStatement second earlier stood other sized statement
neutral-sized first second earlier stood ahead other sized statement are neutral is e within =
    let before = settle first (settled_all first earlier) statement in
    let after = settle second (settled_all second earlier) statement in
    let sizing = sized.sizing in
    let same = neutral-settles first second earlier statement are neutral in
    let itself = neutral-settles first first earlier statement are neutral in
    let view : Path View (λ name. defined name (settled_all first earlier)) (λ name. defined name (settled_all second earlier)) = neutral-view first earlier are ∙ sym (neutral-view second earlier are) in
    let one = is.sizing.counters (ap (λ (s : Settled). s.location) itself ∙ sym (ap (λ (s : Settled). s.origin) itself)) in
    let stands : origin_in second sizing ≡ (counters_at second before.block before.place None).origin = λ i. (counters_at second (is.sizing.block i) (is.sizing.place i) None).origin in
    let origin : origin_in second sizing ≡ counter_of second = stands ∙ ap (λ (s : Settled). (counters_at second s.block s.place None).origin) (sym same) ∙ ap (λ (s : Settled). s.origin) same in
    let there : IsSizing second (λ name. defined name (settled_all second earlier)) (counted (counter_of second) before) sizing = record {
      block = is.sizing.block;
      change = is.sizing.change;
      is_placed = is.sizing.is_placed;
      place = is.sizing.place;
      end = is.sizing.end;
      asks = is.sizing.asks;
      begins_run = is.sizing.begins_run;
      setting = is.sizing.setting;
      location = ap (λ (l : Option Form). unwrap_or l (origin_in second sizing)) one ∙ origin;
      origin = origin;
      counters = λ both. one;
      definitions = none-defined _ _ before.read.fields.location before.read.operand (location_in first sizing) (location_in second sizing) sizing.value sizing.usual.definition view
          (is.sizing.definitions ∙ neutral-nothing first earlier statement are neutral) ∙ sym (neutral-nothing first earlier statement are neutral);
      externals = of-ext before.read.operation (location_in first sizing) (location_in second sizing) sizing.value sizing.usual.definition is.sizing.externals;
      letters = is.sizing.letters;
    } in
    record {
      before = is.before;
      cards = sym e ∙ is.cards;
      some = is.some;
      few = is.few;
      within = within;
      sizing = subst (λ settled. IsSizing second (λ name. defined name (settled_all second earlier)) settled sizing) (sym same) there;
      number_base = is.number_base ∙ base-same first second earlier;
      operation = ap (λ settled. settled.read.operation) same ∙ is.operation;
      label = is.label ∙ sym (ap (λ settled. own_of settled.read) same);
      kept = subst (λ (operand : Operand). IsKeptReading second (operation_as sized.operation) sized.kept operand) (sym (ap (λ settled. settled.read.operand) same))
          (neutral-kept first second (operation_as sized.operation) sized.kept before.read.operand (ap (λ (o : op.Operation). is_neutral (Some o)) (sym is.operation) ∙ neutral-known first statement neutral) is.kept);
      bare = λ b. subst IsBareOperand (sym (ap (λ settled. settled.read.operand) same)) (is.bare b);
    }

-- no neutral statement that ends within so many cards stands behind these
abbrev pub DoStop : ℕ → List Statement → List Statement → Type 0
DoStop before given rest = (statement : Statement) (others : List Statement) → rest ≡ statement ∷ others → IsNeutral statement → length (cards_in given) + length statement.cards ≤ before → ⊥

-- the statements of a head
record HasHead (kind : DeckKind) (before : ℕ) (earlier : List Statement) (stood : ℕ) (ahead : List Card) (made : List SizedStatement) (later : List Statement) : Type 0 where
  given : List Statement
  rest : List Statement
  all : later ≡ given ++ rest
  sized : AreSizedFrom kind earlier stood (take (cards_of made) ahead) made given [] []
  neutral : AreNeutral (reverse given ++ earlier)
  count : length (cards_in (reverse given ++ earlier)) ≡ stood + cards_of made
  within : cards_of made ≤ length ahead
  few : stood + cards_of made ≤ before
  stops : DoStop before (reverse given ++ earlier) rest

has-head : (first second : DeckKind) (before : ℕ) (earlier : List Statement) (stood : ℕ) (ahead : List Card) (sized made : List SizedStatement) (later : List Statement) (behind : List ℕ) (others : List Statement) →
    AreNeutral earlier → length (cards_in earlier) ≡ stood → stood ≤ before → AreSizedFrom first earlier stood ahead sized later behind others → AreHead before stood sized made →
    HasHead second before earlier stood ahead made later
has-head first second before earlier stood ahead [] [] [] behind others are place few sized head = record {
  given = [];
  rest = [];
  all = refl;
  sized = refl;
  neutral = are;
  count = omega (arith, place);
  within = omega arith;
  few = omega (arith, few);
  stops = λ statement others e. absurd cc;
}
has-head first second before earlier stood ahead [] (one ∷ made) later behind others are place few sized head = absurd head
has-head first second before earlier stood ahead [] [] (statement ∷ later) behind others are place few sized head = absurd sized
has-head first second before earlier stood ahead (one ∷ sized') made [] behind others are place few sized head = absurd sized
has-head first second before earlier stood ahead (one ∷ sized') [] (statement ∷ later) behind others are place few sized head = record {
  given = [];
  rest = statement ∷ later;
  all = refl;
  sized = refl;
  neutral = are;
  count = omega (arith, place);
  within = omega arith;
  few = omega (arith, few);
  stops = λ next others e neutral within.
      let same : statement ≡ next = cc in
      let is = sized.0 in
      let own : length statement.cards ≡ one.cards = ap length (sym is.cards) ∙ length-take-le one.cards ahead is.within in
      let its = ap (λ (s : Statement). length s.cards) same in
      head (record {
        neutral = ap (λ o. is_neutral (Some o)) (sym is.operation) ∙ neutral-known first statement (subst IsNeutral (sym same) neutral);
        within = omega (arith, within, own, its, place);
      });
}
has-head first second before earlier stood ahead (one ∷ sized') (more ∷ made) (statement ∷ later) behind others are place few sized head =
    let is = sized.0 in
    let of = head.1.0 in
    let neutral = neutral-told first statement (ap (λ o. is_neutral (Some o)) is.operation ∙ of.neutral) in
    let moved = stood-more earlier statement ahead one.cards is.cards is.within in
    let rest = has-head first second before (statement ∷ earlier) (stood + one.cards) (drop one.cards ahead) sized' made later behind others (neutral, are) (omega (arith, moved, place)) of.within sized.1 head.1.1 in
    let whole = reverse-onto statement rest.given earlier in
    let same = ap (λ (s : SizedStatement). s.cards) head.0 in
    let less = length-drop one.cards ahead in
    let rest_within = rest.within in
    let own_within = is.within in
    let all_within : more.cards + cards_of made ≤ length ahead = omega (arith, same, less, rest_within, own_within) in
    let n = more.cards + cards_of made in
    let full = length-take-le n ahead all_within in
    let cut : take (cards_of made) (drop one.cards ahead) ≡ drop more.cards (take n ahead) = ap (λ k. take (cards_of made) (drop k ahead)) (sym same) ∙ sym (drop-take more.cards (cards_of made) ahead) in
    let rest_count = rest.count in
    let count_same = ap (λ (l : List Statement). length (cards_in l)) whole in
    let rest_few = rest.few in
    record {
      given = statement ∷ rest.given;
      rest = rest.rest;
      all = ap (λ l. statement ∷ l) rest.all;
      sized = (
        subst (λ (s : SizedStatement). IsSizedStatement second earlier stood (take n ahead) s statement) (sym head.0)
            (neutral-sized first second earlier stood ahead (take n ahead) one statement are neutral is (sym (take-take one.cards n ahead (omega (arith, same)))) (omega (arith, same, full))),
        subst (λ (both : ℕ × List Card). AreSizedFrom second (statement ∷ earlier) both.0 both.1 made rest.given [] []) (λ i. (stood + sym same i, cut i)) rest.sized,
      );
      neutral = subst AreNeutral whole rest.neutral;
      count = omega (arith, rest_count, count_same, same);
      within = all_within;
      few = omega (arith, rest_few, same);
      stops = subst (λ l. DoStop before l rest.rest) whole rest.stops;
    }

-- a front of neutral statements that ends within so many cards stands among those of a head
pub record HasTop (given front : List Statement) : Type 0 where
  pub more : List Statement
  pub is : given ≡ more ++ front

pub head-top : (given rest front behind : List Statement) (before : ℕ) → reverse (given ++ rest) ≡ behind ++ front → AreNeutral front → length (cards_in front) ≤ before → DoStop before (reverse given) rest → HasTop (reverse given) front
head-top given rest front behind before e are few stops = elim (cases_lt (length given) (length front)) [
  | inl less ↦ absurd (by rest e stops less)
  | inr enough ↦
      let whole = sym e ∙ reverse-append given rest in
      let all = ap length whole in
      let left_parts = length-append behind front in
      let right_parts = length-append (reverse rest) (reverse given) in
      let turned = length-reverse given in
      let there = between behind front (reverse rest) (reverse given) whole (omega (arith, all, left_parts, right_parts, turned, enough)) in
      record { more = there.middle; is = there.of_earlier }
]
  where
    by : (rest : List Statement) → reverse (given ++ rest) ≡ behind ++ front → DoStop before (reverse given) rest → length given < length front → ⊥
    by [] e stops less =
        let all = ap length (sym (reverse-append given []) ∙ e) in
        let parts = length-append behind front in
        let turned = length-reverse given in
        omega (arith, all, parts, turned, less)
    by (statement ∷ others) e stops less =
        let turned = length-reverse given in
        let whole : reverse others ++ statement ∷ reverse given ≡ behind ++ front = reverse-onto statement others (reverse given) ∙ sym (reverse-append given (statement ∷ others)) ∙ e in
        let all = ap length whole in
        let left_parts = length-append (reverse others) (statement ∷ reverse given) in
        let right_parts = length-append behind front in
        let there = between (reverse others) (statement ∷ reverse given) behind front whole (omega (arith, all, left_parts, right_parts, turned, less)) in
        let neutral = all-behind IsNeutral there.middle (statement ∷ reverse given) (subst AreNeutral there.of_earlier are) in
        let cards = ap (λ (l : List Statement). length (cards_in l)) there.of_earlier in
        let parts = cards_in-append there.middle (statement ∷ reverse given) in
        let own = length-append (cards_in (reverse given)) statement.cards in
        stops statement others refl neutral.0 (omega (arith, few, cards, parts, own))

drop-all : {A : Type 0} (items : List A) → drop (length items) items ≡ []
drop-all [] = refl
drop-all (item ∷ items) = drop-all items

none-behind : (count : ℕ) (cards : List Card) → count ≡ 0 → drop (length cards - count) cards ≡ []
none-behind count cards none =
    let all : length cards - count ≡ length cards = omega (arith, none) in
    ap (λ m. drop m cards) all ∙ drop-all cards

-- a head stands in front of an edited deck of another kind: all that stands untouched in front of both
pub head-beside : (kind first : DeckKind) (old cards : List Card) (before : ℕ) (sized : List SizedStatement) (deck : OldDeck) (behind : List ℕ) (others : List Statement) → AreSizedFrom first [] 0 old sized (reverse (known_in old)) behind others →
    first ≡ kind_of_statements (known_in old) → (first ≡ kind → ⊥) → IsHeadDeck kind before old sized deck → take before old ≡ take before cards → BeginsBeside kind old cards before deck
head-beside kind first old cards before sized deck behind others are first_is other is same = record {
  of = of;
  of_old = (reverse has.rest, begun ∙ ap (λ (l : List Statement). reverse has.rest ++ l) (sym known));
  kept_on = record {
    standing = subst (IsAtStage kind of cards [] deck) (sym is.stage) front;
    kinds = is.kind_is;
    same = none-behind deck.behind of is.behind ∙ sym (none-behind deck.behind cards is.behind);
  };
  stands = λ decks front of_old of_new few kind_is untouched.
      let neutral = front-neutral front untouched.of_old.0 untouched.of_new.0 decks.old decks.new untouched.of_old.1 untouched.of_new.1
      (λ e. other (first_is ∙ ap kind_of_statements (sym of_old) ∙ e ∙ ap kind_of_statements of_new ∙ kind_is)) in
      let unchanged = untouched.unchanged in
      let whole : reverse (has.given ++ has.rest) ≡ untouched.of_old.0 ++ front = ap reverse (sym has.all) ∙ reverse-reverse (known_in old) ∙ sym of_old ∙ untouched.of_old.1 in
      let top = head-top has.given has.rest front untouched.of_old.0 before whole neutral (omega (arith, unchanged, few)) (subst (λ l. DoStop before l has.rest) (append-nil (reverse has.given)) has.stops) in
      let cards_same = ap (λ (l : List Statement). length (cards_in l)) top.is in
      let parts = cards_in-append top.more front in
      let head_count = count in
      record {
        decks = record { old = known_in of; new = decks.new; before = length (cards_in front); old_behind = decks.old_behind; new_behind = decks.new_behind };
        untouched = record { of_old = (top.more, known ∙ top.is); of_new = untouched.of_new; unchanged = omega arith };
        of_old = refl;
        of_new = of_new;
        before = subst (λ m. length (cards_in front) ≤ m) (sym is.before_is) (omega (arith, cards_same, parts, head_count));
        stage = is.stage;
      };
}
  where
    has : HasHead kind before [] 0 old (left deck) (reverse (known_in old))
    has = has-head first kind before [] 0 old sized (left deck) (reverse (known_in old)) behind others tt refl (omega arith) are is.head

    n : ℕ
    n = cards_of (left deck)

    of : List Card
    of = take n old

    count : length (cards_in (reverse has.given)) ≡ n
    count =
        let same = ap (λ (l : List Statement). length (cards_in l)) (append-nil (reverse has.given)) in
        let counted_all = has.count in
        omega (arith, same, counted_all)

    begun : known_in old ≡ reverse has.rest ++ reverse has.given
    begun = sym (reverse-reverse (known_in old)) ∙ ap reverse has.all ∙ reverse-append has.given has.rest

    -- the statements of the head are those of its cards
    known : known_in of ≡ reverse has.given
    known =
        ap (λ m. known_in (take m old)) (sym count) ∙ cut-front old (reverse has.rest) (reverse has.given) begun (neutral-open (reverse has.given) (subst AreNeutral (append-nil (reverse has.given)) has.neutral))

    front : IsInFront of cards [] (left deck) deck
    front =
        let few = has.few in
        record {
          later = has.given;
          behind = [];
          others = [];
          within = omega arith;
          ahead = is.ahead has.within;
          rest = subst (λ (k : DeckKind). AreSizedFrom k [] 0 of (left deck) has.given [] []) (sym is.kind_is) has.sized;
          unchanged = ap (λ m. take m of) is.before_is
              ∙ (take-take n n old (omega arith) ∙ sym (take-take n before old (omega (arith, few))) ∙ ap (take n) same ∙ take-take n before cards (omega (arith, few)))
              ∙ ap (λ m. take m cards) (sym is.before_is);
          all = append-none (reverse has.given) ∙ sym known;
        }

-- two kinds are one, or not
pub kinds-told : (a b : DeckKind) → (a ≡ b) ⊎ (a ≡ b → ⊥)
kinds-told Rel Rel = inl refl
kinds-told Rel Abs = inr (λ e. cc)
kinds-told Rel Periph = inr (λ e. cc)
kinds-told Abs Rel = inr (λ e. cc)
kinds-told Abs Abs = inl refl
kinds-told Abs Periph = inr (λ e. cc)
kinds-told Periph Rel = inr (λ e. cc)
kinds-told Periph Abs = inr (λ e. cc)
kinds-told Periph Periph = inl refl

-- all of a deck stands in front of an edited one of its kind
whole-kept : (kind : DeckKind) (old : OldCards) (cards : List Card) (parts : DeckParts) (deck : OldDeck) → IsSizedDeck old.cards.now parts → parts.kind ≡ kind → IsOldDeck kind old parts.pieces deck →
    take old.before old.cards.now ≡ take old.before cards → HaveSameEnd old.behind old.cards.now cards → IsKeptOn kind old.cards.now cards [] deck
whole-kept kind old cards parts deck is same whole unchanged same_end = record {
  standing = subst (IsAtStage kind old.cards.now cards [] deck) (sym whole.stage)
      (deck-in-front old.cards.now cards parts deck is (whole.kind_is ∙ sym same) whole.ahead whole.all (subst (λ n. take n old.cards.now ≡ take n cards) (sym whole.before_is) unchanged));
  kinds = whole.kind_is;
  same = subst (λ n. HaveSameEnd n old.cards.now cards) (sym whole.behind) same_end;
}

pub stays-whole : (kind : DeckKind) (old : OldCards) (parts : DeckParts) (deck : OldDeck) → IsSizedDeck old.cards.now parts → parts.kind ≡ kind → IsOldDeck kind old parts.pieces deck →
    IsWholeDeck old deck × ((cards : List Card) → take old.before old.cards.now ≡ take old.before cards → HaveSameEnd old.behind old.cards.now cards → IsKeptOn kind old.cards.now cards [] deck)
stays-whole kind old parts deck is same whole = (
  record { stage = whole.stage; before_is = whole.before_is; begun = whole.begun; short = subst (AllByRecursion IsShort) (sym whole.pieces_are) (filled-short parts.pieces is.filled); behind = whole.behind },
  λ cards unchanged same_end. whole-kept kind old cards parts deck is same whole unchanged same_end,
)

-- what stays of a deck stands in front, whatever the kind is
pub stays-beside : (kind : DeckKind) (old : OldCards) (cards : List Card) (parts : DeckParts) (deck : OldDeck) → IsSizedDeck old.cards.now parts → (parts.kind ≡ kind → IsOldDeck kind old parts.pieces deck) →
    (parts.kind ≡ kind) ⊎ IsHeadDeck kind old.before old.cards.now (sized_in parts.pieces) deck → take old.before old.cards.now ≡ take old.before cards → HaveSameEnd old.behind old.cards.now cards →
    BeginsBeside kind old.cards.now cards old.before deck
stays-beside kind old cards parts deck is whole head unchanged same_end = elim (kinds-told parts.kind kind) [
  | inl same ↦
      let all = whole same in
      record {
        of = old.cards.now;
        of_old = ([], refl);
        kept_on = whole-kept kind old cards parts deck is same all unchanged same_end;
        stands = λ decks front of_old of_new few kind_is untouched.
            record { decks = decks; untouched = untouched; of_old = of_old; of_new = of_new; before = subst (λ n. decks.before ≤ n) (sym all.before_is) few; stage = all.stage };
      }
  | inr other ↦ elim head [
    | inl same ↦ absurd (other same)
    | inr made ↦ head-beside kind parts.kind old.cards.now cards old.before (sized_in parts.pieces) deck parts.behind _ is.sized is.kind other made unchanged
  ]
]
