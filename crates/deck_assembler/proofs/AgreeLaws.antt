-- From where two decks agree, what is left of the one stays as it was sized in the other.
use Rattle.std.proofs.Common.{◌≡◌, ℕ, ◌+◌, ◌≤◌, List, [], ◌∷◌, ◌++◌, Option, Some, None, Bool, take, drop, map, length, refl, sym, ap, ap₂, ◌∙◌, subst, if◌then◌else◌}
use Rattle.cards.specs.Joins.Spans.{statement_at}
use Rattle.definitions.{specs.Cards.Card, specs.Operands.{Operand, NamesOperand}, specs.Operations.Operation, specs.Letters.in_order, specs.Settled.{Settled, Definition, defined}, specs.Settling.{View, settle, settled_all, is_known, external, externals}, specs.Statements.Statement, specs.Laws.States.{BlockState, state_after}, specs.Laws.Agreement.{Agree, early_symbols, lawful_names, unnumbered}, specs.declared.deck_kind.DeckKind.DeckKind, proofs.StateSteps.settled_all-in_use, proofs.TailLaws.{views-agree, tails-agree}}
use Rattle.operations.specs.Joins.OperationsAs.{operation_as}
use Rattle.statement_coder.specs.{Joins.Definitions.{defined_by, IsOfExt}, Joins.Sizings.{defines_in, IsSizing}, declared.sizing.Sizing.Sizing, Joins.KeptReadings.IsKeptReading}
use Rattle.statement_coder.specs.declared.definitions_made.Defines as code
use Rattle.statement_coder.specs.declared.definitions_made.Defines.TheVariants as defines
use Rattle.deck_assembler.{specs.Joins.Agreements.{AreNamesAlike, AreExternalsAlike, AreAlikeFrom}, specs.Joins.LiteralsRead.IsBareOperand, specs.Joins.OldDecks.AreKeptFrom, specs.Joins.SizedDecks.{own_of, IsSizedStatement, AreSizedFrom}, specs.Joins.Tails.AreKeptAlike, specs.declared.sized_statement.SizedStatement.SizedStatement, proofs.OntoLaws.drop-more}

known-alike : (v w : View) (name : List ℕ) (so_far : List Definition) → v name ≡ w name → is_known v name so_far ≡ is_known w name so_far
known-alike v w name so_far e = λ i. is_known (λ other. e i) name so_far

externals-alike : (v w : View) (names : List (Option (List ℕ))) (so_far : List Definition) → Agree v w (lawful_names names) → externals v names so_far ≡ externals w names so_far
externals-alike v w [] so_far h = refl
externals-alike v w (None ∷ names) so_far h = externals-alike v w names so_far h
externals-alike v w (Some name ∷ names) so_far h =
    externals-alike v w names (if is_known v name so_far then so_far else so_far ++ external name ∷ []) h.1
    ∙ ap (λ (known : Bool). externals w names (if known then so_far else so_far ++ external name ∷ [])) (known-alike v w name so_far h.0)

-- what a statement defines, under two views that agree on its externals
defined_by-alike : (v w : View) (location : List ℕ) (operand : Operand) (what : code.Defines) → AreExternalsAlike v w operand what → defined_by v location operand what ≡ defined_by w location operand what
defined_by-alike v w location operand defines.Nothing h = refl
defined_by-alike v w location operand (defines.Symbol form) h = refl
defined_by-alike v w location (NamesOperand names) defines.Externals h = externals-alike v w names [] h
defined_by-alike v w location operand defines.Externals h = refl

-- two views that agree behind two lists agree on names behind more statements
names-later : (middle other earlier before : List Settled) (names : List (Option (List ℕ))) (what : code.Defines) → map unnumbered middle ≡ map unnumbered other →
    AreNamesAlike (λ name. defined name earlier) (λ name. defined name before) names what →
    AreNamesAlike (λ name. defined name (middle ++ earlier)) (λ name. defined name (other ++ before)) names what
names-later middle other earlier before names defines.Externals same h = views-agree (lawful_names names) middle other earlier before same h
names-later middle other earlier before names defines.Nothing same h = tt
names-later middle other earlier before names (defines.Symbol form) same h = tt

-- two views that agree behind two lists agree on externals behind more statements
externals-later : (middle other earlier before : List Settled) (operand : Operand) (what : code.Defines) → map unnumbered middle ≡ map unnumbered other →
    AreExternalsAlike (λ name. defined name earlier) (λ name. defined name before) operand what →
    AreExternalsAlike (λ name. defined name (middle ++ earlier)) (λ name. defined name (other ++ before)) operand what
externals-later middle other earlier before (NamesOperand names) what same h = names-later middle other earlier before names what same h
externals-later middle other earlier before operand what same h = tt

-- the sizing of a statement is that of one which is the same but for its number
sizing-alike : (kind : DeckKind) (v w : View) (first second : Settled) (sizing : Sizing) → unnumbered first ≡ unnumbered second → AreExternalsAlike v w first.read.operand (defines_in kind sizing) →
    IsSizing kind v first sizing → IsSizing kind w second sizing
sizing-alike kind v w first second sizing e h is = record {
  block = is.block ∙ ap (λ (s : Settled). s.block) e;
  change = is.change ∙ ap (λ (s : Settled). s.change) e;
  is_placed = is.is_placed ∙ ap (λ (s : Settled). s.is_placed) e;
  place = is.place ∙ ap (λ (s : Settled). s.place) e;
  end = is.end ∙ ap (λ (s : Settled). s.end) e;
  asks = is.asks ∙ ap (λ (s : Settled). s.asks) e;
  begins_run = is.begins_run ∙ ap (λ (s : Settled). s.begins_run) e;
  setting = is.setting ∙ ap (λ (s : Settled). s.setting) e;
  location = is.location ∙ ap (λ (s : Settled). s.location) e;
  origin = is.origin ∙ ap (λ (s : Settled). s.origin) e;
  counters = λ same. is.counters (ap (λ (s : Settled). s.location) e ∙ same ∙ sym (ap (λ (s : Settled). s.origin) e));
  definitions = sym (ap (λ (s : Settled). defined_by w s.read.fields.location s.read.operand (defines_in kind sizing)) e)
      ∙ sym (defined_by-alike v w first.read.fields.location first.read.operand (defines_in kind sizing) h)
      ∙ is.definitions ∙ ap (λ (s : Settled). s.definitions) e;
  externals = subst (λ (operation : Operation). IsOfExt operation (defines_in kind sizing)) (ap (λ (s : Settled). s.read.operation) e) is.externals;
  letters = is.letters ∙ ap (λ (s : Settled). in_order s.letters) e;
}

-- a statement that was sized in one deck is so in another, where it is the same but for its number behind an equal state
sized-alike : (kind : DeckKind) (front earlier : List Statement) (stood there : ℕ) (ahead cards : List Card) (sized : SizedStatement) (statement other : Statement) →
    IsSizedStatement kind front stood ahead sized statement → ahead ≡ drop there cards → other ≡ statement_at cards (record { start = there; count = sized.cards }) →
    unnumbered (settle kind (settled_all kind front) statement) ≡ unnumbered (settle kind (settled_all kind earlier) other) →
    state_after (settled_all kind front) ≡ state_after (settled_all kind earlier) →
    AreExternalsAlike (λ name. defined name (settled_all kind front)) (λ name. defined name (settled_all kind earlier)) (settle kind (settled_all kind front) statement).read.operand (defines_in kind sized.sizing) →
    IsSizedStatement kind earlier there (drop there cards) sized other
sized-alike kind front earlier stood there ahead cards sized statement other is e o same states h =
    let first = settle kind (settled_all kind front) statement in
    let second = settle kind (settled_all kind earlier) other in
    record {
      before = ap (λ (s : Statement). s.before) o;
      cards = ap (λ (s : Statement). s.cards) (sym o);
      some = is.some;
      few = is.few;
      within = subst (λ (l : List Card). sized.cards ≤ length l) e is.within;
      sizing = sizing-alike kind (λ name. defined name (settled_all kind front)) (λ name. defined name (settled_all kind earlier)) first second sized.sizing same h is.sizing;
      number_base = is.number_base ∙ ap (λ (state : BlockState). state.number_base) states;
      operation = sym (ap (λ (s : Settled). s.read.operation) same) ∙ is.operation;
      label = is.label ∙ ap (λ (s : Settled). own_of s.read) same;
      kept = subst (IsKeptReading kind (operation_as sized.operation) sized.kept) (ap (λ (s : Settled). s.read.operand) same) is.kept;
      bare = λ b. subst IsBareOperand (ap (λ (s : Settled). s.read.operand) same) (is.bare b);
    }

-- what is stated of views, where the lists that they are of are split
alike-later : (middle other earlier before all whole : List Settled) (names : List (List ℕ)) (operand : Operand) (what : code.Defines) → all ≡ middle ++ earlier → whole ≡ other ++ before →
    map unnumbered middle ≡ map unnumbered other →
    Agree (λ name. defined name earlier) (λ name. defined name before) names → AreExternalsAlike (λ name. defined name earlier) (λ name. defined name before) operand what →
    Agree (λ name. defined name all) (λ name. defined name whole) names × AreExternalsAlike (λ name. defined name all) (λ name. defined name whole) operand what
alike-later middle other earlier before all whole names operand what a w same h x =
    subst (λ (both : List Settled × List Settled). Agree (λ name. defined name both.0) (λ name. defined name both.1) names × AreExternalsAlike (λ name. defined name both.0) (λ name. defined name both.1) operand what)
    (λ i. (sym a i, sym w i)) (views-agree names middle other earlier before same h, externals-later middle other earlier before operand what same x)

first-same : (a b : Settled) → a ∷ [] ≡ b ∷ [] → a ≡ b
first-same a b h = cc

-- the statements that are left of a deck stay, behind a front of an equal state that agrees with its own on what they need early; and each is settled as it was
pub tail-kept : (kind : DeckKind) (cards : List Card) (v w middle other : List Settled) (front earlier : List Statement) (stood there : ℕ) (ahead : List Card)
    (sized : List SizedStatement) (statements : List Statement) (behind : List ℕ) (others : List Statement) →
    settled_all kind front ≡ middle ++ v → settled_all kind earlier ≡ other ++ w → map unnumbered middle ≡ map unnumbered other →
    state_after (settled_all kind front) ≡ state_after (settled_all kind earlier) → ahead ≡ drop there cards →
    AreSizedFrom kind front stood ahead sized statements behind others →
    AreAlikeFrom kind (λ name. defined name v) (λ name. defined name w) front sized statements →
    AreKeptFrom kind cards earlier there sized × AreKeptAlike kind cards earlier there front sized statements
tail-kept kind cards v w middle other front earlier stood there ahead [] statements behind others a b same states e are alike = (tt, tt)
tail-kept kind cards v w middle other front earlier stood there ahead (sized ∷ later) [] behind others a b same states e are alike = absurd are
tail-kept kind cards v w middle other front earlier stood there ahead (sized ∷ later) (statement ∷ statements) behind others a b same states e are alike =
    let next : Statement = statement_at cards (record { start = there; count = sized.cards }) in
    let all = settled_all kind front in
    let whole = settled_all kind earlier in
    let first = settle kind all statement in
    let second = settle kind whole next in
    let here = alike-later middle other v w all whole (early_symbols first.read) first.read.operand (defines_in kind sized.sizing) a b same alike.0.early alike.0.externals in
    let taken : statement.cards ≡ next.cards = sym are.0.cards ∙ ap (take sized.cards) e in
    let step = tails-agree kind all whole (statement ∷ []) (next ∷ []) (settled_all-in_use kind front) (settled_all-in_use kind earlier) states (taken, tt) (here.0, tt) in
    let one : unnumbered first ≡ unnumbered second = first-same (unnumbered first) (unnumbered second) step.0 in
    let rest = tail-kept kind cards v w (first ∷ middle) (second ∷ other) (statement ∷ front) (next ∷ earlier) (stood + sized.cards) (there + sized.cards) (drop sized.cards ahead) later statements behind others
    (ap (λ l. first ∷ l) a) (ap (λ l. second ∷ l) b) (ap₂ (λ s l. s ∷ l) one same) step.1
    (ap (drop sized.cards) e ∙ drop-more sized.cards there cards) are.1 alike.1 in
    ((sized-alike kind front earlier stood there ahead cards sized statement next are.0 e refl one states here.1, rest.0), (one, rest.1))
