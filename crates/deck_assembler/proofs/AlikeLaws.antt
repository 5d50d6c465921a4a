-- Where two views agree on the statements that are left of a deck, a trial finds it; and only there.
use Rattle.std.{proofs.Common.{◌≡◌, ℕ, ◌+◌, Option, Some, List, [], ◌∷◌, ◌++◌, drop, refl, sym, ap, ◌∙◌, subst, append_assoc}, specs.Prelude.slice_get, specs.List.AllByRecursion}
use Rattle.definitions.{specs.Cards.Card, specs.Forms.Form, specs.Operations.Operation, specs.Settled.ReadStatement, specs.Settling.{View, settle, settled_all}, specs.Statements.Statement, specs.Operands.{Operand, NamesOperand}, specs.Laws.Agreement.{Agree, early_symbols, lawful_names, own_symbols, operand_symbols}, specs.declared.deck_kind.DeckKind.DeckKind, proofs.NamesLaws.{all-front, all-behind}}
use Rattle.statement_coder.specs.Joins.Sizings.{defines_in}
use Rattle.statement_coder.specs.declared.definitions_made.Defines as code
use Rattle.statement_coder.specs.declared.definitions_made.Defines.TheVariants as defines
use Rattle.deck_assembler.specs.{Joins.Agreements.{left, DoesAgree, IsAgreeing, IsAlike, IsAlikeEver, IsAlikeOnce, AreAlikeFrom, AreExternalsAlike, AreNamesAlike, StandAlike}, Joins.DeckParts.{DeckPiece, sized_in}, Joins.FirstSymbols.symbol_in, Joins.SizedDecks.{own_of, AreSizedFrom}, declared.early_trial.Trial.Trial, declared.old_deck.OldDeck.OldDeck, declared.sized_statement.SizedStatement.SizedStatement}

-- what is alike wherever it was sized is so where it stands
all-alike : (trial : Trial) (sized : List SizedStatement) → AllByRecursion (IsAlikeEver trial) sized → (earlier : List Statement) (stood : ℕ) (ahead : List Card) (statements : List Statement) (behind : List ℕ) (others : List Statement) →
    AreSizedFrom trial.kind earlier stood ahead sized statements behind others → AreAlikeFrom trial.kind (symbol_in trial.first.now) (symbol_in trial.second.now) earlier sized statements
all-alike trial [] all earlier stood ahead statements behind others are = tt
all-alike trial (sized ∷ later) all earlier stood ahead [] behind others are = tt
all-alike trial (sized ∷ later) all earlier stood ahead (statement ∷ statements) behind others are =
    (all.0 earlier stood ahead statement are.0, all-alike trial later all.1 (statement ∷ earlier) (stood + sized.cards) (drop sized.cards ahead) statements behind others are.1)

-- statements that stand alike are so where they were sized
all-once : (trial : Trial) (sized : List SizedStatement) (earlier : List Statement) (stood : ℕ) (ahead : List Card) (statements : List Statement) (behind : List ℕ) (others : List Statement) →
    AreSizedFrom trial.kind earlier stood ahead sized statements behind others → AreAlikeFrom trial.kind (symbol_in trial.first.now) (symbol_in trial.second.now) earlier sized statements → AllByRecursion (IsAlikeOnce trial) sized
all-once trial [] earlier stood ahead statements behind others are alike = tt
all-once trial (sized ∷ later) earlier stood ahead [] behind others are alike = absurd are
all-once trial (sized ∷ later) earlier stood ahead (statement ∷ statements) behind others are alike = (
  record { earlier = earlier; stood = stood; ahead = ahead; given = statement; is = are.0; alike = alike.0 },
  all-once trial later (statement ∷ earlier) (stood + sized.cards) (drop sized.cards ahead) statements behind others are.1 alike.1,
)

-- what a statement defines by its location field
pub own-of : (v w : View) (read : ReadStatement) (what : code.Defines) (operation : Operation) (label : List ℕ) → own_symbols operation label ≡ own_of read → IsAlike v w read what → Agree v w (own_symbols operation label)
own-of v w read what operation label e is =
    subst (Agree v w) (sym e)
    (all-front (λ name. v name ≡ w name) (own_symbols read.operation read.fields.location) (operand_symbols read.operand read.operation) is.early)

-- and what its operand defines or reads
pub operand-of : (v w : View) (read : ReadStatement) (what : code.Defines) (operation : Operation) → operation ≡ read.operation → IsAlike v w read what → Agree v w (operand_symbols read.operand operation)
operand-of v w read what operation o is =
    subst (λ (operation : Operation). Agree v w (operand_symbols read.operand operation)) (sym o)
    (all-behind (λ name. v name ≡ w name) (own_symbols read.operation read.fields.location) (operand_symbols read.operand read.operation) is.early)

pub sized_in-append : (a b : List DeckPiece) → sized_in (a ++ b) ≡ sized_in a ++ sized_in b
sized_in-append [] b = refl
sized_in-append (piece ∷ a) b = ap (λ (l : List SizedStatement). piece.statements ++ l) (sized_in-append a b) ∙ sym (append_assoc piece.statements (sized_in a) (sized_in b))

-- a trial of a deck of which a piece begins
pub record IsTrialOf (deck : OldDeck) (symbols : List (ℕ × Form)) (trial : Trial) : Type 0 where
  pub kind : trial.kind ≡ deck.kind
  pub first : trial.first.now ≡ deck.symbols
  pub second : trial.second.now ≡ symbols
  pub begun : deck.statements.items ≡ []

-- a deck agrees where the statements of its pieces are alike, and these are alike where it does
pub ever-agrees : (deck : OldDeck) (symbols : List (ℕ × Form)) (trial : Trial) → IsTrialOf deck symbols trial → AllByRecursion (IsAlikeEver trial) (sized_in deck.pieces.items) → IsAgreeing deck symbols
ever-agrees deck symbols trial of all = λ earlier stood statements behind others are.
    let pieces = sized_in deck.pieces.items in
    let whole : left deck ≡ pieces = ap (λ (l : List SizedStatement). l ++ pieces) of.begun in
    let there : AreSizedFrom trial.kind earlier stood deck.ahead.now pieces statements behind others =
    subst (λ (both : DeckKind × List SizedStatement). AreSizedFrom both.0 earlier stood deck.ahead.now both.1 statements behind others) (λ i. (sym of.kind i, whole i)) are in
    subst (λ (all : (DeckKind × List SizedStatement) × (List (ℕ × Form) × List (ℕ × Form))). AreAlikeFrom all.0.0 (symbol_in all.1.0) (symbol_in all.1.1) earlier all.0.1 statements)
    (λ i. ((of.kind i, sym whole i), (of.first i, of.second i))) (all-alike trial pieces all earlier stood deck.ahead.now statements behind others there)

pub agrees-once : (deck : OldDeck) (symbols : List (ℕ × Form)) (trial : Trial) → IsTrialOf deck symbols trial → DoesAgree deck symbols → AllByRecursion (IsAlikeOnce trial) (sized_in deck.pieces.items)
agrees-once deck symbols trial of agree =
    let pieces = sized_in deck.pieces.items in
    let there : StandAlike trial.kind deck.ahead.now (symbol_in trial.first.now) (symbol_in trial.second.now) pieces =
    subst (λ (all : (DeckKind × List SizedStatement) × (List (ℕ × Form) × List (ℕ × Form))). StandAlike all.0.0 deck.ahead.now (symbol_in all.1.0) (symbol_in all.1.1) all.0.1)
    (λ i. ((sym of.kind i, ap (λ (l : List SizedStatement). l ++ pieces) of.begun i), (sym of.first i, sym of.second i))) agree in
    all-once trial pieces there.earlier there.stood deck.ahead.now there.statements there.behind there.others there.are there.alike

-- what is stated of the statements of some pieces is stated of those of each
pub of-first : (P : SizedStatement → Type 0) (front back later : List DeckPiece) (piece : DeckPiece) → slice_get back 0 ≡ Some piece → AllByRecursion P (sized_in ((front ++ back) ++ later)) → AllByRecursion P piece.statements
of-first P front [] later piece e all = absurd cc
of-first P front (first ∷ back) later piece e all =
    let rest = sized_in (back ++ later) in
    let whole : sized_in ((front ++ first ∷ back) ++ later) ≡ sized_in front ++ (first.statements ++ rest) = ap sized_in (append_assoc front (first ∷ back) later) ∙ sized_in-append front (first ∷ (back ++ later)) in
    let same : first ≡ piece = cc in
    subst (λ (p : DeckPiece). AllByRecursion P p.statements) same
    (all-front P first.statements rest (all-behind P (sized_in front) (first.statements ++ rest) (subst (AllByRecursion P) whole all)))

-- a view agrees with itself
agree-itself : (v : View) (names : List (List ℕ)) → Agree v v names
agree-itself v [] = tt
agree-itself v (name ∷ names) = (refl, agree-itself v names)

names-itself : (v : View) (names : List (Option (List ℕ))) (what : code.Defines) → AreNamesAlike v v names what
names-itself v names defines.Externals = agree-itself v (lawful_names names)
names-itself v names defines.Nothing = tt
names-itself v names (defines.Symbol form) = tt

externals-itself : (v : View) (operand : Operand) (what : code.Defines) → AreExternalsAlike v v operand what
externals-itself v (NamesOperand names) what = names-itself v names what
externals-itself v _ what = tt

all-itself : (kind : DeckKind) (v : View) (earlier : List Statement) (sized : List SizedStatement) (statements : List Statement) → AreAlikeFrom kind v v earlier sized statements
all-itself kind v earlier [] statements = tt
all-itself kind v earlier (one ∷ sized) [] = tt
all-itself kind v earlier (one ∷ sized) (statement ∷ statements) =
    let read = (settle kind (settled_all kind earlier) statement).read in
    (record { early = agree-itself v (early_symbols read); externals = externals-itself v read.operand (defines_in kind one.sizing) }, all-itself kind v (statement ∷ earlier) sized statements)

-- where the symbols are the same, all that is left agrees
pub same-agrees : (deck : OldDeck) (symbols : List (ℕ × Form)) → deck.symbols ≡ symbols → IsAgreeing deck symbols
same-agrees deck symbols e = λ earlier stood statements behind others are.
    subst (λ (s : List (ℕ × Form)). AreAlikeFrom deck.kind (symbol_in deck.symbols) (symbol_in s) earlier (left deck) statements) e (all-itself deck.kind (symbol_in deck.symbols) earlier (left deck) statements)
