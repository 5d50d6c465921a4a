-- One statement more, sized behind those before it.
use Rattle.std.{proofs.Common.{◌≡◌, ℕ, Bool, true, false, List, ◌∷◌, refl, sym, ap, ap₂, ◌∙◌, subst, if◌then◌else◌}, specs.Prelude.reverse}
use Rattle.definitions.{specs.Blocks.{block_in_use, is_accepted, change_of}, specs.Cards.Card, specs.Literals.{operand_literals, with_literals}, specs.Operands.{Operand, UseName, UseBefore, operand_of}, specs.Settled.{BlockChange, NoChange, Opens, defined}, specs.Settling.{View, Seen, seen_of, number_base_of, settle, settled_all, settled_from, settled_read}, specs.Statements.Statement, specs.Laws.Agreement.own_symbols, specs.Laws.States.{BlockState, Effect, state_after, seen_from, effect_of, advanced, lengths_advanced, names_of_blocks}, specs.declared.deck_kind.DeckKind.DeckKind, specs.declared.number_base.NumberBase.NumberBase, proofs.StateSteps.{seen_of-state, state_after-step, lengths_of-step, settled_all-in_use}}
use Rattle.operations.specs.Joins.OperationsAs.{operation_as}
use Rattle.use_blocks.specs.Joins.{Changes.IsAccepted, EffectsAs.change_as}
use Rattle.statement_coder.{specs.Joins.KeptReadings.IsKeptReading, specs.Joins.Readings.IsReading, specs.Joins.Sizings.{defines_in, read_as, IsSizing}, specs.Joins.StatementsRead.IsRead, specs.declared.sizing.Sizing.Sizing, proofs.ReadLaws.settled-sizing}
use Rattle.statement_coder.specs.declared.readings.Reading as readings
use Rattle.statement_coder.specs.declared.statement.Statement as statements
use Rattle.deck_assembler.{specs.Joins.FirstSymbols.with_defined, specs.Joins.LiteralsRead.IsBareOperand, specs.Joins.PieceSteps.{with_statement, sized_newest}, specs.Joins.Sizers.{stood, ahead, IsNext, IsNoted, AreSized, HaveStates, AreFilledNewest, IsSizer}, specs.Joins.SharedNames.with_new_by, specs.Joins.SizedDecks.{own_of, IsSizedStatement}, specs.declared.sized_statement.SizedStatement.SizedStatement, specs.declared.sizer.Sizer.Sizer, proofs.DefinitionLaws.defined-step, proofs.ExternalLaws.externals-step, proofs.PieceSteps.{sized-step, states-step, filled-step}}

-- the operand that the code reads of a statement
abbrev pub operand_in : statements.Statement → NumberBase → readings.Reading → Type 0
operand_in code base r = IsReading r (operand_of code.kind base (operation_as code.operation) code.name.now code.variable.now)

-- what was read is the operand that is settled
pub settled-operand : (kind : DeckKind) (earlier : List Statement) (given : Statement) (code : statements.Statement) (base : NumberBase) (r : readings.Reading) →
    IsRead kind given.cards code → base ≡ number_base_of (settled_all kind earlier) → operand_in code base r → IsReading r (settle kind (settled_all kind earlier) given).read.operand
settled-operand kind earlier given code base r read e h =
    subst (IsReading r) (λ i. operand_of (read.kind i) (e i) (read.operation i) (read.name i) (read.variable i)) h

-- what was sized is what is settled
pub settled-sized : (kind : DeckKind) (earlier : List Statement) (given : Statement) (code : statements.Statement) (state : BlockState) (view : View) (sizing : Sizing) →
    IsRead kind given.cards code → state ≡ state_after (settled_all kind earlier) → view ≡ (λ name. defined name (settled_all kind earlier)) →
    IsSizing code.kind view (settled_read code.kind (seen_from state view) (read_as code given (operand_of code.kind state.number_base (operation_as code.operation) code.name.now code.variable.now))) sizing →
    IsSizing kind (λ name. defined name (settled_all kind earlier)) (settle kind (settled_all kind earlier) given) sizing
settled-sized kind earlier given code state view sizing read s v h =
    let all = settled_all kind earlier in
    let from : IsSizing kind view (settled_from kind (seen_from state view) given) sizing = settled-sizing view (seen_from state view) kind given code sizing read h in
    let there : IsSizing kind (λ name. defined name all) (settled_from kind (seen_from (state_after all) (λ name. defined name all)) given) sizing =
    subst (λ (both : BlockState × View). IsSizing kind both.1 (settled_from kind (seen_from both.0 both.1) given) sizing) (λ i. (s i, v i)) from in
    subst (λ seen. IsSizing kind (λ name. defined name all) (settled_from kind seen given) sizing) (sym (seen_of-state all)) there

-- what one statement does to all that is kept
pub record IsStep (kind : DeckKind) (earlier : List Statement) (given : Statement) (effect : Effect) (sized : SizedStatement) (old new : Sizer) : Type 0 where
  pub sizing : IsSizing kind (λ name. defined name (settled_all kind earlier)) (settle kind (settled_all kind earlier) given) sized.sizing
  pub number_base : sized.sizing.usual.number_base ≡ number_base_of (settled_all kind earlier)
  pub operation : (settle kind (settled_all kind earlier) given).read.operation ≡ operation_as sized.operation
  pub label : own_symbols (operation_as sized.operation) sized.label ≡ own_of (settle kind (settled_all kind earlier) given).read
  pub kept : IsKeptReading kind (operation_as sized.operation) sized.kept (settle kind (settled_all kind earlier) given).read.operand
  pub bare : sized.is_bare ≡ true → IsBareOperand (settle kind (settled_all kind earlier) given).read.operand
  pub made : effect ≡ effect_of kind (settle kind (settled_all kind earlier) given)
  pub noted : IsNoted (settle kind (settled_all kind earlier) given).read.fields.location (settle kind (settled_all kind earlier) given).read.operand (defines_in kind sized.sizing) effect old new
  pub pieces : reverse new.pieces.items ≡ with_statement old.state sized (reverse old.pieces.items)
  pub state : new.state ≡ advanced effect old.state

-- and that is what the statements make with it
pub sizer-step : (kind : DeckKind) (cards : List Card) (earlier : List Statement) (given : Statement) (effect : Effect) (sized : SizedStatement) (old new : Sizer) →
    IsNext cards earlier sized.cards given → IsSizer kind cards earlier old → IsStep kind earlier given effect sized old new → IsSizer kind cards (given ∷ earlier) new
sizer-step kind cards earlier given effect sized old new next is step =
    let all = settled_all kind earlier in
    let settled = settle kind all given in
    let in_use = settled_all-in_use kind (given ∷ earlier) in
    let here : IsSizedStatement kind earlier (stood earlier) (ahead cards earlier) sized given = record {
      before = next.before;
      cards = next.cards;
      some = next.some;
      few = next.few;
      within = next.within;
      sizing = step.sizing;
      number_base = step.number_base;
      operation = step.operation;
      label = step.label;
      kept = step.kept;
      bare = step.bare;
    } in
    record {
      state = step.state ∙ ap₂ advanced step.made is.state ∙ sym (state_after-step kind settled all in_use);
      symbols =
          step.noted.symbols ∙ ap (with_defined settled.read.fields.location settled.read.operand (defines_in kind sized.sizing)) is.symbols
          ∙ defined-step kind all given (defines_in kind sized.sizing) step.noted.lawful step.sizing.definitions;
      externals =
          step.noted.externals ∙ (λ i. with_new_by settled.read.operand (defines_in kind sized.sizing) (is.symbols i) (is.externals i))
          ∙ externals-step all settled (defines_in kind sized.sizing) step.noted.lawful step.sizing.definitions step.sizing.externals;
      literals = step.noted.literals ∙ ap (with_literals (operand_literals settled.read.operand)) is.literals;
      lengths =
          step.noted.lengths ∙ (λ i. lengths_advanced (block_in_use (is.state i).open_names) (step.made i) (is.lengths i))
          ∙ sym (lengths_of-step kind settled all in_use);
      same_blocks = step.noted.same_blocks ∙ ap (λ (state : BlockState). names_of_blocks state.blocks) (sym step.state);
      sized = subst (AreSized kind cards (given ∷ earlier)) (sym (ap sized_newest step.pieces ∙ sized-step old.state sized (reverse old.pieces.items))) (here, is.sized);
      states = subst (HaveStates kind (given ∷ earlier)) (sym step.pieces) (states-step kind given earlier old.state sized (reverse old.pieces.items) is.state is.states);
      filled = subst AreFilledNewest (sym step.pieces) (filled-step old.state sized (reverse old.pieces.items) is.filled);
    }

-- the block that a statement opens is accepted
change-accepted : (operand : Operand) (state : BlockState) → IsAccepted (change_of operand (names_of_blocks state.blocks)) state
change-accepted (UseName name) state = by (is_accepted name (names_of_blocks state.blocks)) refl
  where
    by : (b : Bool) → is_accepted name (names_of_blocks state.blocks) ≡ b → IsAccepted (if b then Opens name else NoChange) state
    by true e = e
    by false e = tt
change-accepted UseBefore state = tt
change-accepted operand state = tt

-- a statement that was sized behind these has a change that the state behind them accepts
pub state-accepted : (kind : DeckKind) (earlier : List Statement) (given : Statement) (count : ℕ) (ahead' : List Card) (sized : SizedStatement) (state : BlockState) →
    state ≡ state_after (settled_all kind earlier) → IsSizedStatement kind earlier count ahead' sized given → IsAccepted (change_as sized.sizing.change) state
state-accepted kind earlier given count ahead' sized state is sized_is =
    let all = settled_all kind earlier in
    let settled = settle kind all given in
    let there : IsAccepted (change_of settled.read.operand (names_of_blocks (state_after all).blocks)) (state_after all) = change-accepted settled.read.operand (state_after all) in
    let named : names_of_blocks (state_after all).blocks ≡ (seen_of all).blocks = ap (λ (seen : Seen). seen.blocks) (sym (seen_of-state all)) in
    let here : IsAccepted settled.change (state_after all) = subst (λ names. IsAccepted (change_of settled.read.operand names) (state_after all)) named there in
    subst (λ (both : BlockChange × BlockState). IsAccepted both.0 both.1) (λ i. (sym sized_is.sizing.change i, sym is i)) here

pub sized-accepted : (kind : DeckKind) (cards : List Card) (earlier : List Statement) (given : Statement) (count : ℕ) (ahead' : List Card) (sized : SizedStatement) (sizer : Sizer) →
    IsSizer kind cards earlier sizer → IsSizedStatement kind earlier count ahead' sized given → IsAccepted (change_as sized.sizing.change) sizer.state
sized-accepted kind cards earlier given count ahead' sized sizer is = state-accepted kind earlier given count ahead' sized sizer.state is.state
