-- One statement more is a step of all that is kept.
use Rattle.std.{proofs.Common.{◌≡◌, ℕ, List, refl, sym, ap, ap₂, ◌∙◌, subst}, specs.Prelude.reverse}
use Rattle.definitions.specs.{Operands.operand_of, Settling.{number_base_of, settle, settled_all}, Laws.Agreement.own_symbols, Laws.States.{BlockState, advanced}, declared.deck_kind.DeckKind.DeckKind}
use Rattle.operations.specs.Joins.OperationsAs.{operation_as}
use Rattle.statement_coder.specs.{Joins.KeptReadings.IsKeptReading, Joins.Sizings.defines_in, declared.definitions_made.Defines.Defines}
use Rattle.use_blocks.specs.Joins.{EffectsAs.effect_as, BlockLengths.block_names}
use Rattle.deck_assembler.{specs.Joins.FirstSymbols.symbol_in, specs.Joins.PieceSteps.with_statement, specs.Joins.Sizers.IsNoted, specs.declared.sized_statement.SizedStatement.SizedStatement, proofs.SizerSteps.{settled-operand, settled-sized, sizer-step}}
use Rattle.deck_assembler.proofs.sizer.Sizer.take.Goals as goal

pub returns-clause-taken : goal.returns-clause-taken
returns-clause-taken c = λ kind cards earlier given read next is.
    let code = c.args.statement.now in
    let old = c.args.self.now in
    let all = settled_all kind earlier in
    let settled = settle kind all given in
    let r = c.args.reading.now in
    let base = old.state.number_base in
    let sizing = c.in_ok-sizing.sizing in
    let sized : SizedStatement = record { cards = c.args.count; operation = code.operation; label = c.label_of.result; is_bare = c.in_ok-is_bare.is_bare; kept = c.in_ok-kept.kept; sizing = sizing } in
    let based = ap (λ (state : BlockState). state.number_base) is.state in
    let here = operand_of code.kind base (operation_as code.operation) code.name.now code.variable.now in
    let operand = settled-operand kind earlier given code base r read based c.requires.reading in
    let is_sizing = settled-sized kind earlier given code old.state (symbol_in old.symbols) sizing read is.state is.symbols
    (c.in_ok-sizing.ensures.sizing given here (sym read.stray) c.requires.reading (c.in_ok-letters.ensures.letters here c.requires.reading)) in
    let number_base = c.in_ok-sizing.ensures.number_base ∙ ap (λ (state : BlockState). state.number_base) is.state in
    let effect = effect_as c.effect-effect.result in
    let lawful = c.requires.lawful in
    let spelt : settled.read.operand ≡ operand_of code.kind c.number_base-base.result (operation_as code.operation) code.name.now code.variable.now =
    λ i. operand_of (sym read.kind i) (sym (c.number_base-base.ensures ∙ based) i) (sym read.operation i) (sym read.name i) (sym read.variable i) in
    let defined = subst (λ (defines : Defines). IsNoted code.location.now settled.read.operand defines effect old c.note.new.self) (c.defines.ensures ∙ ap (λ k. defines_in k sizing) read.kind) (c.in_ok-is_bare.ensures.noted settled.read.operand operand lawful) in
    let noted = subst (λ (l : List ℕ). IsNoted l settled.read.operand (defines_in kind sizing) effect old c.note.new.self) read.location defined in
    sizer-step kind cards earlier given effect sized old c.put.new.self next is (record {
      sizing = is_sizing;
      number_base = number_base;
      operation = sym read.operation;
      label = c.label_of.ensures (operation_as code.operation) ∙ ap₂ own_symbols read.operation read.location;
      kept = subst (λ (k : DeckKind). IsKeptReading k (operation_as code.operation) c.in_ok-kept.kept settled.read.operand) read.kind (c.in_ok-kept.ensures.kept settled.read.operand operand lawful spelt);
      bare = λ b. c.in_ok-is_bare.ensures.bare b settled.read.operand operand lawful;
      made = c.effect-effect.ensures.effect kind given (number_base_of all) _ settled read refl is_sizing;
      noted = record {
        lawful = noted.lawful;
        literals = c.put.ensures.literals ∙ noted.literals;
        symbols = ap (λ forms. symbol_in forms) c.put.ensures.symbols ∙ noted.symbols;
        externals = c.put.ensures.externals ∙ noted.externals;
        lengths = c.put.ensures.lengths ∙ noted.lengths;
        same_blocks = ap (λ lengths. block_names lengths) c.put.ensures.lengths ∙ noted.same_blocks;
      };
      pieces = c.in_ok-put.ensures.pieces ∙ (λ i. with_statement (c.note.ensures.state i) sized (reverse (c.note.ensures.pieces i).items));
      state = c.in_ok-put.ensures.state ∙ ap (advanced effect) c.note.ensures.state;
    })
