-- A statement that is kept is one statement more.
use Rattle.std.{proofs.Common.{◌≡◌, ◌∷◌, ℕ, List, drop, refl, sym, ap, ◌∙◌, subst}, specs.Prelude.reverse}
use Rattle.cards.specs.Joins.Spans.{statement_at}
use Rattle.definitions.specs.{Cards.Card, Fields.fields_of, Operations.operation_of, Settling.{number_base_of, settle, settled_all}, Laws.States.advanced, declared.deck_kind.DeckKind.DeckKind}
use Rattle.operations.specs.Joins.OperationsAs.{operation_as}
use Rattle.statement_coder.specs.Joins.{KeptReadings.{IsKeptReading}, Sizings.{defines_in}, StatementsRead.{IsRead}}
use Rattle.use_blocks.specs.Joins.{Changes.IsAccepted, EffectsAs.{change_as, effect_as}, BlockLengths.block_names}
use Rattle.deck_assembler.{specs.Joins.FirstSymbols.symbol_in, specs.Joins.PieceSteps.with_statement, specs.Joins.SizedDecks.IsSizedStatement, specs.Joins.Sizers.{stood, ahead, IsNext, IsNoted}, specs.declared.sized_statement.SizedStatement.SizedStatement, proofs.PieceMeetings.{first-left, first-of}, proofs.SizerSteps.sizer-step}
use Rattle.deck_assembler.proofs.sizer.Sizer.keep_span.Goals as goal

pub known_statement-statement-requires-clause-operation : goal.known_statement-statement-requires-clause-operation
known_statement-statement-requires-clause-operation c =
    let first = first-left c.args.left.now.items c.in-Some.sized.now c.requires.some c.in-Some.ensures.lookup in
    c.requires.operation c.in-Some.sized.now (drop 1 c.args.left.now.items) first ∙ ap (λ (cards : List Card). operation_of c.args.kind (fields_of cards).operation) (sym c.of.ensures)

pub note_kept-requires-clause-accepted : goal.note_kept-requires-clause-accepted
note_kept-requires-clause-accepted c =
    let first = first-left c.args.left.now.items c.in-Some.sized.now c.requires.some c.in-Some.ensures.lookup in
    subst (λ change. IsAccepted (change_as change) c.args.self.now.state) (sym c.effect-effect.ensures.change) (c.requires.accepted c.in-Some.sized.now (drop 1 c.args.left.now.items) first)

pub returns-in_ok-put-clause-kept : goal.returns-in_ok-put-clause-kept
returns-in_ok-put-clause-kept c =
    let kind = c.args.kind in
    let cards = c.args.cards.now in
    let given = statement_at cards c.args.span in
    let left = c.args.left.now.items in
    let old = c.args.self.now in
    let sized : SizedStatement = c.in-Some-pop_front.sized in
    let front : SizedStatement = c.in-Some.sized.now in
    let popped : left ≡ sized ∷ c.pop_front.new.self.items = c.in-Some-pop_front.ensures.items in
    let same : sized ≡ front = first-of sized front c.pop_front.new.self.items (drop 1 left) (sym popped ∙ first-left left front c.requires.some c.in-Some.ensures.lookup) in (
      sized,
      popped,
      λ earlier next is found.
          let sized_is = subst (λ (s : SizedStatement). IsSizedStatement kind earlier (stood earlier) (ahead cards earlier) s given) same found in
          let read = subst (λ (l : List Card). IsRead kind l c.known_statement-statement.result) c.of.ensures c.known_statement-statement.ensures in
          let all = settled_all kind earlier in
          let settled = settle kind all given in
          let operand = settled.read.operand in
          let effect = effect_as c.effect-effect.result in
          let kept = subst (λ (k : DeckKind). IsKeptReading k (operation_as front.operation) front.kept operand) (sym read.kind) sized_is.kept in
          let noted = subst (λ (l : DeckKind × List ℕ). IsNoted l.1 operand (defines_in l.0 front.sizing) effect old c.note_kept.new.self) (λ i. (read.kind i, read.location i)) (c.in_ok-note_kept.ensures.noted operand kept sized_is.bare) in
          sizer-step kind cards earlier given effect front old c.put.new.self (subst (λ (s : SizedStatement). IsNext cards earlier s.cards given) same next) is (record {
            sizing = sized_is.sizing;
            number_base = sized_is.number_base;
            operation = sized_is.operation;
            label = sized_is.label;
            kept = sized_is.kept;
            bare = sized_is.bare;
            made = c.effect-effect.ensures.effect kind given (number_base_of all) _ settled read refl sized_is.sizing;
            noted = record {
              lawful = noted.lawful;
              literals = c.put.ensures.literals ∙ noted.literals;
              symbols = ap (λ forms. symbol_in forms) c.put.ensures.symbols ∙ noted.symbols;
              externals = c.put.ensures.externals ∙ noted.externals;
              lengths = c.put.ensures.lengths ∙ noted.lengths;
              same_blocks = ap (λ lengths. block_names lengths) c.put.ensures.lengths ∙ noted.same_blocks;
            };
            pieces = c.in_ok-put.ensures.pieces ∙ (λ i. with_statement (c.note_kept.ensures.state i) (same i) (reverse (c.note_kept.ensures.pieces i).items));
            state = c.in_ok-put.ensures.state ∙ ap (advanced effect) c.note_kept.ensures.state;
          }),
    )
