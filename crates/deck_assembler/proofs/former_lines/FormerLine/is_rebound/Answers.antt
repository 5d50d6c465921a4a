use Rattle.std.proofs.Common.{◌∙◌, ap}
use Rattle.statement_coder.specs.Joins.Sizings.{location_in, origin_in}
use Rattle.deck_assembler.{specs.Joins.FirstSymbols.symbol_in, specs.declared.rebinding.Rebinding.Rebinding, proofs.RebindingLaws.test-rebound}
use Rattle.deck_assembler.proofs.former_lines.FormerLine.is_rebound.Goals as goal

pub returns : goal.returns
returns c =
    λ old new settled bound symbols literals rows taken location origin.
    let sizing = c.args.sizing.now in
    let rebinding : Rebinding = record { old = c.args.self.now.bindings; new = c.bindings.result; location = c.location.result; origin = c.origin.result } in
    c.differs.ensures ∙ test-rebound rebinding old new settled c.args.read.now (record {
      of_old = bound;
      of_new = record { symbols = ap symbol_in c.bindings.ensures.symbols ∙ symbols; literals = c.bindings.ensures.literals ∙ literals; rows = c.bindings.ensures.rows ∙ rows };
      location = c.location.ensures ∙ ap (λ kind. location_in kind sizing) c.kind-kind.ensures ∙ location;
      origin = c.origin.ensures ∙ ap (λ kind. origin_in kind sizing) c.kind-kind.ensures ∙ origin;
    }) taken
