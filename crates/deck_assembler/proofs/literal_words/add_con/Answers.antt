use Rattle.std.proofs.Common.{◌∙◌, ap, sym, flat_map}
use Rattle.definitions.specs.Literals.{datum_literals, with_literals}
use Rattle.expr_forms.specs.Joins.Readings.{datum_as}
use Rattle.deck_assembler.proofs.LiteralSteps.{with_literals-append}
use Rattle.deck_assembler.proofs.literal_words.add_con.Goals as goal

pub words-preserved : goal.words-preserved
words-preserved c =
    ap (with_literals (flat_map datum_literals c.next.new.self)) c.in_ok-add_datum-in-Some.ensures
    ∙ sym (with_literals-append (datum_literals (datum_as c.in-Some.datum)) (flat_map datum_literals c.next.new.self) c.words.words)
    ∙ ap (λ rest. with_literals (flat_map datum_literals rest) c.words.words) (sym c.in-Some.ensures.some)
    ∙ c.words.invariant
