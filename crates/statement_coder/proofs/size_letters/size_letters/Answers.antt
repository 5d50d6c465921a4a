use Rattle.std.proofs.Common.{◌∙◌, List, [], ◌∷◌, ◌++◌, ap, if◌then◌else◌}
use Rattle.definitions.specs.{Letters.in_order, Settling.{letter_where, location_letters}, declared.letter.Letter.Letter}
use Rattle.definitions.specs.declared.letter.Letter.TheVariants as letter
use Rattle.operations.specs.Joins.OperationsAs.{operation_as}
use Rattle.statement_coder.specs.Joins.{LettersAs.letters_as, Sizings.refused_as}
use Rattle.statement_coder.proofs.size_letters.size_letters.Goals as goal

pub returns : goal.returns
returns c operand letters before reading are defined =
    let statement = c.args.statement.now in
    let place = statement.location.now in
    let operation = operation_as statement.operation in
    let state = c.args.state.now in
    let stray : List Letter = letter_where statement.is_stray letter.C in
    let location : List Letter = location_letters statement.kind operation place before in
    let variable : List Letter =
    if refused_as statement operand state then letter.O ∷ []
    else letters ++ letters_as c.args.outcome in
    let stray_is = c.with_letter-stray.ensures [] c.none.ensures ∙ ap in_order c.letter_where.ensures in
    let location_is = c.with_letter-location.ensures [] c.none-2.ensures ∙ ap in_order (c.location_letter-place.ensures before defined) in
    let variable_is = c.variable_letters-variable.ensures operand letters reading are in
    c.union-2.ensures stray (location ++ variable) stray_is (c.union.ensures location variable location_is variable_is)
