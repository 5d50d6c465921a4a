use Rattle.std.proofs.{Common.{ap, sym, ◌∙◌}, lemmas.Result.IfErr-weaker}
use Rattle.expr_forms.specs.Joins.Shapes.{instruction_as}
use Rattle.cpu_opcodes.{specs.Joins.Found.fitted_as, proofs.SearchLaws.{by_sum, by_central}, proofs.UnreadLaws.none_ignored}
use Rattle.cpu_opcodes.proofs.instruction_search.find.Goals as goal

pub returns-then-is_ignoring-clause-refused : goal.returns-then-is_ignoring-clause-refused
returns-then-is_ignoring-clause-refused c = IfErr-weaker c.found_ignoring.result _ _ (λ letter never. absurd never) c.found_ignoring.ensures.never

pub returns-then-is_ignoring-clause-letter : goal.returns-then-is_ignoring-clause-letter
returns-then-is_ignoring-clause-letter c = IfErr-weaker c.found_ignoring.result _ _ (λ letter never. absurd never) c.found_ignoring.ensures.never

pub returns-in-Some-clause-found : goal.returns-in-Some-clause-found
returns-in-Some-clause-found c base subfields h =
    sym (by_sum base c.args.operation.now subfields (instruction_as c.in-Some.shape) c.in-Some.ensures.central
    (none_ignored c.args.operation.now (sym c.is_ignoring.ensures ∙ c.if-is_ignoring.false)) (c.in-Some.ensures.instruction base subfields h))

pub returns-in-Some-central_fit-clause-found : goal.returns-in-Some-central_fit-clause-found
returns-in-Some-central_fit-clause-found c base subfields h =
    sym (by_central base c.args.operation.now subfields (instruction_as c.shape_of.result) (none_ignored c.args.operation.now (sym c.is_ignoring.ensures ∙ c.if-is_ignoring.false))
    (c.in_default.ensures.instruction base subfields h) (c.shape_of.ensures.instruction ∙ c.in-Some-central_fit.ensures base subfields h))

pub returns-in-None-clause-refused : goal.returns-in-None-clause-refused
returns-in-None-clause-refused c base subfields h =
    sym (by_central base c.args.operation.now subfields (fitted_as c.central_fit.result) (none_ignored c.args.operation.now (sym c.is_ignoring.ensures ∙ c.if-is_ignoring.false))
    (c.in_default.ensures.instruction base subfields h) (c.central_fit.ensures base subfields h)) ∙ ap fitted_as c.in-None.is
