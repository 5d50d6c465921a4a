-- The kind that is found among the first statements is that of all.
use Rattle.std.{proofs.Common.{◌≡◌, ◌+◌, ◌∷◌, suc, List, length, drop, sym, ap, ◌∙◌, arith}, specs.Prelude.{reverse, is_some, true}, proofs.Math.Seq.take-length}
use Rattle.cards.specs.Joins.Spans.{statements_at}
use Rattle.definitions.specs.{Cards.Card, Fields.fields_of, Statements.Statement}
use Rattle.operations.specs.Joins.KindsFound.{kind_found}
use Rattle.deck_assembler.{specs.Joins.FirstStatements.{first_statements, all_statements, fields_in}, proofs.EndLaws.{first-step, all-split}, proofs.KindLaws.{found-behind, kind-up_to_end}}
use Rattle.deck_assembler.proofs.up_to_end.kind_of.Goals as goal

pub returns-then-is_found : goal.returns-then-is_found
returns-then-is_found c =
    let cards = c.args.cards.now in
    let spans = c.args.spans.now in
    let index = c.loop-span.span-index in
    let first = first_statements cards spans index in
    let later = reverse (statements_at cards (drop index spans)) in
    let found : is_some (kind_found (fields_in first)) ≡ true = ap is_some (sym c.loop-span.invariant) ∙ sym c.is_found.ensures.found ∙ c.if-is_found.true in
    kind-up_to_end c.loop-span.search c.kind.result (all_statements cards spans)
    (c.loop-span.invariant ∙ sym (found-behind later first found) ∙ ap (λ (statements : List Statement). kind_found (fields_in statements)) (sym (all-split cards spans index)))
    c.kind.ensures

pub loop-span-preserved : goal.loop-span-preserved
loop-span-preserved c =
    let cards = c.args.cards.now in
    let spans = c.args.spans.now in
    let index = c.loop-span.span-index in
    let first = first_statements cards spans index in
    let one : index + 1 ≡ suc index = omega arith in
    c.read_kind.ensures (fields_in first) c.loop-span.invariant
    ∙ ap (λ (own : List Card). kind_found (fields_of own ∷ fields_in first)) c.of.ensures
    ∙ ap (λ (statements : List Statement). kind_found (fields_in statements)) (sym (ap (first_statements cards spans) one ∙ first-step cards spans index (record { start = 0; count = 0 }) (omega arith)))

pub returns : goal.returns
returns c =
    let cards = c.args.cards.now in
    let spans = c.args.spans.now in
    let index = c.loop-span.span-index in
    let n : index ≡ length spans = omega (arith, c.loop-span.auto.span-index-end, c.loop-span-test.false) in
    let all : first_statements cards spans index ≡ all_statements cards spans = ap (first_statements cards spans) n ∙ ap (all_statements cards) (take-length spans) in
    kind-up_to_end c.loop-span.search c.kind-2.result (all_statements cards spans)
    (c.loop-span.invariant ∙ ap (λ (statements : List Statement). kind_found (fields_in statements)) all)
    c.kind-2.ensures
