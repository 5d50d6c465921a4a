use Rattle.std.{proofs.Common.{◌∙◌, ℕ, ◌<◌, ◌≤◌, All, List, sym, ap, subst}, specs.List.sum}
use Rattle.edit_core.{specs.Edited.statement_count, specs.Records.{Record, ArePieces}, proofs.EditLaws.kept-pieces, proofs.PieceLaws.{pieces-each, pieces-sum}}
use Rattle.edit_core.proofs.kept.Kept.pieces.Goals as goal

pub returns-clause-each : goal.returns-clause-each
returns-clause-each c = λ unspent.
    let inside = c.self.inside in
    let are = kept-pieces inside.sized inside.object.cards inside.pieces.items c.self.invariant.1 (ap (λ (r : Record). r.is_spent) c.self.view_is ∙ unspent) in
    subst (λ (pieces : List ℕ). All (λ piece. (0 < piece) × (piece ≤ 128)) pieces) (sym c.as_slice.ensures.value) (pieces-each (statement_count inside.object.cards) inside.pieces.items are)

pub returns-clause-all : goal.returns-clause-all
returns-clause-all c = λ unspent.
    let inside = c.self.inside in
    let are = kept-pieces inside.sized inside.object.cards inside.pieces.items c.self.invariant.1 (ap (λ (r : Record). r.is_spent) c.self.view_is ∙ unspent) in
    ap sum c.as_slice.ensures.value ∙ pieces-sum (statement_count inside.object.cards) inside.pieces.items are ∙ ap (λ (r : Record). statement_count r.cards) c.self.view_is

pub returns-clause-filled : goal.returns-clause-filled
returns-clause-filled c = λ unspent.
    let inside = c.self.inside in
    let are = kept-pieces inside.sized inside.object.cards inside.pieces.items c.self.invariant.1 (ap (λ (r : Record). r.is_spent) c.self.view_is ∙ unspent) in
    subst (λ (pieces : List ℕ). ArePieces (statement_count c.args.self.now.cards) pieces) (sym c.as_slice.ensures.value)
    (subst (λ (r : Record). ArePieces (statement_count r.cards) inside.pieces.items) c.self.view_is are)
