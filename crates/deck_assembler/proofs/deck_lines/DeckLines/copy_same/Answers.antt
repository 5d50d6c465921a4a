use Rattle.std.proofs.{Common.refl, lemmas.Result.on_ok_weaker}
use Rattle.definitions.specs.{Settled.Settled, Settling.{settle, settled_all}, StatementItems.Context}
use Rattle.deck_assembler.{specs.Joins.Walks.{context_in, whole_of}, proofs.FormerLaws.{still-letters, still-coded}, proofs.SameLaws.never-rebound}
use Rattle.deck_assembler.proofs.deck_lines.DeckLines.copy_same.Goals as goal

pub returns-clause-lined : goal.returns-clause-lined
returns-clause-lined c =
    on_ok_weaker c.copy.result (λ lined known others earlier given is sized has was before.
    let view = c.args.view.now in
    let whole = whole_of view known others in
    let settled : Settled = settle whole.deck.kind (settled_all whole.deck.kind earlier) given in
    let new : Context = context_in whole in
    let found = c.args.found.now in
    let not_rebound = never-rebound found.bindings view known others was.context settled is was.bindings c.requires in
    lined known others earlier given was.context.rows is sized has (still-letters whole.deck.kind found settled new was refl not_rebound) (still-coded whole.deck.kind found settled new was refl not_rebound) before) c.copy.ensures.lined
