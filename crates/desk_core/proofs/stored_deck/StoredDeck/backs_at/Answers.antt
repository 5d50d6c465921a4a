use Rattle.std.proofs.Common.{◌∙◌, List, length, ap, sym}
use Rattle.desk_core.{specs.Joins.Edits.Edit, specs.Desks.DeskDeck, specs.Undoing.backs_at, proofs.UndoDone.backs-length}
use Rattle.desk_core.proofs.stored_deck.StoredDeck.backs_at.Goals as goal

pub returns-clause-edits : goal.returns-clause-edits
returns-clause-edits c = c.backs_at.ensures ∙ ap (λ (d : DeskDeck). backs_at c.args.version d) c.self.view_is

pub returns-clause-count : goal.returns-clause-count
returns-clause-count c =
    sym (backs-length c.backs_at.result.now)
    ∙ ap (λ (edits : List Edit). length edits) (c.backs_at.ensures ∙ ap (λ (d : DeskDeck). backs_at c.args.version d) c.self.view_is)
