-- What the edits of a job count, stated of its own cards.
use Rattle.std.proofs.Common.{◌≡◌, Bool, false, List, None, ap₂, subst, ◌∙◌}
use Rattle.work_meter.specs.Counts.{Counts}
use Rattle.edit_core.specs.Faults.{against_all}
use Rattle.deck_workers.specs.Joins.Language.{Card, Edit, edits_fault, CountsInOrder}

pub counts-edits : (edits : List Edit) (own begun cards : List Card) (is_spent : Bool) (old new : Counts) → own ≡ begun → own ≡ cards → is_spent ≡ false → edits_fault edits begun ≡ None →
    (against_all edits is_spent own ≡ None → CountsInOrder edits own old new) → CountsInOrder edits cards old new
counts-edits edits own begun cards is_spent old new first same unspent none counts =
    subst (λ (l : List Card). CountsInOrder edits l old new) same (counts (ap₂ (λ (spent : Bool) (l : List Card). against_all edits spent l) unspent first ∙ none))
