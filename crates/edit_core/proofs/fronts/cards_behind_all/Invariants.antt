use Rattle.std.proofs.Common.{◌≡◌, ◌≤◌, List, length, None}
use Rattle.definitions.specs.Cards.{Card}
use Rattle.cards.specs.Edits.{first_fault}
use Rattle.edit_core.proofs.EndLaws.{IsLeft}
use Rattle.edit_core.proofs.fronts.cards_behind_all.Given as goal

-- what the edits so far leave
abbrev pub invariant-loop-edit : goal.invariant-loop-edit
invariant-loop-edit l = (cards : List Card) → length cards ≡ l.fn.count → l.fn.count ≤ 20000 → first_fault l.edits cards ≡ None → IsLeft l.edits l.edit-index l.left l.behind cards
