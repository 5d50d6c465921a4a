use Rattle.std.proofs.Common.{ℕ, List, Result, Ok, Err, OnOk, subst, sym, reverse, length}
use Rattle.definitions.specs.{Cards.Card, DeckKinds.up_to_end, Statements.statements_of}
use Rattle.statement_coder.specs.Meters.{RisesBy}
use Rattle.edit_core.proofs.kept.Kept.new.Goals as goal

-- what holds in any case
always : {T E P : Type 0} (result : Result T E) → P → OnOk result P
always (Ok value) holds = holds
always (Err error) holds = tt

pub returns-in-Ok-clause-sized_all : goal.returns-in-Ok-clause-sized_all
returns-in-Ok-clause-sized_all c =
    always c.of.result
    (subst (λ (n : ℕ). RisesBy (length (up_to_end (statements_of (reverse c.args.cards.items)))) c.args.meter.now.sized n) (sym c.object_of.ensures.sized)
    (subst (λ (cards : List Card). RisesBy (length (up_to_end (statements_of (reverse cards)))) c.args.meter.now.sized c.new.new.meter.sized) c.deref.ensures.value c.in_ok-sized.ensures.all))

pub returns-in-Ok-clause-coded_all : goal.returns-in-Ok-clause-coded_all
returns-in-Ok-clause-coded_all c =
    always c.of.result
    (subst (λ (n : ℕ). RisesBy (length (up_to_end (statements_of (reverse c.args.cards.items)))) n c.object_of.new.meter.coded) c.new.ensures.coded c.in-Ok.ensures.coded_all)
