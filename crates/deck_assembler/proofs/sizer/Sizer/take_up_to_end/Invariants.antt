use Rattle.std.proofs.Common.{ℕ, ◌≡◌, length, ◌+◌, ◌≤◌, List, [], false}
use Rattle.definitions.specs.{Cards.Card, DeckKinds.{has_end, up_to_end}, Statements.Statement}
use Rattle.statement_coder.specs.Meters.{RisesBy}
use Rattle.deck_assembler.{specs.Joins.FirstStatements.{first_statements, all_statements}, specs.Joins.Formers.known_in, specs.Joins.Meetings.{IsBounded, WillAgree}, specs.Joins.OldDecks.{IsKeptOn, StandsInFront}, specs.Joins.Sizers.IsSizer, specs.Stays.RisesAnew, proofs.FrontLaws.IsFrontTaken}
use Rattle.deck_assembler.specs.declared.old_deck.Stage.TheVariants as stages
use Rattle.deck_assembler.proofs.sizer.Sizer.take_up_to_end.Given as goal

-- the statements so far are sized, and none of them is END
abbrev pub invariant-loop-k : goal.invariant-loop-k
invariant-loop-k l = record {
  taken : IsSizer l.kind l.cards (first_statements l.cards l.spans l.k) l.self;
  kept : (of : List Card) → IsKeptOn l.kind of l.cards [] l.fn.old_deck → IsKeptOn l.kind of l.cards (first_statements l.cards l.spans l.k) l.kept;
  open' : has_end (first_statements l.cards l.spans l.k) ≡ false;
  sized : l.meter.sized ≤ l.initial.meter.sized + l.k;
  rises : l.initial.meter.sized ≤ l.meter.sized;
  front : (of : List Card) (front : List Statement) → IsKeptOn l.kind of l.cards [] l.fn.old_deck → StandsInFront of (up_to_end (all_statements l.cards l.spans)) front l.fn.old_deck →
      IsFrontTaken l.k front l.fn.old_deck l.kept l.initial.meter.sized l.meter.sized;
  due : (of : List Card) (front : List Statement) (limit : ℕ) → IsKeptOn l.kind of l.cards [] l.fn.old_deck → StandsInFront of (up_to_end (all_statements l.cards l.spans)) front l.fn.old_deck → IsBounded l.cards l.spans front limit →
      WillAgree l.kind of l.cards limit [] l.fn.old_deck →
      WillAgree l.kind of l.cards limit (first_statements l.cards l.spans l.k) l.kept × (length front + l.meter.sized ≤ limit + l.initial.meter.sized);
  anew : (of : List Card) → IsKeptOn l.kind of l.cards [] l.fn.old_deck → RisesAnew l.kind (known_in of) (first_statements l.cards l.spans l.k) l.initial.meter.sized l.meter.sized;
  over : l.fn.old_deck.stage ≡ stages.Over → l.kept.stage ≡ stages.Over;
  all : l.fn.old_deck.stage ≡ stages.Over → RisesBy l.k l.initial.meter.sized l.meter.sized;
  coded : l.meter.coded ≡ l.initial.meter.coded;
}
