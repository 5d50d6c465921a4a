use Rattle.std.proofs.Common.{◌≡◌, ℕ, ◌≤◌, ◌+◌, List, take, drop, length}
use Rattle.definitions.specs.{StatementItems.Context, Statements.Statement}
use Rattle.statement_coder.specs.Meters.{RisesBy}
use Rattle.deck_assembler.specs.Joins.{DeckParts.sized_in, Walks.{IsWhole, whole_of}, DueCodes.{CodePlan, IsPlanned, IsWalkedAnew, IsWalkedDue}, FormerLines.{IsBare, IsWalkedBeside}, Rebindings.AreBindings}
use Rattle.deck_assembler.proofs.deck_walk.Making.add_pieces.Given as goal

-- the statements of the pieces so far are behind, each coded once at most
abbrev pub invariant-loop-piece : goal.invariant-loop-piece
invariant-loop-piece l = record {
  walked : (known others : List Statement) → IsWhole (whole_of l.view known others) → IsWalkedBeside (whole_of l.view known others) (sized_in l.pieces) l.fn.self l.fn.former →
      IsWalkedBeside (whole_of l.view known others) (sized_in (drop l.piece-index l.pieces)) l.self l.former;
  ended : IsBare l.fn.former → IsBare l.former;
  bindings : l.former.bindings ≡ l.fn.former.bindings;
  coded : l.meter.coded ≤ l.fn.meter.coded + length (sized_in (take l.piece-index l.pieces));
  rises : l.fn.meter.coded ≤ l.meter.coded;
  all : IsBare l.fn.former → RisesBy (length (sized_in (take l.piece-index l.pieces))) l.fn.meter.coded l.meter.coded;
  same : l.meter.sized ≡ l.fn.meter.sized;
  due : (known others : List Statement) (plan : CodePlan) (base : ℕ) → IsWhole (whole_of l.view known others) → IsPlanned known plan →
      IsWalkedDue (whole_of l.view known others) plan base (sized_in l.pieces) l.fn.self.lines.stood l.fn.former l.fn.meter.coded →
      IsWalkedDue (whole_of l.view known others) plan base (sized_in (drop l.piece-index l.pieces)) l.self.lines.stood l.former l.meter.coded;
  anew : (known others : List Statement) (old : Context) (base : ℕ) → IsWhole (whole_of l.view known others) → AreBindings l.fn.former.bindings old →
      IsWalkedAnew (whole_of l.view known others) old base (sized_in l.pieces) l.fn.self.lines.stood l.fn.meter.coded →
      IsWalkedAnew (whole_of l.view known others) old base (sized_in (drop l.piece-index l.pieces)) l.self.lines.stood l.meter.coded;
}
