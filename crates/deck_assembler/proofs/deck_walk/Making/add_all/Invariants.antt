use Rattle.std.proofs.Common.{◌≡◌, ℕ, ◌≤◌, ◌+◌, ◌++◌, List, drop}
use Rattle.definitions.specs.{StatementItems.Context, Statements.Statement}
use Rattle.statement_coder.specs.Meters.{RisesBy}
use Rattle.deck_assembler.specs.declared.sized_statement.SizedStatement as code
use Rattle.deck_assembler.specs.Joins.{Walks.{IsWhole, whole_of}, DueCodes.{CodePlan, IsPlanned, IsWalkedAnew, IsWalkedDue}, FormerLines.{IsBare, IsWalkedBeside}, Rebindings.AreBindings}
use Rattle.deck_assembler.proofs.deck_walk.Making.add_all.Given as goal

-- the statements so far are behind, each coded once at most
abbrev pub invariant-loop-sized : goal.invariant-loop-sized
invariant-loop-sized l = record {
  walked : (known others : List Statement) (left : List code.SizedStatement) → IsWhole (whole_of l.view known others) → IsWalkedBeside (whole_of l.view known others) (l.piece ++ left) l.fn.self l.fn.former →
      IsWalkedBeside (whole_of l.view known others) (drop l.sized-index l.piece ++ left) l.self l.former;
  ended : IsBare l.fn.former → IsBare l.former;
  bindings : l.former.bindings ≡ l.fn.former.bindings;
  coded : l.meter.coded ≤ l.fn.meter.coded + l.sized-index;
  rises : l.fn.meter.coded ≤ l.meter.coded;
  all : IsBare l.fn.former → RisesBy l.sized-index l.fn.meter.coded l.meter.coded;
  same : l.meter.sized ≡ l.fn.meter.sized;
  due : (known others : List Statement) (left : List code.SizedStatement) (plan : CodePlan) (base : ℕ) → IsWhole (whole_of l.view known others) → IsPlanned known plan →
      IsWalkedDue (whole_of l.view known others) plan base (l.piece ++ left) l.fn.self.lines.stood l.fn.former l.fn.meter.coded →
      IsWalkedDue (whole_of l.view known others) plan base (drop l.sized-index l.piece ++ left) l.self.lines.stood l.former l.meter.coded;
  anew : (known others : List Statement) (left : List code.SizedStatement) (old : Context) (base : ℕ) → IsWhole (whole_of l.view known others) → AreBindings l.fn.former.bindings old →
      IsWalkedAnew (whole_of l.view known others) old base (l.piece ++ left) l.fn.self.lines.stood l.fn.meter.coded →
      IsWalkedAnew (whole_of l.view known others) old base (drop l.sized-index l.piece ++ left) l.self.lines.stood l.meter.coded;
}
