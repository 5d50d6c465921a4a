use Rattle.std.{proofs.Common.{◌≡◌, ◌<◌, ◌≤◌, [], length, vec_len, ◌-◌}, specs.Io.KnownBytes.Consumes}
use Rattle.asm_main.specs.Joins.Chains.{HasEnded, left_of}
use Rattle.asm_main.proofs.chained.ChainedRead.read.Given as goal

-- each part so far ended, and nothing was given
abbrev pub invariant-loop-self : goal.invariant-loop-self
invariant-loop-self g l = record {
  given : Consumes (left_of g.R.Read.remaining l.initial.self) (left_of g.R.Read.remaining l.self) [];
  count : length l.self.parts.items ≡ length l.initial.self.parts.items;
  onward : l.initial.self.next ≤ l.self.next;
  begun : l.initial.self.next < l.self.next → l.initial.self.next < length l.initial.self.parts.items;
  ended : l.initial.self.next < l.self.next → HasEnded l.self;
  still : l.self.next ≤ l.initial.self.next → l.self.asked ≡ l.initial.self.asked;
  fault : l.self.fault ≡ l.initial.self.fault;
}

abbrev pub decreases-loop-self : goal.decreases-loop-self
decreases-loop-self g l = vec_len l.self.parts - l.self.next
