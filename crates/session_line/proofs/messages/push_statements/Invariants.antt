use Rattle.std.{proofs.Common.{◌≡◌, ◌+◌, drop, length}, specs.Prelude.flat_map}
use Rattle.session_line.{specs.Joins.FlagWalks.flags_in, specs.Messages.letters_of, proofs.MessageSteps.IsSoFar}
use Rattle.session_line.proofs.messages.push_statements.Given as goal

-- the lines of the statements so far stand behind what stood there
abbrev pub invariant-loop-shown : goal.invariant-loop-shown
invariant-loop-shown l = record {
  far : IsSoFar l.name (flat_map letters_of (flags_in 0 l.cards l.lines)) (flat_map letters_of (flags_in l.stand.cards l.ahead (drop l.shown-index l.lines))) l.fn.text l.text;
  cards : l.stand.cards + length l.ahead ≡ length l.cards;
}
