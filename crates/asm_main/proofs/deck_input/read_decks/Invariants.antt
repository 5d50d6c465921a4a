use Rattle.std.proofs.Common.{◌≡◌}
use Rattle.asm_main.proofs.ReadSteps.{IsReadSoFar}
use Rattle.asm_main.proofs.deck_input.read_decks.Given as goal

-- the lines so far are the decks so far, and the reader has not failed
abbrev pub invariant-loop-before : goal.invariant-loop-before
invariant-loop-before g l = record {
  read : IsReadSoFar (g.R.Read.remaining l.fn.input.0) (g.R.Read.remaining l.input.0) l.decks.items l.before;
  sound : l.input.1 ≡ l.fn.input.1;
}
