use Rattle.std.{proofs.Common.{◌≡◌, ◌≤◌, ◌*◌, length, take}, specs.Io.KnownBytes.Appends}
use Rattle.deck_files.specs.DeckFiles.{file_of}
use Rattle.deck_files.proofs.saving.save.Given as goal

-- exactly the lines of the cards so far went out, and the writer has not failed
abbrev pub invariant-loop-card : goal.invariant-loop-card
invariant-loop-card g l = record {
  lines : Appends (g.W.Write.contents l.fn.writer.0) (g.W.Write.contents l.writer.0) (file_of (take l.card-index l.cards));
  count : l.sent ≡ length (file_of (take l.card-index l.cards));
  few : l.sent ≤ 81 * l.card-index;
  sound : l.writer.1 ≡ l.fn.writer.1;
}
