-- Exactly the listings so far went out, the writer has not failed, and the sheet is clear.
use Rattle.std.{proofs.Common.{◌≡◌, length, take}, specs.Io.KnownBytes.Appends}
use Rattle.deck_linker.specs.Publishing.{listings}
use Rattle.deck_linker.proofs.sending.send_listings.Given as goal

abbrev pub invariant-loop-object : goal.invariant-loop-object
invariant-loop-object g l = record {
  texts : Appends (g.W.Write.contents l.fn.output.0) (g.W.Write.contents l.output.0) (listings (take l.object-index l.objects));
  count : l.sent ≡ length (listings (take l.object-index l.objects));
  sound : l.output.1 ≡ l.fn.output.1;
  clear : l.sheet ≡ l.fn.sheet;
}
