use Rattle.std.{proofs.Common.{◌≡◌, ◌≤◌, ◌*◌, length, take}, specs.Prelude.flat_map}
use Rattle.session_line.specs.Errors.{errors_where}
use Rattle.session_line.proofs.errors.decks_count.Given as goal

-- those of the decks so far
abbrev pub invariant-loop-shared : goal.invariant-loop-shared
invariant-loop-shared l = record {
  counted : l.count ≡ length (flat_map (errors_where l.view) (take l.shared-index l.objects));
  few : l.count ≤ 20000 * l.shared-index;
}
