use Rattle.std.proofs.Common.{◌≡◌}
use Rattle.asm_main.proofs.objects.objects_of.Given as goal

abbrev pub invariant-loop-deck : goal.invariant-loop-deck
invariant-loop-deck l = l.objects.items ≡ l.yielded
