-- The flagged statements so far, and those of the decks that are left.
use Rattle.std.{proofs.Common.{◌≡◌, ◌+◌, drop}, specs.Prelude.map}
use Rattle.definitions.specs.{Build.errors_in, Objects.object_of}
use Rattle.deck_linker.proofs.publication.errors_in.Given as goal

abbrev pub invariant-loop-object : goal.invariant-loop-object
invariant-loop-object l = l.count + errors_in (map object_of (drop l.object-index l.objects)) ≡ errors_in (map object_of l.objects)
