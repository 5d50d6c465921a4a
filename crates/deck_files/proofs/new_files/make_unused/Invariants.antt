use Rattle.deck_files.specs.{FolderSaves.refused_tries, Steps.TakesSteps}
use Rattle.deck_files.proofs.new_files.make_unused.Given as goal

-- each name so far was refused
abbrev pub invariant-loop-tries : goal.invariant-loop-tries
invariant-loop-tries g l = TakesSteps g.F.Folder.has_done l.fn.files (refused_tries l.place l.tries) l.files
