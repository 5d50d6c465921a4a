use Rattle.deck_files.specs.{FolderSaves.refused_links, Steps.TakesSteps}
use Rattle.deck_files.proofs.second_names.link_unused.Given as goal

-- each name so far was refused
abbrev pub invariant-loop-tries : goal.invariant-loop-tries
invariant-loop-tries g l = TakesSteps g.F.Folder.has_done l.fn.files (refused_links l.place l.deck l.tries) l.files
