use Rattle.desk_core.proofs.NobodyUndone.{edits_undo_nothing, undo_undoes_nothing}
use Rattle.desk_core.proofs.laws.nobody_is_undone.Goals as goal

pub returns-clause-edit : goal.returns-clause-edit
returns-clause-edit c begun history desk runs next name who deck edits moved seen version before found step = edits_undo_nothing begun history desk next name who deck seen version before moved runs found edits step

pub returns-clause-undo : goal.returns-clause-undo
returns-clause-undo c begun history desk runs next name who deck moved seen version before found step = undo_undoes_nothing begun history desk next name who deck seen version before moved runs found step
