use Rattle.session_line.proofs.SessionKinds.{change_fits, question_fits}
use Rattle.session_line.proofs.desk_laws.a_desk_answers_sessions.Goals as goal

pub returns-clause-changes : goal.returns-clause-changes
returns-clause-changes c = change_fits

pub returns-clause-questions : goal.returns-clause-questions
returns-clause-questions c = question_fits
