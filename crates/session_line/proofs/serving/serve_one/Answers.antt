use Rattle.std.proofs.Common.{inr, refl}
use Rattle.session_line.proofs.TakingSteps.{Serves-first, Stops-first}
use Rattle.session_line.proofs.serving.serve_one.Goals as goal

-- the first line is taken
pub returns-in-Ok-clause-serves : goal.returns-in-Ok-clause-serves
returns-in-Ok-clause-serves g c =
    Serves-first c.args.rights g.C.Calls.relations g.S.Shelf.relations _ _ c.take_line.new.line c.as_slice.result.now _ _ _ _ _ c.in-Ok.ensures.line c.as_slice.ensures.value c.serve_taken.ensures.serves

-- the reader breaks off in it
pub returns-in-Err-clause-serves : goal.returns-in-Err-clause-serves
returns-in-Err-clause-serves g c = inr (record { stop = c.in-Err.stop; stopped = Stops-first _ _ _ c.in-Err.ensures.stop; told = c.outcome_of.ensures; output = refl; desk = refl; shelf = refl })
