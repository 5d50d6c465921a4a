use Rattle.edit_core.proofs.NearLaws.{AreTouched}
use Rattle.edit_core.proofs.near.lie_near.Given as goal

-- what the edits so far touch, and what stands between them
abbrev pub invariant-loop-edit : goal.invariant-loop-edit
invariant-loop-edit l = AreTouched l.first l.others l.edit-index l.fn.count l.between l.touched.before l.touched.behind l.touched.count
