use Rattle.cards.{specs.Carrying.seen_before, specs.Converging.edits_in, proofs.FaultLaws.have-places, proofs.Batches.{seen-tells, converges}}
use Rattle.cards.proofs.laws.carried_edits_converge.Goals as goal

pub returns : goal.returns
returns c = λ seen made edits all made_apply apply ok.
    converges edits (seen_before made) (edits_in made) seen all (seen-tells made) (have-places (edits_in made) seen made_apply) (have-places edits seen apply) ok
