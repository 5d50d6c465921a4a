use Rattle.std.proofs.Common.{◌≡◌, ℕ, List, OnErr, subst}
use Rattle.deck_files.specs.Steps.{ChangesOnly}
use Rattle.deck_files.proofs.known_files.write_text.Goals as goal

-- no other path than the new file's was changed
pub returns-clause-fault : goal.returns-clause-fault
returns-clause-fault g c =
    subst (λ (new : List ℕ). OnErr c.replace.result (ChangesOnly g.W.WholeFiles.has_done (λ at. at ≡ new) c.args.files.now c.replace.new.files)) c.as_str.ensures.value c.replace.ensures.fault
