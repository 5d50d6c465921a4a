use Rattle.std.proofs.Common.{[], ◌∷◌, inl, refl}
use Rattle.deck_files.specs.Steps.{Look, Found}
use Rattle.deck_files.proofs.folder_saves.look_at_old.Goals as goal

-- what is no plain file has the name
pub returns-in-Ok-Other-clause-fault : goal.returns-in-Ok-Other-clause-fault
returns-in-Ok-Other-clause-fault g c = (inl refl, ((Look c.as_str.result.now, Found c.in-Ok-Other.field-0) ∷ [], (tt, tt), c.in-Ok-Other.ensures))
