use Rattle.std.proofs.Common.{ℕ, List, subst}
use Rattle.deck_files.specs.Steps.{Gave, Open, TakesStep}
use Rattle.deck_files.proofs.folder_saves.compare.Goals as goal

-- the file was read
pub returns-in-Ok-is_of-clause-told : goal.returns-in-Ok-is_of-clause-told
returns-in-Ok-is_of-clause-told g c = (
  g.F.File.Read.remaining c.in-Ok.file,
  c.in-Ok-is_of.ensures,
  subst (λ (path : List ℕ). TakesStep g.F.Folder.has_done c.args.files.now (Open path, Gave (g.F.File.Read.remaining c.in-Ok.file)) c.open.new.self) c.requires c.in-Ok.ensures,
)
