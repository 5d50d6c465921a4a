use Rattle.std.proofs.Common.{ap, ◌∙◌}
use Rattle.definitions.specs.{Layout.Based, Objects.object_of}
use Rattle.deck_linker.proofs.based.Based.object.Goals as goal

pub returns : goal.returns
returns c = ap object_of c.object.ensures ∙ ap (λ (based : Based). based.object) c.self.view_is
