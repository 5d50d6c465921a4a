use Rattle.std.proofs.Common.{◌∙◌, ap, refl, subst}
use Rattle.edit_core.{specs.Edited.statement_count, specs.Records.{Record, ArePieces}, proofs.EditLaws.kept-pieces}
use Rattle.edit_core.proofs.kept.Kept.is_whole.Goals as goal

pub returns : goal.returns
returns c =
    let inside = c.self.inside in
    record {
      name_is = refl;
      cards_are = refl;
      unspent = c.requires;
      pieces_are = subst (λ (r : Record). ArePieces (statement_count r.cards) r.pieces) c.self.view_is
          (kept-pieces inside.sized inside.object.cards inside.pieces.items c.self.invariant.1 (ap (λ (r : Record). r.is_spent) c.self.view_is ∙ c.requires));
    }
