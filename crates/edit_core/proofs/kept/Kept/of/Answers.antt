use Rattle.std.proofs.Common.{List, ℕ, ap, refl, subst, sym, ◌∙◌}
use Rattle.edit_core.{specs.Edited.statement_count, specs.Records.{ArePieces, piece_counts}, proofs.PieceLaws.deck-pieces}
use Rattle.edit_core.proofs.kept.Kept.of.Goals as goal

pub returns-in-Ok : goal.returns-in-Ok
returns-in-Ok c = record {
  name_is = refl;
  cards_are = refl;
  unspent = refl;
  pieces_are = subst (λ (counts : List ℕ). ArePieces (statement_count c.args.object.cards) counts)
      (sym (c.in-Ok.ensures ∙ ap piece_counts c.pieces.ensures)) (deck-pieces c.args.object.cards c.args.sized c.requires.deck);
}
