use Rattle.std.{proofs.Common.{◌∙◌, ◌∷◌, List, ℕ, ap, ap₂, sym}, specs.List.prefix_len, specs.Prelude.is_none}
use Rattle.definitions.specs.Pieces.{Inside, Plain, mark_of, pieces_at}
use Rattle.expr_forms.proofs.PieceLaws.{pieces-run}
use Rattle.expr_forms.proofs.pieces.run_at.Goals as goal

pub returns-clause-pieces : goal.returns-clause-pieces
returns-clause-pieces c =
    pieces-run c.args.text.now c.run_len.result c.requires.some c.requires.item c.requires.run
    (c.run_len.ensures.len ∙ ap (prefix_len (λ (d : ℕ). is_none (mark_of d))) c.split_at.ensures.back)
    ∙ ap₂ (λ (run rest : List ℕ). Plain run ∷ pieces_at Inside 0 rest) (sym c.split_at-2.ensures.front) (sym c.split_at-2.ensures.back)
