use Rattle.std.proofs.Common.{Some, ap, ◌∙◌, sym, ◌∷◌}
use Rattle.atomic_table.specs.Table.{rest}
use Rattle.turn_office.proofs.turn.take_out.Goals as goal

pub exchange-requires : goal.exchange-requires
exchange-requires g c = let has = c.requires.turn in (c.requires.own, (Some has.0, has.1 ∙ ap (λ more. (0, Some has.0) ∷ more) (sym (ap rest has.1))))
