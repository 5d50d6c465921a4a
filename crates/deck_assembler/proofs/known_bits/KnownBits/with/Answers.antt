use Rattle.std.proofs.Common.{◌∷◌, [], ◌++◌, ap}
use Rattle.statement_coder.specs.Joins.Items.{content_as, item_as}
use Rattle.deck_assembler.proofs.KnownLaws.{together-behind, together-same}
use Rattle.deck_assembler.proofs.known_bits.KnownBits.with.Goals as goal

pub returns-then-bits-width : goal.returns-then-bits-width
returns-then-bits-width c =
    λ fields h.
    let item = c.args.item.now in
    together-same (fields ++ item_as item ∷ []) _ _ _ _ c.behind.ensures.width c.behind.ensures.bits
    (together-behind fields (item_as item) c.args.self.width c.args.self.bits c.in-Known.bits h (ap content_as c.in-Known.is))
