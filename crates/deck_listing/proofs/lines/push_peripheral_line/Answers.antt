use Rattle.std.{proofs.Common.{[], ◌∷◌}, specs.Prelude.codes}
use Rattle.definitions.specs.Numerals.{octal_of}
use Rattle.deck_listing.proofs.PushLaws.{five}
use Rattle.deck_listing.proofs.lines.push_peripheral_line.Goals as goal

pub returns : goal.returns
returns c =
    five _ _ _ _ _ _ (codes "  ") (octal_of 4 c.args.word) (codes " ") (octal_of 4 c.args.bits) (10 ∷ [])
    c.put.ensures c.put_octal.ensures.text c.put-2.ensures c.put_octal-2.ensures.text c.put-3.ensures
