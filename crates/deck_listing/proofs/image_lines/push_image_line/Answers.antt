use Rattle.std.proofs.Common.{◌++◌, ◌∙◌, ap}
use Rattle.deck_listing.proofs.ImageLineSteps.{equal_one}
use Rattle.deck_listing.proofs.image_lines.push_image_line.Goals as goal

pub returns : goal.returns
returns c = c.push_image_lines.ensures ∙ ap (λ l. c.args.text.now ++ l) (equal_one c.args.kind c.args.address c.args.value)
