use Rattle.deck_linker.proofs.DigitLaws.{octal-low}
use Rattle.deck_linker.proofs.link_text.last_digits.Goals as goal

pub returns : goal.returns
returns c = octal-low 8 c.args.address
