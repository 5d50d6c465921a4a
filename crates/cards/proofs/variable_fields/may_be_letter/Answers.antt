use Rattle.std.proofs.Common.{◌<◌, arith, length}
use Rattle.cards.proofs.ReadingLaws.{no-letter-at}
use Rattle.cards.proofs.variable_fields.may_be_letter.Goals as goal

pub returns : goal.returns
returns c =
    let within : c.args.at < length c.args.text.now = omega arith in
    no-letter-at c.args.text.now c.args.at _ within
