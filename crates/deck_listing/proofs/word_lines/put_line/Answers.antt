use Rattle.std.proofs.lemmas.Result.{on_ok_weaker}
use Rattle.deck_listing.proofs.LineSteps.{zeros_put}
use Rattle.deck_listing.proofs.word_lines.put_line.Goals as goal

pub returns-in-Zeros-clause-put : goal.returns-in-Zeros-clause-put
returns-in-Zeros-clause-put g c =
    on_ok_weaker c.put_zeros.result
    (zeros_put c.args.kind c.args.lists.now (g.L.Linking.linking c.args.linking.now) c.args.line.now c.args.words.now c.put_zeros.new.self c.units-units.result c.requires c.in-Zeros.is c.units-units.ensures)
    c.put_zeros.ensures.put
