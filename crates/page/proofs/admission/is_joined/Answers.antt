use Rattle.std.proofs.{Common.{Some, None}, lemmas.Bool.Decides.Decides-eqb, lemmas.Slice.Eq.strip_prefix_is}
use Rattle.page.proofs.Names.{behind-name, no-name}
use Rattle.page.proofs.admission.is_joined.Goals as goal

pub returns-in-Some : goal.returns-in-Some
returns-in-Some c =
    behind-name c.args.text.now c.args.name.now c.in-Some.rest.now c.args.digits.now c.eq.result
    (strip_prefix_is Decides-eqb c.args.text.now c.args.name.now (Some c.in-Some.rest) c.in-Some.ensures.cases)
    c.eq.ensures

pub returns-in-None : goal.returns-in-None
returns-in-None c =
    no-name c.args.text.now c.args.name.now c.args.digits.now
    (strip_prefix_is Decides-eqb c.args.text.now c.args.name.now None c.in-None.ensures.cases)
