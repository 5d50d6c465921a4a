use Rattle.std.proofs.Common.{ap, ◌∙◌}
use Rattle.definitions.specs.{Letters.in_order, Settling.letter_where}
use Rattle.definitions.specs.declared.letter.Letter.TheVariants as letter
use Rattle.statement_coder.{specs.Joins.Externals.{has_unlawful, has_known}, proofs.ExternalLaws.unlawful_or_known}
use Rattle.statement_coder.proofs.externals.external_letters.Goals as goal

pub returns : goal.returns
returns g c =
    let view = g.S.EarlySymbols.view c.args.symbols.now in
    let names = c.args.names.now in
    c.union.ensures (letter_where (has_unlawful names) letter.V) (letter_where (has_known view names) letter.D)
    (c.letters_where-unlawful.ensures ∙ ap (λ b. in_order (letter_where b letter.V)) (c.has_unlawful.ensures ∙ ap has_unlawful c.copied-2.ensures))
    (c.letters_where-known.ensures ∙ ap (λ b. in_order (letter_where b letter.D)) (c.in_ok-is_known.ensures ∙ ap (has_known view) c.copied.ensures))
    ∙ unlawful_or_known view names
