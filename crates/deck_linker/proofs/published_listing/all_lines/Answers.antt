use Rattle.std.proofs.Common.{arith}
use Rattle.deck_linker.{specs.Publishing.listings, proofs.ListedLaws.{lines-append, lines-within}}
use Rattle.deck_linker.proofs.published_listing.all_lines.Goals as goal

pub overflow_add-result : goal.overflow_add-result
overflow_add-result c = let all = lines-within c.args.rest.now in omega (arith, c.listing_lines.ensures.few, c.lines_in.ensures, all, c.requires)

pub returns : goal.returns
returns c = let both = lines-append (listings c.args.objects.now) c.args.rest.now in omega (arith, c.listing_lines.ensures.lines, c.lines_in.ensures, both)
