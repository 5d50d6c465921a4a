use Rattle.std.proofs.Common.{arith}
use Rattle.deck_listing.specs.ListedObjects.{lines_in}
use Rattle.deck_linker.{specs.Publishing.listings, proofs.ListedLaws.{lines-append, lines-within, listings-split}}
use Rattle.deck_linker.proofs.published_listing.listing_lines.Goals as goal

pub overflow_add-lines : goal.overflow_add-lines
overflow_add-lines c =
    let split = listings-split lines_in lines-append c.args.objects.now c.loop-object.object-index c.object-item.result c.loop-object-test.true c.object-item.is in
    let all = lines-within (listings c.args.objects.now) in
    omega (arith, c.loop-object.invariant, c.lines-lines.ensures, split, all, c.requires)

pub loop-object-preserved : goal.loop-object-preserved
loop-object-preserved c =
    let split = listings-split lines_in lines-append c.args.objects.now c.loop-object.object-index c.object-item.result c.loop-object-test.true c.object-item.is in
    omega (arith, c.loop-object.invariant, c.lines-lines.ensures, split)

pub returns-clause-few : goal.returns-clause-few
returns-clause-few c = let all = lines-within (listings c.args.objects.now) in omega (arith, c.loop-object.invariant, all)
