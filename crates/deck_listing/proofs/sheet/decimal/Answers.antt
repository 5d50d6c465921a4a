use Rattle.deck_listing.proofs.SheetSteps.{digit-within, digit-below, digit-split}
use Rattle.deck_listing.proofs.sheet.decimal.Goals as goal

pub loop-rest-preserved : goal.loop-rest-preserved
loop-rest-preserved c =
    let text = c.loop-rest.text in
    let after = c.put_byte.new.self in
    let invariant = c.loop-rest.invariant in
    record {
      within = digit-within text after c.loop-rest.rest c.loop-rest-test.true invariant.within invariant.below c.put_byte.ensures.len;
      below = digit-below text after c.loop-rest.rest c.loop-rest-test.true invariant.within invariant.below c.put_byte.ensures.len;
      split = digit-split text after c.loop-rest.rest c.loop-rest-test.true invariant.within invariant.below c.put_byte.ensures.len _ invariant.split c.put_byte.ensures.text;
    }
