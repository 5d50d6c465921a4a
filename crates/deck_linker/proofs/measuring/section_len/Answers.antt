use Rattle.std.proofs.{lemmas.Slice.Zip.AllZip-long}
use Rattle.definitions.specs.LinkValues.{linking_of}
use Rattle.deck_listing.{specs.Joins.BlockWords.AreWordsOf}
use Rattle.deck_linker.proofs.measuring.section_len.Goals as goal

pub push_deck-requires : goal.push_deck-requires
push_deck-requires c =
    let based = c.args.based.now in
    AllZip-long (AreWordsOf (linking_of c.args.layout.now based) based.object) based.object.rows c.args.blocks.now c.requires
