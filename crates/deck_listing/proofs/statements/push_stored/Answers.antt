use Rattle.deck_listing.proofs.KnownWords.{several-lines}
use Rattle.deck_listing.proofs.statements.push_stored.Goals as goal

pub push_words-requires-clause-several : goal.push_words-requires-clause-several
push_words-requires-clause-several c = several-lines c.args.parts.now.kind c.args.parts.now.fields c.args.stored.now c.in-Words.first c.in-Words.count c.in-Words.is c.requires
