use Rattle.std.proofs.Common.{◌≡◌, ◌++◌, take}
use Rattle.deck_listing.specs.Joins.ImageWordLines.{block_lines}
use Rattle.deck_listing.proofs.section_words.push_words.Given as goal

abbrev pub invariant-loop-span : goal.invariant-loop-span
invariant-loop-span l = l.text ≡ l.initial.text ++ block_lines l.kind l.base l.block (take l.span-index l.words)
