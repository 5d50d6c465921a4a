-- The lines so far, and those of the words that are left.
use Rattle.std.proofs.Common.{◌≡◌, ◌++◌, drop}
use Rattle.parcel_packer.specs.Joins.Filling.{as_stored}
use Rattle.deck_linker.specs.Joins.Sections.{common_words_text}
use Rattle.deck_linker.proofs.common_image.push_words.Given as goal

abbrev pub invariant-loop-span : goal.invariant-loop-span
invariant-loop-span l = l.text ++ common_words_text l.base (as_stored (drop l.span-index l.words)) ≡ l.fn.text ++ common_words_text l.base (as_stored l.words)
