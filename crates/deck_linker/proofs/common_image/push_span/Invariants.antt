-- The lines so far, and those of the words of the span that are left.
use Rattle.std.proofs.Common.{◌≡◌, ◌+◌, ◌-◌, ◌++◌}
use Rattle.parcel_packer.specs.Joins.Filling.{words_from}
use Rattle.deck_linker.specs.Joins.Sections.{common_words_text}
use Rattle.deck_linker.proofs.common_image.push_span.Given as goal

abbrev pub invariant-loop-index : goal.invariant-loop-index
invariant-loop-index l =
    l.text ++ common_words_text l.base (words_from (l.span.offset + l.index) (l.span.count - l.index) l.span.value) ≡ l.fn.text ++ common_words_text l.base (words_from l.span.offset l.span.count l.span.value)
