use Rattle.std.proofs.Common.{◌≡◌, ◌+◌, ◌++◌, drop}
use Rattle.deck_listing.specs.Joins.ImageWordLines.{literal_lines}
use Rattle.deck_listing.proofs.section_words.push_literals.Given as goal

-- the lines so far and those of the literals that are left are those of all
abbrev pub invariant-loop-index : goal.invariant-loop-index
invariant-loop-index l =
    l.text ++ literal_lines l.kind (l.base + l.block) l.index (drop l.index l.literals) ≡ l.initial.text ++ literal_lines l.kind (l.base + l.block) 0 l.literals
