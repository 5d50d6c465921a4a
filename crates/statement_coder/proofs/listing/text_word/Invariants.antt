use Rattle.std.proofs.Common.{◌≡◌, ◌-◌, take, drop}
use Rattle.definitions.specs.Forms.{characters_number}
use Rattle.statement_coder.proofs.listing.text_word.Given as goal

-- the number of the characters so far
abbrev pub invariant-loop-place : goal.invariant-loop-place
invariant-loop-place l = l.number ≡ characters_number (take (l.place - l.from) (drop l.from l.text.characters))
