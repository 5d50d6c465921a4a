use Rattle.std.{proofs.Common.{◌≡◌, length}, specs.Prelude.is_some}
use Rattle.definitions.specs.Operands.{data_word, all_read}
use Rattle.expr_forms.proofs.data_words.are_words.Given as goal

-- what is left is lawful where all is
abbrev pub invariant-subfields : goal.invariant-subfields
invariant-subfields l = is_some (all_read (data_word l.base) l.rest) ≡ is_some (all_read (data_word l.base) l.fn.subfields)

abbrev pub decreases-subfields : goal.decreases-subfields
decreases-subfields l = length l.rest
