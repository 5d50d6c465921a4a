use Rattle.std.proofs.Common.{◌≤◌, length}
use Rattle.expr_forms.specs.Joins.DataTexts.{IsNumberTo}
use Rattle.expr_forms.proofs.data_words.number_to_comma.Given as goal

-- the number of the digits so far, and what is left
abbrev pub invariant-digits : goal.invariant-digits
invariant-digits l = record {
  number : IsNumberTo l.base l.text l.rest l.value;
  within : length l.rest ≤ length l.text;
}

abbrev pub decreases-digits : goal.decreases-digits
decreases-digits l = length l.rest
