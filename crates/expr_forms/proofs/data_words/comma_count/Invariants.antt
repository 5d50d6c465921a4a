use Rattle.std.{proofs.Common.{◌≡◌, ◌≤◌, ◌==◌, length, take}, specs.List.{filter, list_all}}
use Rattle.definitions.specs.Characters.{comma}
use Rattle.expr_forms.specs.Joins.DataTexts.{is_of_numbers}
use Rattle.expr_forms.proofs.data_words.comma_count.Given as goal

-- the commas so far, and whether all so far is as what is asked for
abbrev pub invariant-loop-c : goal.invariant-loop-c
invariant-loop-c l = record {
  all : l.all ≡ list_all (is_of_numbers l.last) (take l.c-index l.text);
  count : l.count ≡ length (filter (λ c. c == comma) (take l.c-index l.text));
  few : l.count ≤ l.c-index;
}
