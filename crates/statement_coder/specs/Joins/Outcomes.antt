-- What follows from a statement's size or early value, in the words of the definitions.
use Rattle.definitions.specs.EarlyValues as early
use Rattle.use_blocks.specs.Joins.EffectsAs.{setting_as}
use Rattle.statement_coder.specs.Joins.LettersAs.{letters_as}
use Rattle.statement_coder.specs.declared.outcomes.Outcome as code

-- the end, the setting and the letter
abbrev pub outcome_as : code.Outcome → early.Outcome
outcome_as outcome = record { end = outcome.end; setting = setting_as outcome.setting; letters = letters_as outcome.letter }
