use Rattle.std.{proofs.Common.{◌≡◌, List, [], Option, subst}, specs.Prelude.{unwrap_or, IfSome}}
use Rattle.definitions.specs.{Operands.Datum, Sizes.data_words, declared.deck_kind.DeckKind.DeckKind}
use Rattle.expr_forms.proofs.data_words.DataWords.number_count.Goals as goal

pub returns-in-Some-clause-words : goal.returns-in-Some-clause-words
returns-in-Some-clause-words c =
    subst (λ (found : Option (List Datum)). IfSome c.number_count.result (λ count. (kind : DeckKind) → data_words kind (unwrap_or found []) ≡ count))
    c.in-Some.ensures.words c.number_count.ensures.words
