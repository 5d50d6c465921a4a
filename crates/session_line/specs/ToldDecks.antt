-- Decks that were to be saved, or to be added, and what became of each (ours).
use Rattle.std.specs.Prelude.{ℕ, List}
use Rattle.session_line.specs.declared.{told_decks.DeckOutcome.DeckOutcome, told_decks.DeckOutcome.TheVariants.{Done, Unkept, Refused}, told_decks.ToldDeck.ToldDeck, answers.Told.Told}
use Rattle.session_commands.specs.declared.refusals.Refusal.TheVariants.{Foreign}
use Rattle.session_line.specs.declared.answers.Told.TheVariants as told

-- the outcome that is shown of a deck
abbrev pub outcome_of : Told → DeckOutcome
outcome_of (told.Done version) = Done version
outcome_of (told.Unkept version) = Unkept version
outcome_of (told.Refused refusal) = Refused refusal
outcome_of _ = Refused Foreign

-- the deck of this name, and what became of it
abbrev pub told_deck : List ℕ → Told → ToldDeck
told_deck name what = record { name = name; outcome = outcome_of what }
