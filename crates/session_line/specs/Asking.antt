-- What several commands do of the desk and the shelf (ours): one call with what is shown of its reply, one load, and the version that the shelf notes.
use Rattle.std.specs.Prelude.{ℕ, ◌≡◌, List, Result, Ok, Err}
use Rattle.definitions.specs.Cards.{Card}
use Rattle.deck_files.specs.{declared.deck_shelf.ShelfLoadFault.ShelfLoadFault, ShelfRelations.ShelfRelations}
use Rattle.session_line.specs.{declared.answers.Told.Told, declared.answers.Answer.Answer, Answers.called}
use Rattle.session_line.specs.declared.answers.Told.TheVariants as told

module _ {C A R : Type 0} (makes : C → A → R → C → Type 0) where
  -- one call of the desk, for a change or for an answer to a question, and what is shown of its reply
  pub record Asks (asked : A) (telling : R → Told) (desk next : C) (answer : Answer) : Type 0 where
    pub reply : R
    pub made : makes desk asked reply next
    pub answered : answer ≡ called (telling reply)

  -- the same, where more than one thing may be shown of the reply
  pub record AsksFor (asked : A) (telling : R → Told → Type 0) (desk next : C) (answer : Answer) : Type 0 where
    pub reply : R
    pub made : makes desk asked reply next
    pub what : Told
    pub told : telling reply what
    pub answered : answer ≡ called what

module _ {S : Type 0} (files : ShelfRelations S) where
  -- what the shelf answers to one load
  abbrev pub ShelfLoads : List ℕ → S → Result (List Card) ShelfLoadFault → S → Type 0
  ShelfLoads name shelf (Ok cards) after = files.loads shelf name cards after
  ShelfLoads name shelf (Err fault) after = files.refuses_to_load shelf name fault after

module _ {S : Type 0} (files : ShelfRelations S) where
  -- the shelf notes the version that is shown, if one is
  abbrev pub NotesTold : List ℕ → Told → S → S → Type 0
  NotesTold name (told.Done version) shelf after = files.notes shelf name version after
  NotesTold name (told.Unkept version) shelf after = files.notes shelf name version after
  NotesTold name what shelf after = after ≡ shelf
