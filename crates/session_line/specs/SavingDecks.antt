-- What SAVE makes of the desk and the shelf, and its answer (ours).
use Rattle.std.specs.Prelude.{ℕ, ◌≡◌, List}
use Rattle.definitions.specs.Cards.{Card}
use Rattle.deck_files.specs.{declared.deck_shelf.ShelfSaveFault.ShelfSaveFault, declared.deck_shelf.SaveOver.SaveOver, Savings.saving, ShelfRelations.ShelfRelations}
use Rattle.desk_core.specs.declared.{calls.Question.Question, calls.Question.TheVariants.Cards, replies.Reply.Reply}
use Rattle.session_commands.specs.declared.views.CardsView.TheVariants.{All}
use Rattle.session_line.specs.{declared.answers.Told.Told, declared.answers.Answer.Answer, Reasons.save_reason, Answers.{told_of_cards, called}}
use Rattle.session_line.specs.declared.answers.Told.TheVariants as told

module _ {S : Type 0} (files : ShelfRelations S) where
  -- one save on the shelf of the version that the desk replied with: it is shown, or the fault
  pub data SavesCards (name : List ℕ) (over : SaveOver) (version : ℕ) (cards : List Card) (shelf after : S) (answer : Answer) : Type 0 where
    saved : files.saves shelf (saving name over version cards) after → answer ≡ called (told.Done version) → SavesCards name over version cards shelf after answer
    refused : (fault : ShelfSaveFault) → files.refuses_to_save shelf (saving name over version cards) fault after → answer ≡ called (told.Refused (save_reason fault)) → SavesCards name over version cards shelf after answer

  -- the cards that would be shown are saved; what else would be shown is, and the shelf is not called
  abbrev pub SavesTold : List ℕ → SaveOver → Told → S → S → Answer → Type 0
  SavesTold name over (told.Cards version cards view) shelf after answer = SavesCards name over version cards shelf after answer
  SavesTold name over what shelf after answer = (after ≡ shelf) × (answer ≡ called what)

module _ {C S : Type 0} (asks : C → Question → Reply → C → Type 0) (files : ShelfRelations S) where
  -- SAVE: the desk is asked for the cards, and then the shelf saves them
  pub record SavesDeck (name : List ℕ) (over : SaveOver) (desk next : C) (shelf after : S) (answer : Answer) : Type 0 where
    pub reply : Reply
    pub made : asks desk (Cards name) reply next
    pub kept : SavesTold files name over (told_of_cards All reply) shelf after answer
