-- SAVEALL (ours): the desk is asked for its status, and then, deck by deck, the shelf whether its file has its cards; where it has not, the deck is saved as SAVE does.
use Rattle.std.specs.Prelude.{ℕ, ◌≡◌, true, false, List, [], ◌∷◌, ◌++◌, Option, Some, None, option_to_list}
use Rattle.deck_files.specs.{declared.deck_shelf.SaveOver.TheVariants.Known, ShelfRelations.ShelfRelations}
use Rattle.desk_core.specs.declared.{calls.Question.Question, calls.Question.TheVariants.Status, replies.Reply.Reply, replies.Row.Row}
use Rattle.session_line.specs.{declared.told_decks.ToldDeck.ToldDeck, declared.answers.Told.Told, declared.answers.Answer.Answer, Answers.{WhereStatus, told_of_call, called}, SavingDecks.SavesDeck, ToldDecks.told_deck}
use Rattle.session_commands.specs.declared.refusals.Refusal.TheVariants.{OutOfMemory}
use Rattle.session_line.specs.declared.answers.Told.TheVariants as told

module _ {C S : Type 0} (asks : C → Question → Reply → C → Type 0) (files : ShelfRelations S) where
  -- nothing is done where the deck's file has its cards; else what SAVE does, and that is shown
  pub data SavesRow (row : Row) (desk next : C) (shelf after : S) : Option ToldDeck → Type 0 where
    is_saved : next ≡ desk → files.tells_saved shelf row.name row.version true after → SavesRow row desk next shelf after None
    unsaved : (between : S) (answer : Answer) → files.tells_saved shelf row.name row.version false between → SavesDeck asks files row.name Known desk next between after answer →
        SavesRow row desk next shelf after (Some (told_deck row.name answer.told))

  -- these decks one after the other, and what became of those that were to be saved
  pub data SavesRows (first : C) (start : S) : List Row → List ToldDeck → C → S → Type 0 where
    no_row : SavesRows first start [] [] first start
    next_row : (rows : List Row) (saved : List ToldDeck) (desk next : C) (shelf after : S) (row : Row) (line : Option ToldDeck) → SavesRows first start rows saved desk shelf → SavesRow row desk next shelf after line →
        SavesRows first start (rows ++ row ∷ []) (saved ++ option_to_list line) next after

  -- what became of the decks is shown; or there was no memory for that, and nothing was called
  pub data TellsSaves (version : ℕ) (rows : List Row) (desk next : C) (shelf after : S) (answer : Answer) : Type 0 where
    told_all : (saved : List ToldDeck) → SavesRows desk shelf rows saved next after → answer ≡ called (told.Decks version saved) → TellsSaves version rows desk next shelf after answer
    lacking : next ≡ desk → after ≡ shelf → answer ≡ called (told.Refused OutOfMemory) → TellsSaves version rows desk next shelf after answer

  -- the decks of the status that would be shown are saved; what else would be shown is, and nothing more is called
  abbrev pub SavesAllTold : Told → C → C → S → S → Answer → Type 0
  SavesAllTold what desk next shelf after answer =
      WhereStatus what (λ version published rows. TellsSaves version rows desk next shelf after answer) ((next ≡ desk) × (after ≡ shelf) × (answer ≡ called what))

  -- SAVEALL: one call of the desk for the status, and then each of its decks
  pub record SavesAll (desk next : C) (shelf after : S) (answer : Answer) : Type 0 where
    pub reply : Reply
    pub between : C
    pub made : asks desk Status reply between
    pub kept : SavesAllTold (told_of_call reply) between next shelf after answer
