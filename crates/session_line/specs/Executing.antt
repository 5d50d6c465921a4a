-- What one command makes of the desk and the shelf, and its answer (ours). The relations are those that the desk and the shelf name for one call.
use Rattle.std.specs.Prelude.{ℕ, ◌≡◌, List, Result, Ok, Err}
use Rattle.definitions.specs.Cards.{Card}
use Rattle.deck_files.specs.{declared.deck_shelf.ShelfLoadFault.ShelfLoadFault, ShelfRelations.ShelfRelations}
use Rattle.desk_core.specs.declared.{calls.Change.Change, calls.Change.TheVariants.AddDeck, replies.Reply.Reply}
use Rattle.desk_core.specs.declared.calls.Question.TheVariants as question
use Rattle.session_line.specs.{declared.tasks.Task.Task, declared.tasks.Task.TheVariants.{Make, Ask, AwaitVersion, ShowCards, ShowCardsAt, Show, LoadDeck, LoadAll, ReloadDeck, SaveDeck, SaveAll, ShowFiles, ShowFileStatus, Greet, ShowHelp, Leave, Refuse}, declared.answers.Answer.Answer, Reasons.load_reason, FileTasks.ShowsFiles, FileStatus.ShowsFileStatus, SavingDecks.SavesDeck, SavingAll.SavesAll, LoadingAll.LoadsAll, Asking.{Asks, AsksFor, NotesTold, ShelfLoads}, Reloading.ReloadsDeck, Answers.{told_of_call, told_of_wait, told_of_greeting, told_of_help, told_of_cards, IsToldAt, IsToldBy, uncalled}, Replied.shown_in, DeskRelations.DeskRelations}
use Rattle.session_line.specs.declared.answers.Told.TheVariants as told

module _ {C : Type 0} (changes : C → Change → Reply → C → Type 0) where
  -- the deck that the shelf gave is added; or its fault is shown, and the desk is not called
  abbrev pub AddsLoaded : List ℕ → Result (List Card) ShelfLoadFault → C → C → Answer → Type 0
  AddsLoaded name (Ok cards) desk next answer = Asks changes (AddDeck (record { name = name; cards = cards })) told_of_call desk next answer
  AddsLoaded name (Err fault) desk next answer = (next ≡ desk) × (answer ≡ uncalled (told.Refused (load_reason fault)))

module _ {C S : Type 0} (changes : C → Change → Reply → C → Type 0) (files : ShelfRelations S) where
  -- LOAD: one load of the shelf, and then one addition to the desk, whose version the shelf notes
  pub record LoadsDeck (name : List ℕ) (desk next : C) (shelf after : S) (answer : Answer) : Type 0 where
    pub loaded : Result (List Card) ShelfLoadFault
    pub between : S
    pub shelved : ShelfLoads files name shelf loaded between
    pub added : AddsLoaded changes name loaded desk next answer
    pub noted : NotesTold files name answer.told between after

module _ {C S : Type 0} (calls : DeskRelations C) (files : ShelfRelations S) where
  -- nothing is called, and this is shown
  abbrev pub OnlyTells : Answer → C → C → S → S → Answer → Type 0
  OnlyTells what desk next shelf after answer = (next ≡ desk) × (after ≡ shelf) × (answer ≡ what)

  -- a task is executed once
  abbrev pub Executes : Task → C → C → S → S → Answer → Type 0
  Executes (Make change) desk next shelf after answer = Asks calls.changes change told_of_call desk next answer × (after ≡ shelf)
  Executes (Ask question) desk next shelf after answer = Asks calls.asks question told_of_call desk next answer × (after ≡ shelf)
  Executes (AwaitVersion version) desk next shelf after answer = Asks calls.awaits version told_of_wait desk next answer × (after ≡ shelf)
  Executes (ShowCards name view) desk next shelf after answer = Asks calls.asks (question.Cards name) (told_of_cards view) desk next answer × (after ≡ shelf)
  Executes (ShowCardsAt name version) desk next shelf after answer = AsksFor calls.asks (question.CardsAt name version) IsToldAt desk next answer × (after ≡ shelf)
  Executes (Show view) desk next shelf after answer = AsksFor calls.asks question.Show (λ reply. IsToldBy view (shown_in reply)) desk next answer × (after ≡ shelf)
  Executes (LoadDeck name) desk next shelf after answer = LoadsDeck calls.changes files name desk next shelf after answer
  Executes (LoadAll name) desk next shelf after answer = LoadsAll calls files name desk next shelf after answer
  Executes (ReloadDeck name) desk next shelf after answer = ReloadsDeck calls files name desk next shelf after answer
  Executes (SaveDeck name over) desk next shelf after answer = SavesDeck calls.asks files name over desk next shelf after answer
  Executes SaveAll desk next shelf after answer = SavesAll calls.asks files desk next shelf after answer
  Executes ShowFiles desk next shelf after answer = ShowsFiles calls.asks files desk next shelf after answer
  Executes ShowFileStatus desk next shelf after answer = ShowsFileStatus calls.asks files desk next shelf after answer
  Executes (Greet name) desk next shelf after answer = Asks calls.greets name told_of_greeting desk next answer × (after ≡ shelf)
  Executes ShowHelp desk next shelf after answer = Asks calls.asks question.Status told_of_help desk next answer × (after ≡ shelf)
  Executes Leave desk next shelf after answer = OnlyTells (uncalled told.Bye) desk next shelf after answer
  Executes (Refuse reason) desk next shelf after answer = OnlyTells (uncalled (told.Refused reason)) desk next shelf after answer
