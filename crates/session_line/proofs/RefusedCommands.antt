-- A command of a session that is refused changes nothing of a desk of which no refused call, no question, no wait and no greeting changes anything.
use Rattle.std.proofs.Common.{ℕ, ◌≡◌, true, false, List, Option, Result, Ok, Err, sym, ap, subst, ◌∙◌}
use Rattle.definitions.specs.{Cards.Card, DeckInput.Deck}
use Rattle.deck_files.specs.{declared.deck_shelf.ShelfLoadFault.ShelfLoadFault, ShelfRelations.ShelfRelations}
use Rattle.desk_core.specs.declared.{calls.Change.Change, calls.Change.TheVariants.{AddDeck, PutDeck}, calls.Question.Question, calls.Question.TheVariants.{Cards, CardsAt, Status}, replies.Reply.Reply, replies.Row.Row}
use Rattle.session_line.specs.{declared.answers.Answer.Answer, declared.answers.Told.Told, declared.greetings.Greeting.Greeting, declared.told_decks.ToldDeck.ToldDeck, declared.tasks.Task.Task, declared.tasks.Task.TheVariants.{Make, Ask, AwaitVersion, ShowCards, ShowCardsAt, Show, LoadDeck, LoadAll, ReloadDeck, SaveDeck, SaveAll, ShowFiles, ShowFileStatus, Greet, ShowHelp, Leave, Refuse}, Answers.{WhereStatus, told_of_call, called}, Asking.Asks, Executing.{AddsLoaded, Executes}, Reloading.{PutsBy, PutsLoaded, version_told}, Rights.allowed, declared.rights.Rights.Rights, Refusing.{is_refusal, tells_refusal, RefusesCommand}, Serving.Sides, DeckCuts.decks_in, LoadingAll.{TellsAdds, added_all, not_added, no_memory, AddsTold, AddsCut, AddsFile, cut, uncut, AddsLoadedDecks}, SavingAll.{SavesRow, SavesRows, is_saved, unsaved, no_row, next_row, TellsSaves, told_all, lacking, SavesAllTold}, DeskRelations.DeskRelations}
use Rattle.session_line.specs.declared.answers.Told.TheVariants as told
use Rattle.desk_core.specs.declared.calls.Question.TheVariants as question
use Rattle.session_commands.specs.declared.refusals.Refusal.{Refusal}

-- in a sense in which two states of a desk are the same, no change leaves another that is reported as refused, and no question, wait or greeting does
pub record IsSteady {C : Type 0} (calls : DeskRelations C) (IsSame : C → C → Type 0) : Type 0 where
  pub same : (desk : C) → IsSame desk desk
  pub joined : (first second third : C) → IsSame first second → IsSame second third → IsSame first third
  pub refused : (desk next : C) (change : Change) (reply : Reply) → calls.changes desk change reply next → tells_refusal reply ≡ true → IsSame desk next
  pub asked : (desk next : C) (question : Question) (reply : Reply) → calls.asks desk question reply next → IsSame desk next
  pub awaited : (desk next : C) (version : ℕ) (reply : Reply) → calls.awaits desk version reply next → IsSame desk next
  pub greeted : (desk next : C) (name : List ℕ) (greeting : Greeting) → calls.greets desk name greeting next → IsSame desk next

-- what holds of a status and of anything else holds of all that is shown
where-same : (what : Told) (Made : ℕ → Option ℕ → List Row → Type 0) (Other P : Type 0) → ((version : ℕ) (published : Option ℕ) (rows : List Row) → Made version published rows → P) → (Other → P) → WhereStatus what Made Other → P
where-same (told.Status version published rows) Made Other P made other holds = made version published rows holds
where-same (told.Done version) Made Other P made other holds = other holds
where-same (told.Unkept version) Made Other P made other holds = other holds
where-same (told.Cards version cards view) Made Other P made other holds = other holds
where-same (told.Changes version kept) Made Other P made other holds = other holds
where-same (told.Published version shown) Made Other P made other holds = other holds
where-same (told.Errors version decks view) Made Other P made other holds = other holds
where-same (told.Lines version lines) Made Other P made other holds = other holds
where-same (told.FileStatus version published decks) Made Other P made other holds = other holds
where-same (told.Standing version published) Made Other P made other holds = other holds
where-same (told.Decks version decks) Made Other P made other holds = other holds
where-same (told.Files version rows) Made Other P made other holds = other holds
where-same (told.Sessions version sessions) Made Other P made other holds = other holds
where-same (told.Help version) Made Other P made other holds = other holds
where-same (told.Refused reason) Made Other P made other holds = other holds
where-same told.Bye Made Other P made other holds = other holds

module _ {C S : Type 0} (calls : DeskRelations C) (files : ShelfRelations S)
    (IsSame : C → C → Type 0) (steady : IsSteady calls IsSame) where
  -- a desk that was not called
  uncalled-same : (desk next : C) → next ≡ desk → IsSame desk next
  uncalled-same desk next is = subst (λ (d : C). IsSame desk d) (sym is) (steady.same desk)

  -- a change, of which a refusal is shown
  made-same : (change : Change) (desk next : C) (answer : Answer) → Asks calls.changes change told_of_call desk next answer → is_refusal answer.told ≡ true → IsSame desk next
  made-same change desk next answer asks refused = steady.refused desk next change asks.reply asks.made (sym (ap (λ (a : Answer). is_refusal a.told) asks.answered) ∙ refused)

  adds-same : (name : List ℕ) (loaded : Result (List Card) ShelfLoadFault) (desk next : C) (answer : Answer) → AddsLoaded calls.changes name loaded desk next answer → is_refusal answer.told ≡ true → IsSame desk next
  adds-same name (Ok cards) desk next answer adds refused = made-same (AddDeck (record { name = name; cards = cards })) desk next answer adds refused
  adds-same name (Err fault) desk next answer adds refused = uncalled-same desk next adds.0

  -- a deck that was put over another, of which a refusal is shown
  put-same : (deck : Deck) (version : Result ℕ Refusal) (desk next : C) (answer : Answer) → PutsBy calls deck version desk next answer → is_refusal answer.told ≡ true → IsSame desk next
  put-same deck (Ok version) desk next answer puts refused = made-same (PutDeck deck version) desk next answer puts refused
  put-same deck (Err refusal) desk next answer puts refused = uncalled-same desk next puts.0

  puts-same : (name : List ℕ) (loaded : Result (List Card) ShelfLoadFault) (desk next : C) (answer : Answer) → PutsLoaded calls name loaded desk next answer → is_refusal answer.told ≡ true → IsSame desk next
  puts-same name (Ok cards) desk next answer puts refused =
      let deck : Deck = record { name = name; cards = cards } in
      steady.joined desk puts.between next (steady.asked desk puts.between Status puts.reply puts.made) (put-same deck (version_told name puts.reply) puts.between next answer puts.put refused)
  puts-same name (Err fault) desk next answer puts refused = uncalled-same desk next puts.0

  row-same : (row : Row) (desk next : C) (shelf after : S) (line : Option ToldDeck) → SavesRow calls.asks files row desk next shelf after line → IsSame desk next
  row-same row desk next shelf after _ (is_saved stays tells) = uncalled-same desk next stays
  row-same row desk next shelf after _ (unsaved between answer tells saves) = steady.asked desk next (Cards row.name) saves.reply saves.made

  rows-same : (first : C) (start : S) (rows : List Row) (saved : List ToldDeck) (last : C) (end : S) → SavesRows calls.asks files first start rows saved last end → IsSame first last
  rows-same first start _ _ _ _ no_row = steady.same first
  rows-same first start _ _ _ _ (next_row rows saved desk next shelf after row line before now) = steady.joined first desk next (rows-same first start rows saved desk shelf before) (row-same row desk next shelf after line now)

  saves-same : (version : ℕ) (rows : List Row) (desk next : C) (shelf after : S) (answer : Answer) → TellsSaves calls.asks files version rows desk next shelf after answer → IsSame desk next
  saves-same version rows desk next shelf after answer (told_all saved each answered) = rows-same desk shelf rows saved next after each
  saves-same version rows desk next shelf after answer (lacking stays same answered) = uncalled-same desk next stays

  all-same : (what : Told) (desk next : C) (shelf after : S) (answer : Answer) → SavesAllTold calls.asks files what desk next shelf after answer → IsSame desk next
  all-same what desk next shelf after answer =
      where-same what (λ version published rows. TellsSaves calls.asks files version rows desk next shelf after answer) ((next ≡ desk) × (after ≡ shelf) × (answer ≡ called what)) (IsSame desk next)
      (λ version published rows saves. saves-same version rows desk next shelf after answer saves) (λ same. uncalled-same desk next same.0)

  -- decks of which a refusal is shown were not added
  adds-told-same : (version : ℕ) (rows : List Row) (decks : List Deck) (desk next : C) (answer : Answer) → TellsAdds calls version rows decks desk next answer → is_refusal answer.told ≡ true → IsSame desk next
  adds-told-same version rows decks desk next answer (added_all lines room each answered) refused = let not : false ≡ true = sym (ap (λ (a : Answer). is_refusal a.told) answered) ∙ refused in cc
  adds-told-same version rows decks desk next answer (not_added refusal why stays answered) refused = uncalled-same desk next stays
  adds-told-same version rows decks desk next answer (no_memory stays answered) refused = uncalled-same desk next stays

  adds-all-same : (what : Told) (decks : List Deck) (desk next : C) (answer : Answer) → AddsTold calls decks what desk next answer → is_refusal answer.told ≡ true → IsSame desk next
  adds-all-same what decks desk next answer adds refused =
      where-same what (λ version published rows. TellsAdds calls version rows decks desk next answer) ((next ≡ desk) × (answer ≡ called what)) (IsSame desk next)
      (λ version published rows adds. adds-told-same version rows decks desk next answer adds refused) (λ same. uncalled-same desk next same.0) adds

  cut-same : (decks : Result (List Deck) Refusal) (desk next : C) (answer : Answer) → AddsCut calls decks desk next answer → is_refusal answer.told ≡ true → IsSame desk next
  cut-same (Ok decks) desk next answer adds refused =
      steady.joined desk adds.between next (steady.asked desk adds.between Status adds.reply adds.made) (adds-all-same (told_of_call adds.reply) decks adds.between next answer adds.kept refused)
  cut-same (Err refusal) desk next answer adds refused = uncalled-same desk next adds.0

  file-same : (cards : List Card) (desk next : C) (answer : Answer) → AddsFile calls cards desk next answer → is_refusal answer.told ≡ true → IsSame desk next
  file-same cards desk next answer (cut adds) refused = cut-same (decks_in cards) desk next answer adds refused
  file-same cards desk next answer (uncut stays answered) refused = uncalled-same desk next stays

  loaded-same : (loaded : Result (List Card) ShelfLoadFault) (desk next : C) (answer : Answer) → AddsLoadedDecks calls loaded desk next answer → is_refusal answer.told ≡ true → IsSame desk next
  loaded-same (Ok cards) desk next answer adds refused = file-same cards desk next answer adds refused
  loaded-same (Err fault) desk next answer adds refused = uncalled-same desk next adds.0

  refused-same : (task : Task) (desk next : C) (shelf after : S) (answer : Answer) →
      Executes calls files task desk next shelf after answer → is_refusal answer.told ≡ true → IsSame desk next
  refused-same (Make change) desk next shelf after answer is refused = made-same change desk next answer is.0 refused
  refused-same (Ask question) desk next shelf after answer is refused = steady.asked desk next question is.0.reply is.0.made
  refused-same (AwaitVersion version) desk next shelf after answer is refused = steady.awaited desk next version is.0.reply is.0.made
  refused-same (ShowCards name view) desk next shelf after answer is refused = steady.asked desk next (Cards name) is.0.reply is.0.made
  refused-same (ShowCardsAt name version) desk next shelf after answer is refused = steady.asked desk next (CardsAt name version) is.0.reply is.0.made
  refused-same (Show view) desk next shelf after answer is refused = steady.asked desk next question.Show is.0.reply is.0.made
  refused-same (LoadDeck name) desk next shelf after answer is refused = adds-same name is.loaded desk next answer is.added refused
  refused-same (LoadAll name) desk next shelf after answer is refused = loaded-same is.loaded desk next answer is.added refused
  refused-same (ReloadDeck name) desk next shelf after answer is refused = puts-same name is.loaded desk next answer is.put refused
  refused-same (SaveDeck name over) desk next shelf after answer is refused = steady.asked desk next (Cards name) is.reply is.made
  refused-same SaveAll desk next shelf after answer is refused =
      steady.joined desk is.between next (steady.asked desk is.between Status is.reply is.made) (all-same (told_of_call is.reply) is.between next shelf after answer is.kept)
  refused-same ShowFiles desk next shelf after answer is refused = steady.asked desk next Status is.reply is.made
  refused-same ShowFileStatus desk next shelf after answer is refused = steady.asked desk next Status is.reply is.made
  refused-same (Greet name) desk next shelf after answer is refused = steady.greeted desk next name is.0.reply is.0.made
  refused-same ShowHelp desk next shelf after answer is refused = steady.asked desk next Status is.0.reply is.0.made
  refused-same Leave desk next shelf after answer is refused = uncalled-same desk next is.0
  refused-same (Refuse why) desk next shelf after answer is refused = uncalled-same desk next is.0

module _ {C S : Type 0} (calls : DeskRelations C) (files : ShelfRelations S)
    (IsSame : C → C → Type 0) (steady : IsSteady calls IsSame) where
  pub command-same : (rights : Rights) (old new : Sides C S) → RefusesCommand rights calls files old new → IsSame old.desk new.desk
  command-same rights old new is = refused-same calls files IsSame steady (allowed rights is.task) old.desk new.desk old.shelf new.shelf is.answer is.executed is.refused
