-- RELOAD (ours): the shelf's file is loaded; then the desk is asked for its status, and the cards are put in the place of those of the deck of that name, by the version that it has there.
use Rattle.std.specs.{Prelude.{ℕ, ◌≡◌, List, Option, Some, None, Result, Ok, Err}, List.find}
use Rattle.definitions.specs.{Cards.Card, Characters.same_text, DeckInput.Deck}
use Rattle.deck_files.specs.{declared.deck_shelf.ShelfLoadFault.ShelfLoadFault, ShelfRelations.ShelfRelations}
use Rattle.desk_core.specs.declared.{calls.Change.TheVariants.PutDeck, calls.Question.TheVariants.Status, replies.Reply.Reply, replies.Row.Row}
use Rattle.session_commands.specs.declared.refusals.Refusal.{Refusal, TheVariants.NoDeck}
use Rattle.session_line.specs.declared.answers.Told.TheVariants as told
use Rattle.session_line.specs.{DeskRelations.DeskRelations, declared.answers.Answer.Answer, Answers.{called, told_of_call, uncalled}, Asking.{Asks, NotesTold, ShelfLoads}, Reasons.load_reason, Replied.status_in}

-- the version of a deck, if there is one
abbrev pub version_of_row : Option Row → Result ℕ Refusal
version_of_row (Some row) = Ok row.version
version_of_row None = Err NoDeck

-- the version of the deck of a name among these
abbrev pub version_in : List ℕ → List Row → Result ℕ Refusal
version_in name rows = version_of_row (find (λ (row : Row). same_text row.name name) rows)

-- the version of the deck of a name that is shown, or why none is
abbrev pub version_told : List ℕ → Reply → Result ℕ Refusal
version_told name reply = elim (status_in reply) [
  | Ok status ↦ version_in name status.rows
  | Err reason ↦ Err reason
]

module _ {C : Type 0} (calls : DeskRelations C) where
  -- a deck is put by a version; without one nothing more is called, and the reason is shown
  abbrev pub PutsBy : Deck → Result ℕ Refusal → C → C → Answer → Type 0
  PutsBy deck (Ok version) desk next answer = Asks calls.changes (PutDeck deck version) told_of_call desk next answer
  PutsBy deck (Err refusal) desk next answer = (next ≡ desk) × (answer ≡ called (told.Refused refusal))

  -- one call of the desk for the status, and then one that puts the deck
  pub record PutsOver (deck : Deck) (desk next : C) (answer : Answer) : Type 0 where
    pub reply : Reply
    pub between : C
    pub made : calls.asks desk Status reply between
    pub put : PutsBy deck (version_told deck.name reply) between next answer

  -- the cards that the shelf gave are put; or its fault is shown, and the desk is not called
  abbrev pub PutsLoaded : List ℕ → Result (List Card) ShelfLoadFault → C → C → Answer → Type 0
  PutsLoaded name (Ok cards) desk next answer = PutsOver (record { name = name; cards = cards }) desk next answer
  PutsLoaded name (Err fault) desk next answer = (next ≡ desk) × (answer ≡ uncalled (told.Refused (load_reason fault)))

module _ {C S : Type 0} (calls : DeskRelations C) (files : ShelfRelations S) where
  -- RELOAD: one load of the shelf, and then the calls of the desk; the shelf notes the version that the deck has then
  pub record ReloadsDeck (name : List ℕ) (desk next : C) (shelf after : S) (answer : Answer) : Type 0 where
    pub loaded : Result (List Card) ShelfLoadFault
    pub between : S
    pub shelved : ShelfLoads files name shelf loaded between
    pub put : PutsLoaded calls name loaded desk next answer
    pub noted : NotesTold files name answer.told between after
