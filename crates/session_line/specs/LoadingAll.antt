-- LOADALL (ours): the shelf's file is cut into decks; then the desk is asked for its status, and where it has none of their names and room for all, each is added as ADD does, one after the other.
use Rattle.std.specs.{Prelude.{ℕ, ◌≡◌, ◌+◌, Bool, List, [], ◌∷◌, ◌++◌, Option, Some, None, Result, Ok, Err, length, nat_lt, if◌then◌else◌}, List.list_any}
use Rattle.definitions.specs.{Cards.Card, DeckInput.{Deck, is_taken}}
use Rattle.deck_files.specs.{declared.deck_shelf.ShelfLoadFault.ShelfLoadFault, ShelfRelations.ShelfRelations}
use Rattle.desk_core.specs.declared.{calls.Change.TheVariants.AddDeck, calls.Question.TheVariants.Status, replies.Reply.Reply, replies.Row.Row}
use Rattle.session_commands.specs.declared.refusals.Refusal.{Refusal, TheVariants.{NameTaken, TooManyDecks, OutOfMemory}}
use Rattle.session_line.specs.{DeskRelations.DeskRelations, declared.told_decks.ToldDeck.ToldDeck, declared.answers.Told.Told, declared.answers.Answer.Answer, Answers.{WhereStatus, called, most_decks, told_of_call, uncalled}, Asking.ShelfLoads, DeckCuts.decks_in, Reasons.load_reason, ToldDecks.told_deck}
use Rattle.session_line.specs.declared.answers.Told.TheVariants as told

-- whether a desk with these decks has the name of one of others
abbrev pub is_any_there : List Row → List Deck → Bool
is_any_there rows decks = list_any (λ (row : Row). is_taken row.name decks) rows

-- why a desk with these decks is asked to add none of others
abbrev pub refusal_to_add : List Row → List Deck → Option Refusal
refusal_to_add rows decks = if is_any_there rows decks then Some NameTaken else if nat_lt most_decks (length rows + length decks) then Some TooManyDecks else None

module _ {C : Type 0} (calls : DeskRelations C) where
  -- a deck is added, and what is shown of the reply is shown of it
  pub record AddsDeck (deck : Deck) (desk next : C) (line : ToldDeck) : Type 0 where
    pub reply : Reply
    pub made : calls.changes desk (AddDeck deck) reply next
    pub told : line ≡ told_deck deck.name (told_of_call reply)

  -- decks are added one after the other, also behind one that is refused
  pub data AddsDecks (first : C) : List Deck → List ToldDeck → C → Type 0 where
    no_deck : AddsDecks first [] [] first
    next_deck : (decks : List Deck) (lines : List ToldDeck) (desk next : C) (deck : Deck) (line : ToldDeck) → AddsDecks first decks lines desk → AddsDeck deck desk next line → AddsDecks first (decks ++ deck ∷ []) (lines ++ line ∷ []) next

  -- what became of the decks is shown; or a refusal, and none was added
  pub data TellsAdds (version : ℕ) (rows : List Row) (decks : List Deck) (desk next : C) (answer : Answer) : Type 0 where
    added_all : (lines : List ToldDeck) → refusal_to_add rows decks ≡ None → AddsDecks desk decks lines next → answer ≡ called (told.Decks version lines) → TellsAdds version rows decks desk next answer
    not_added : (refusal : Refusal) → refusal_to_add rows decks ≡ Some refusal → next ≡ desk → answer ≡ called (told.Refused refusal) → TellsAdds version rows decks desk next answer
    no_memory : next ≡ desk → answer ≡ called (told.Refused OutOfMemory) → TellsAdds version rows decks desk next answer

  -- the decks are added behind the status that would be shown; what else would be shown is, and nothing more is called
  abbrev pub AddsTold : List Deck → Told → C → C → Answer → Type 0
  AddsTold decks what desk next answer = WhereStatus what (λ version published rows. TellsAdds version rows decks desk next answer) ((next ≡ desk) × (answer ≡ called what))

  -- one call of the desk for the status, and then one for each deck
  pub record AddsAll (decks : List Deck) (desk next : C) (answer : Answer) : Type 0 where
    pub reply : Reply
    pub between : C
    pub made : calls.asks desk Status reply between
    pub kept : AddsTold decks (told_of_call reply) between next answer

  -- the decks are added, or why there are none is shown
  abbrev pub AddsCut : Result (List Deck) Refusal → C → C → Answer → Type 0
  AddsCut (Ok decks) desk next answer = AddsAll decks desk next answer
  AddsCut (Err refusal) desk next answer = (next ≡ desk) × (answer ≡ uncalled (told.Refused refusal))

  -- the decks of a file's cards are added; or there is no memory for them, and nothing is called
  pub data AddsFile (cards : List Card) (desk next : C) (answer : Answer) : Type 0 where
    cut : AddsCut (decks_in cards) desk next answer → AddsFile cards desk next answer
    uncut : next ≡ desk → answer ≡ uncalled (told.Refused OutOfMemory) → AddsFile cards desk next answer

  -- those of what the shelf gave are added; or its fault is shown, and the desk is not called
  abbrev pub AddsLoadedDecks : Result (List Card) ShelfLoadFault → C → C → Answer → Type 0
  AddsLoadedDecks (Ok cards) desk next answer = AddsFile cards desk next answer
  AddsLoadedDecks (Err fault) desk next answer = (next ≡ desk) × (answer ≡ uncalled (told.Refused (load_reason fault)))

module _ {C S : Type 0} (calls : DeskRelations C) (files : ShelfRelations S) where
  -- LOADALL: one load of the shelf, and then the calls of the desk; the shelf knows nothing of it afterwards
  pub record LoadsAll (name : List ℕ) (desk next : C) (shelf after : S) (answer : Answer) : Type 0 where
    pub loaded : Result (List Card) ShelfLoadFault
    pub shelved : ShelfLoads files name shelf loaded after
    pub added : AddsLoadedDecks calls loaded desk next answer
