-- What each step has of an outcome for what everybody sees.
use Rattle.std.proofs.{Common.{◌≡◌, ℕ, ◌+◌, List, false, true, refl, sym, ◌∙◌}, lemmas.Bool.{and_parts, or_parts}}
use Rattle.desk_core.{specs.Desks.{Desk, decks_of}, specs.Joins.Calls.{Change, Question, Call, Make, Ask, Reply}, specs.Claiming.given, specs.Delivering.{lost, given_back, stored}, specs.Steps.Steps, specs.Runs.{accepts, IsUnchanged}, proofs.DecksSeen.{decks_of-kept, decks_of-added, decks_of-put_new, decks_of-put_over, decks_of-dropped, decks_of-edited}, proofs.StepKinds.{Kind, leaves_desk, ends_link, publishes_decks, hands_deck, gives_deck_up, is_foreign, gives_back, stores, adds, puts_new, puts_over, drops, edits_deck, does, shows_decks, is_work, step-kind}, proofs.Outcomes.{Outcome, Stays, by_staying, by_changing, by_publishing}}
use Rattle.desk_core.specs.Changes as changes

stays : (desk next : Desk) (call : Call) (reply : Reply) → accepts reply ≡ false → next.version ≡ desk.version → decks_of next ≡ decks_of desk → next.publication ≡ desk.publication → Outcome desk call reply next
stays desk next call reply silent version decks publication = by_staying (record { silent = silent; unchanged = record { version = version; decks = decks; publication = publication } })

-- the outcome of each kind of step
outcome : (desk : Desk) (call : Call) (reply : Reply) (next : Desk) → Kind desk call reply next → Outcome desk call reply next
outcome desk call reply next (leaves_desk c r silent) = stays desk _ c r (or_parts (accepts r) (does c r) silent).0 refl refl refl
outcome desk call reply next (ends_link c r silent) = stays desk _ c r (or_parts (accepts r) (does c r) silent).0 refl refl refl
outcome desk call reply next (publishes_decks c r publication silent stored version decks) = by_publishing (record {
  stored = stored;
  silent = (or_parts (accepts r) (does c r) silent).0;
  version = refl;
  decks = refl;
  publication = publication;
  shown = refl;
  version_of = version;
  decks_are = decks;
})
outcome desk call reply next (hands_deck deck free) = stays desk _ _ _ refl refl (decks_of-kept deck.name (given (desk.leases + 1)) (λ d. refl) desk.decks) refl
outcome desk call reply next (gives_deck_up number deck out) = stays desk _ _ _ refl refl (decks_of-kept deck.name lost (λ d. refl) desk.decks) refl
outcome desk call reply next (is_foreign done deck out) = stays desk _ _ _ refl refl (decks_of-kept deck.name lost (λ d. refl) desk.decks) refl
outcome desk call reply next (gives_back done deck out there) = stays desk _ _ _ refl refl (decks_of-kept deck.name (given_back done.kept) (λ d. refl) desk.decks) refl
outcome desk call reply next (stores done deck out there) = stays desk _ _ _ refl refl (decks_of-kept deck.name (stored done.kept) (λ d. refl) desk.decks) refl
outcome desk call reply next (adds who deck none few) =
    by_changing (record { change = changes.Added deck; asked = refl; told = refl; version = refl; decks = decks_of-added (desk.version + 1) deck desk.decks; publication = refl })
outcome desk call reply next (puts_new who deck seen none few) =
    by_changing (record { change = changes.Put deck; asked = refl; told = refl; version = refl; decks = decks_of-put_new (desk.version + 1) deck desk.decks none; publication = refl })
outcome desk call reply next (puts_over who deck seen before found few) =
    by_changing (record { change = changes.Put deck; asked = refl; told = refl; version = refl; decks = decks_of-put_over (desk.version + 1) deck desk.decks before found; publication = refl })
outcome desk call reply next (drops who name seen) =
    by_changing (record { change = changes.Dropped name; asked = refl; told = refl; version = refl; decks = decks_of-dropped name desk.decks; publication = refl })
outcome desk call reply next (edits_deck c r name who edits deck found applied is) =
    by_changing (record { change = changes.Edited name edits; asked = is.asked; told = is.told; version = refl; decks = decks_of-edited name (desk.version + 1) who edits desk.decks; publication = refl })
outcome desk call reply next _ = stays desk _ _ _ refl refl refl refl

-- the outcome of each step
pub step_comes : (desk : Desk) (call : Call) (reply : Reply) (next : Desk) → Steps desk call reply next → Outcome desk call reply next
step_comes desk call reply next step = outcome desk call reply next (step-kind desk call reply next step)

-- a question leaves what everybody sees
asked : (desk next : Desk) (question : Question) (reply : Reply) → Outcome desk (Ask question) reply next → Stays desk reply next
asked desk next question reply (by_staying by) = by
asked desk next question reply (by_changing by) = let none = by.asked in cc
asked desk next question reply (by_publishing by) = let none = (and_parts (shows_decks reply) (is_work (Ask question)) by.stored).1 in cc

pub asked_leaves : (desk next : Desk) (question : Question) (reply : Reply) → Steps desk (Ask question) reply next → Stays desk reply next
asked_leaves desk next question reply step = asked desk next question reply (step_comes desk (Ask question) reply next step)

-- and so does a change that is not accepted
unaccepted : (desk next : Desk) (by : List ℕ) (change : Change) (reply : Reply) → accepts reply ≡ false → Outcome desk (Make by change) reply next → IsUnchanged desk next
unaccepted desk next by change reply silent (by_staying still) = still.unchanged
unaccepted desk next by change reply silent (by_changing made) = let no : false ≡ true = sym silent ∙ made.told in cc
unaccepted desk next by change reply silent (by_publishing made) = let none = (and_parts (shows_decks reply) (is_work (Make by change)) made.stored).1 in cc

pub refused_leaves : (desk next : Desk) (by : List ℕ) (change : Change) (reply : Reply) → Steps desk (Make by change) reply next → accepts reply ≡ false → IsUnchanged desk next
refused_leaves desk next by change reply step silent = unaccepted desk next by change reply silent (step_comes desk (Make by change) reply next step)
