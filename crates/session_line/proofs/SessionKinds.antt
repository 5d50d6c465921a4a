-- The replies of a desk to changes and questions, one by one.
use Rattle.std.proofs.Common.{ℕ, List, ◌≡◌, Bool, true, false, Result, Ok, Err, Option, None, Some, inl, inr, refl, ap, ◌∙◌}
use Rattle.session_commands.specs.declared.words.Seen.TheVariants.{Exactly, Since}
use Rattle.desk_core.specs.{Desks.{Desk, DeskDeck, Publication, deck_named}, Answers.{Answer, answers, unless}, Changing.{accepted, against_add, against_put, against_drop}, Reading.{cards_reply, show_reply}, declared.past.KeptEdit.KeptEdit, Past.backs_of, Carrying.{carried_since, accept_carried, edit_since_of, is_alone, edits_of}, Undoing.{backs_at, against_change, undo_where}, Earlier.{against_since, edits_behind, changes_of, cards_at_of}, Joins.Edits.Edit, Joins.Language.Card, Steps.{Steps, answer_to_change, answer_to_question}, declared.calls.Change.Change, declared.calls.Change.TheVariants.{AddDeck, PutDeck, DropDeck, EditDeck, Undo}, declared.calls.Question.Question, declared.calls.Question.TheVariants.{Changes, CardsAt, Cards, Show, Status}, declared.calls.Call.TheVariants.{Make, Ask}, declared.replies.Reply.Reply, declared.replies.Reply.TheVariants.{ChangesAre, CardsBefore, Refused}, declared.replies.Refusal.Refusal, declared.replies.Refusal.TheVariants.OutOfMemory}
use Rattle.cards.specs.declared.carrying.Touched.{Touched}
use Rattle.session_line.specs.Joins.Kinds.{is_change, is_carried, is_changes, is_cards, is_cards_before, is_publication, fits_change, fits_question}

-- a change is accepted or refused
unless-change : (cause : Option Refusal) (desk changed : Desk) → is_change (unless cause desk (accepted changed)).reply ≡ true
unless-change None desk changed = refl
unless-change (Some refusal) desk changed = refl

cards_reply-fits : (deck : Option DeskDeck) → is_cards (cards_reply deck) ≡ true
cards_reply-fits None = refl
cards_reply-fits (Some deck) = refl

-- what is kept of a deck's changes is shown or refused
unless-changes : (cause : Option Refusal) (desk : Desk) (version : ℕ) (kept : List KeptEdit) → is_changes (unless cause desk (answers (ChangesAre version kept) desk)).reply ≡ true
unless-changes None desk version kept = refl
unless-changes (Some refusal) desk version kept = refl

changes_of-fits : (since : ℕ) (desk : Desk) (deck : Option DeskDeck) → is_changes (changes_of since desk deck).reply ≡ true
changes_of-fits since desk None = refl
changes_of-fits since desk (Some deck) = unless-changes (against_since since deck) desk deck.version (edits_behind since deck)

unless-cards : (cause : Option Refusal) (desk : Desk) (version : ℕ) (cards : List Card) (backs : List Edit) → is_cards_before (unless cause desk (answers (CardsBefore version cards backs) desk)).reply ≡ true
unless-cards None desk version cards backs = refl
unless-cards (Some refusal) desk version cards backs = refl

cards_at_of-fits : (version : ℕ) (desk : Desk) (deck : Option DeskDeck) → is_cards_before (cards_at_of version desk deck).reply ≡ true
cards_at_of-fits version desk None = refl
cards_at_of-fits version desk (Some deck) = unless-cards (against_since version deck) desk version deck.cards (backs_of (edits_behind version deck))

-- a change that is carried is shown with its edits or refused
unless-carried : (cause : Option Refusal) (desk : Desk) (made : Answer) → is_carried made.reply ≡ true → is_carried (unless cause desk made).reply ≡ true
unless-carried None desk made is = is
unless-carried (Some refusal) desk made is = refl

accept-fits : (name by : List ℕ) (desk : Desk) (deck : DeskDeck) (edits : Result (List Edit) Touched) → is_carried (accept_carried name by desk deck edits).reply ≡ true
accept-fits name by desk deck (Ok edits) = refl
accept-fits name by desk deck (Err touched) = refl

since-fits : (single : Bool) (name : List ℕ) (seen : ℕ) (edits : List Edit) (by : List ℕ) (desk : Desk) (deck : Option DeskDeck) → is_carried (edit_since_of single name seen edits by desk deck).reply ≡ true
since-fits single name seen edits by desk None = refl
since-fits single name seen edits by desk (Some deck) = unless-carried _ desk _ (accept-fits name by desk deck (carried_since seen edits deck))

undo-fits : (name : List ℕ) (version : ℕ) (by : List ℕ) (desk : Desk) (deck : Option DeskDeck) → is_carried (undo_where name version by desk deck).reply ≡ true
undo-fits name version by desk None = refl
undo-fits name version by desk (Some deck) = unless-carried (against_change version deck) desk _ (since-fits false name version (backs_at version deck) by desk (Some deck))

show_reply-fits : (publication : Option Publication) → is_publication (show_reply publication) ≡ true
show_reply-fits None = refl
show_reply-fits (Some publication) = refl

change-fits : (by : List ℕ) (change : Change) (desk : Desk) → fits_change change (answer_to_change by change desk).reply ≡ true
change-fits by (AddDeck deck) desk = unless-change (against_add deck desk) desk _
change-fits by (PutDeck deck seen) desk = unless-change (against_put seen deck desk (deck_named deck.name desk)) desk _
change-fits by (DropDeck name seen) desk = unless-change (against_drop seen desk (deck_named name desk)) desk _
change-fits by (EditDeck name (Exactly seen) edits) desk = unless-change _ desk _
change-fits by (EditDeck name (Since seen) edits) desk = since-fits (is_alone edits) name seen (edits_of edits) by desk (deck_named name desk)
change-fits by (Undo name version) desk = undo-fits name version by desk (deck_named name desk)

question-fits : (question : Question) (desk : Desk) → fits_question question (answer_to_question question desk).reply ≡ true
question-fits (Changes name since) desk = changes_of-fits since desk (deck_named name desk)
question-fits (CardsAt name version) desk = cards_at_of-fits version desk (deck_named name desk)
question-fits (Cards name) desk = cards_reply-fits (deck_named name desk)
question-fits Show desk = show_reply-fits desk.publication
question-fits Status desk = refl

-- a refusal fits each
change-refused : (change : Change) (reason : Refusal) → fits_change change (Refused reason) ≡ true
change-refused (AddDeck deck) reason = refl
change-refused (PutDeck deck seen) reason = refl
change-refused (DropDeck name seen) reason = refl
change-refused (EditDeck name (Exactly seen) edits) reason = refl
change-refused (EditDeck name (Since seen) edits) reason = refl
change-refused (Undo name version) reason = refl

question-refused : (question : Question) (reason : Refusal) → fits_question question (Refused reason) ≡ true
question-refused (Changes name since) reason = refl
question-refused (CardsAt name version) reason = refl
question-refused (Cards name) reason = refl
question-refused Show reason = refl
question-refused Status reason = refl

-- each step
pub change_fits : (desk next : Desk) (by : List ℕ) (change : Change) (reply : Reply) → Steps desk (Make by change) reply next → fits_change change reply ≡ true
change_fits desk next by change reply (inl s) = ap (fits_change change) s.0 ∙ change-fits by change desk
change_fits desk next by change reply (inr s) = ap (fits_change change) s.1 ∙ change-refused change OutOfMemory

pub question_fits : (desk next : Desk) (question : Question) (reply : Reply) → Steps desk (Ask question) reply next → fits_question question reply ≡ true
question_fits desk next question reply (inl s) = ap (fits_question question) s.0 ∙ question-fits question desk
question_fits desk next question reply (inr s) = ap (fits_question question) s.1 ∙ question-refused question OutOfMemory
