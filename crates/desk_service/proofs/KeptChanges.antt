-- What a session with a journal is reported as made is kept.
use Rattle.std.proofs.Common.{ℕ, ◌≡◌, List, Bool, true, false, Option, Some, None, IfSome, IsSomeAnd, refl, sym, ap, subst, ◌∙◌}
use Rattle.cards.specs.declared.edits.Edit.{Edit}
use Rattle.desk_core.specs.{Runs.accepts, declared.calls.Change.Change, declared.calls.Call.{Call, TheVariants.Make}, declared.replies.Reply.Reply, declared.replies.Reply.TheVariants.{Changed, Carried}}
use Rattle.session_line.specs.Greetings.{WhereMet}
use Rattle.journal.specs.{declared.drafted.Drafted.Drafted, declared.drafted.Drafted.TheVariants.{Whole, Open}, declared.drafts.Stamp.Stamp, Drafted.drafted_by, Drafts.{carried_deck, change_carried, stamped_text}, JournalFiles.{Step, IsKeptAs}}
use Rattle.kept_desk.specs.Keeping.{TellsKept, MakesChange, refused, called, told_of, version_told}
use Rattle.desk_service.specs.SessionEnds.{SessionEnds, IsMadeAndKept, as_asked, as_carried, KeepsRecord, ends_relations}

module _ {F : Type 0} (has_done : F → List Step → Type 0) where
  -- the record that is kept has the text that who asks has of its own
  pub own-kept : (text : Option (List ℕ)) (draft : List ℕ) (version : ℕ) → IfSome text (λ own. own ≡ draft) → IsSomeAnd text (λ own. IsKeptAs has_done version own) → IsKeptAs has_done version draft
  own-kept None draft version same kept = absurd kept
  own-kept (Some own) draft version same kept = subst (λ (d : List ℕ). IsKeptAs has_done version d) same kept

  -- whether the record was kept decides what is shown
  answered : (P : Type 0) (kept : Bool) (draft : List ℕ) (made version : ℕ) (told : Reply) (between after : SessionEnds) → between.journaled ≡ true → KeepsRecord has_done between made draft kept after → told ≡ told_of made kept →
      version_told told ≡ Some version → (made ≡ version → IsKeptAs has_done made draft → P) → P
  answered P true draft made version told between after journaled keeps is tells then =
      let all : Some version ≡ Some made = sym tells ∙ ap version_told is in
      let same : made ≡ version = cc in
      then same (keeps.1 journaled)
  answered P false draft made version told between after journaled keeps is tells then = let none : Some version ≡ None = sym tells ∙ ap version_told is in cc

  -- a reply that shows no change
  untold : (P : Type 0) (what reply : Reply) (version : ℕ) → what ≡ reply → version_told reply ≡ None → version_told what ≡ Some version → P
  untold P what reply version is none tells = let not : Some version ≡ None = sym tells ∙ ap version_told is ∙ none in cc

  kept : (P : Type 0) (known : Drafted) (reply what : Reply) (version : ℕ) (between after : SessionEnds) → between.journaled ≡ true → TellsKept (ends_relations has_done) known reply between what after → version_told what ≡ Some version →
      ((draft : List ℕ) → known ≡ Whole draft → reply ≡ Changed version → IsKeptAs has_done version draft → P) →
      ((stamp : Stamp) (name : List ℕ) (seen : ℕ) (edits : List Edit) → known ≡ Open stamp name → reply ≡ Carried version seen edits → IsKeptAs has_done version (stamped_text stamp (change_carried name seen edits)) → P) → P
  kept P (Whole draft) (Changed made) what version between after journaled tells is asked carried =
      answered P tells.0 draft made version what between after journaled tells.1.0 tells.1.1 is (λ same keeps. asked draft refl (ap Changed same) (subst (λ (n : ℕ). IsKeptAs has_done n draft) same keeps))
  kept P (Open stamp name) (Carried made seen edits) what version between after journaled tells is asked carried =
      let text = stamped_text stamp (change_carried name seen edits) in
      answered P tells.0 text made version what between after journaled tells.1.0 tells.1.1 is
      (λ same keeps. carried stamp name seen edits refl (ap (λ (n : ℕ). Carried n seen edits) same) (subst (λ (n : ℕ). IsKeptAs has_done n text) same keeps))
  kept P (Whole draft) _ what version between after journaled tells is asked carried = untold P what _ version tells.0 refl is
  kept P (Open stamp name) _ what version between after journaled tells is asked carried = untold P what _ version tells.0 refl is

  -- a bell leaves what is known of the ends
  rung-same : (holds : Bool) (begun rung : SessionEnds) → WhereMet (λ (old new : SessionEnds). new ≡ old) holds begun rung → rung ≡ begun
  rung-same true begun rung is = is
  rung-same false begun rung is = is

  -- what was known of the record shows how the change is asked for
  whole-of : (deck : Option (List ℕ)) (stamp : Stamp) (change : Change) (draft : List ℕ) → Whole draft ≡ drafted_by deck stamp change → (deck ≡ None) × (draft ≡ stamped_text stamp change)
  whole-of None stamp change draft e = let same : draft ≡ stamped_text stamp change = cc in (refl, same)
  whole-of (Some name) stamp change draft e = cc

  open-of : (deck : Option (List ℕ)) (stamp own : Stamp) (change : Change) (name : List ℕ) → Open own name ≡ drafted_by deck stamp change → (deck ≡ Some name) × (own ≡ stamp)
  open-of None stamp own change name e = cc
  open-of (Some other) stamp own change name e = let same : other ≡ name = cc in let stamps : own ≡ stamp = cc in (ap (λ (n : List ℕ). Some n) same, stamps)

  pub changes-kept : {C : Type 0} (makes : C → Call → Reply → C → Type 0) (old new : C × SessionEnds) (change : Change) (told : Reply) (version : ℕ) → old.1.journaled ≡ true → version_told told ≡ Some version →
      MakesChange makes (ends_relations has_done) change old.0 old.1 told new.0 new.1 → IsMadeAndKept has_done makes old.1.name change version old.0 new.0
  changes-kept makes old new change told version journaled is (refused refusal begins same stays) = untold (IsMadeAndKept has_done makes old.1.name change version old.0 new.0) told _ version same refl is
  changes-kept makes old new change told version journaled is (called known begun rung reply begins form made rings tells) =
      let name : begun.name ≡ old.1.name = ap (λ (k : SessionEnds). k.name) begins.0 in
      let asked = begins.1 journaled in
      let stamp : Stamp = record { moment = asked.1.0; by = old.1.name } in
      let named : makes old.0 (Make old.1.name change) reply new.0 = subst (λ (by : List ℕ). makes old.0 (Make by change) reply new.0) name made in
      kept (IsMadeAndKept has_done makes old.1.name change version old.0 new.0) known reply told version rung new.1 (ap (λ (k : SessionEnds). k.journaled) (rung-same (accepts reply) begun rung rings ∙ begins.0) ∙ journaled) tells is
      (λ draft whole changed keeps.
      let of = whole-of (carried_deck change) stamp change draft (sym whole ∙ asked.1.1) in
      as_asked of.0 (subst (λ (r : Reply). makes old.0 (Make old.1.name change) r new.0) changed named) (asked.1.0, subst (λ (text : List ℕ). IsKeptAs has_done version text) of.1 keeps))
      (λ own deck seen edits open_ carried keeps.
      let of = open-of (carried_deck change) stamp own change deck (sym open_ ∙ asked.1.1) in
      as_carried deck seen edits of.0 (subst (λ (r : Reply). makes old.0 (Make old.1.name change) r new.0) carried named)
      (asked.1.0, subst (λ (s : Stamp). IsKeptAs has_done version (stamped_text s (change_carried deck seen edits))) of.1 keeps))
