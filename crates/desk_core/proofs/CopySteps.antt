-- Edits made on a copy of cards, one after the other, with what takes each of them back.
use Rattle.std.proofs.{Common.{◌≡◌, ℕ, ◌+◌, ◌<◌, List, [], ◌∷◌, ◌++◌, length, drop, get_or, None, sym, ap, ap₂, subst, ◌∙◌, append_assoc}, lemmas.List.at_drop_more}
use Rattle.cards.proofs.FaultLaws.{applies-in, made-in}
use Rattle.desk_core.specs.{Joins.Language.Card, Joins.Edits.{Edit, edited, edited_by, first_fault}, declared.past.Back.Back, Past.undo_of, Joins.Stored.backs_made}

-- what takes back those that are left
backs-more : (by : List ℕ) (edits : List Edit) (place : ℕ) (edit : Edit) (cards : List Card) → place < length edits → edit ≡ get_or edits place edit →
    backs_made by (drop place edits) cards ≡ record { edit = undo_of edit cards; by = by } ∷ backs_made by (drop (place + 1) edits) (edited cards edit)
backs-more by edits place edit cards within is =
    at_drop_more (λ (es : List Edit). backs_made by es cards) edits place edit within ∙ ap (λ (one : Edit). backs_made by (one ∷ drop (place + 1) edits) cards) (sym is)

-- one edit more: it applied, the others apply, and lead to the same cards; what takes it back is kept behind the others
pub record IsOneMore (by : List ℕ) (edits : List Edit) (place : ℕ) (seen left : List Card) (more : List Back) : Type 0 where
  pub applies : first_fault (drop (place + 1) edits) left ≡ None
  pub made : edited_by (drop (place + 1) edits) left ≡ edited_by edits seen
  pub kept : more ++ backs_made by (drop (place + 1) edits) left ≡ backs_made by edits seen

pub one-more : (by : List ℕ) (edits : List Edit) (place : ℕ) (edit : Edit) (seen cards left : List Card) (backs more : List Back) → place < length edits → edit ≡ get_or edits place edit →
    left ≡ edited cards edit → more ≡ backs ++ record { edit = undo_of edit cards; by = by } ∷ [] → first_fault (drop place edits) cards ≡ None →
    edited_by (drop place edits) cards ≡ edited_by edits seen → backs ++ backs_made by (drop place edits) cards ≡ backs_made by edits seen →
    IsOneMore by edits place seen left more
one-more by edits place edit seen cards left backs more within is now one applies made kept =
    let rest = backs_made by (drop (place + 1) edits) (edited cards edit) in
    record {
      applies = subst (λ (cs : List Card). first_fault (drop (place + 1) edits) cs ≡ None) (sym now) (applies-in edits place edit cards within is applies).1;
      made = ap (λ (cs : List Card). edited_by (drop (place + 1) edits) cs) now ∙ (sym (made-in edits place edit cards within is) ∙ made);
      kept = ap₂ (λ (bs : List Back) (cs : List Card). bs ++ backs_made by (drop (place + 1) edits) cs) one now
          ∙ (append_assoc backs (record { edit = undo_of edit cards; by = by } ∷ []) rest ∙ (ap (λ (bs : List Back). backs ++ bs) (sym (backs-more by edits place edit cards within is)) ∙ kept));
    }
