-- The decks of a status one by one: whether the file of each has its cards, and what becomes of it.
use Rattle.std.proofs.{Common.{ℕ, ◌≡◌, ◌+◌, ◌<◌, ◌≤◌, Bool, List, [], ◌∷◌, ◌++◌, Option, Some, None, option_to_list, length, length-append, arith, take, get_or, sym, ap, subst, ◌∙◌}, lemmas.List.take_more}
use Rattle.desk_core.specs.declared.{replies.Row.Row, calls.Question.Question, replies.Reply.Reply}
use Rattle.session_line.specs.{declared.marked_rows.MarkedRow.MarkedRow, FileStatus.{MarksRows, marked, no_row, next_row}, declared.told_decks.ToldDeck.ToldDeck}
use Rattle.deck_files.specs.ShelfRelations.{ShelfRelations}
use Rattle.session_line.specs.SavingAll.{SavesRow, SavesRows, no_row as nothing_saved, next_row as row_saved}

-- the first decks, with one more
pub rows-more : (rows : List Row) (index : ℕ) (row : Row) → index < length rows → row ≡ get_or rows index row → take (index + 1) rows ≡ take index rows ++ row ∷ []
rows-more rows index row within is = take_more rows index row within ∙ ap (λ (r : Row). take index rows ++ r ∷ []) (sym is)

module _ {S : Type 0} (files : ShelfRelations S) where
  -- no deck is marked
  pub marks-none : (first : S) (marks : List MarkedRow) → marks ≡ [] → MarksRows files first [] marks first
  marks-none first marks none = subst (λ (m : List MarkedRow). MarksRows files first [] m first) (sym none) no_row

  -- one deck more is marked
  pub marks-more : (first middle last : S) (rows : List Row) (marks after : List MarkedRow) (index : ℕ) (row : Row) (saved : Bool) → index < length rows → row ≡ get_or rows index row →
      MarksRows files first (take index rows) marks middle → files.tells_saved middle row.name row.version saved last → after ≡ marks ++ marked row saved ∷ [] →
      MarksRows files first (take (index + 1) rows) after last
  marks-more first middle last rows marks after index row saved within is sofar told put =
      subst (λ (l : List Row). MarksRows files first l after last) (sym (rows-more rows index row within is))
      (subst (λ (m : List MarkedRow). MarksRows files first (take index rows ++ row ∷ []) m last) (sym put)
      (next_row (take index rows) marks middle last row saved sofar told))

-- at most one line more
pub line-few : {X : Type 0} (lines : List X) (line : Option X) → length (lines ++ option_to_list line) ≤ length lines + 1
line-few lines None = let all = length-append lines [] in omega (arith, all)
line-few lines (Some x) = let all = length-append lines (x ∷ []) in omega (arith, all)

module _ {C S : Type 0} (asks : C → Question → Reply → C → Type 0) (files : ShelfRelations S) where
  -- no deck was saved
  pub saves-none : (first : C) (start : S) (saved : List ToldDeck) → saved ≡ [] → SavesRows asks files first start [] saved first start
  saves-none first start saved none = subst (λ (d : List ToldDeck). SavesRows asks files first start [] d first start) (sym none) nothing_saved

  -- one deck more, where it was to be saved
  pub saves-more : (first desk next : C) (start shelf last : S) (rows : List Row) (saved after : List ToldDeck) (index : ℕ) (row : Row) (line : Option ToldDeck) → index < length rows → row ≡ get_or rows index row →
      SavesRows asks files first start (take index rows) saved desk shelf → SavesRow asks files row desk next shelf last line → after ≡ saved ++ option_to_list line →
      SavesRows asks files first start (take (index + 1) rows) after next last
  saves-more first desk next start shelf last rows saved after index row line within is sofar one put =
      subst (λ (l : List Row). SavesRows asks files first start l after next last) (sym (rows-more rows index row within is))
      (subst (λ (d : List ToldDeck). SavesRows asks files first start (take index rows ++ row ∷ []) d next last) (sym put)
      (row_saved (take index rows) saved desk next shelf last row line sofar one))
