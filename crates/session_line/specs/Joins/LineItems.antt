-- What is known of the lines behind a first one while they are read: the edits of a batch, or the cards of a put (ours).
use Rattle.std.specs.Prelude.{ℕ, ◌≡◌, Bool, true, false, List, [], ◌∷◌, ◌++◌, Option, Result, Ok, Err, IsOk, length}
use Rattle.session_commands.specs.declared.refusals.Refusal.{Refusal}
use Rattle.session_line.specs.{declared.line_items.ItemsRead.ItemsRead, declared.line_items.ItemsRead.TheVariants.{Whole, Lacking, Faulty}, Tasks.items_from, Taking.TakesLines}

-- the items, or that there was no memory for them, or the first refusal
abbrev pub IsRead : {A : Type 0} → Result (List A) Refusal → ItemsRead A → Type 0
IsRead items (Whole list) = items ≡ Ok list.items
IsRead items Lacking = IsOk items
IsRead items (Faulty reason) = items ≡ Err reason

-- whether there was no memory for the items
abbrev pub is_lacking : {A : Type 0} → ItemsRead A → Bool
is_lacking (Whole list) = false
is_lacking Lacking = true
is_lacking (Faulty reason) = false

-- items with one more behind them, or the first refusal
abbrev pub item_behind : {A : Type 0} → Result (List A) Refusal → Result A Refusal → Result (List A) Refusal
item_behind (Ok items) (Ok item) = Ok (items ++ item ∷ [])
item_behind (Ok items) (Err reason) = Err reason
item_behind (Err reason) item = Err reason

-- the reader lost exactly so many lines, and their items are read
pub record TakesItems {A : Type 0} (item : ℕ → List ℕ → Result A Refusal) (old new : Option (List ℕ)) (count : ℕ) (items : ItemsRead A) : Type 0 where
  pub lines : List (List ℕ)
  pub taken : TakesLines old new lines
  pub count_is : length lines ≡ count
  pub read : IsRead (items_from item 1 lines) items
