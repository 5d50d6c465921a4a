-- The steps of reading a command: lines, the items that they show, and where the reader breaks off.
use Rattle.std.{proofs.Common.{ℕ, suc, ◌≡◌, ◌+◌, ◌<◌, List, [], ◌∷◌, ◌++◌, Option, Result, Ok, Err, inl, inr, length, map, refl, sym, ap, subst, ◌∙◌, arith, append_assoc, length-append}, proofs.lemmas.List.map-append, proofs.KnownBytes.{Consumes-nil, Consumes-trans}}
use Rattle.definitions.specs.InputLines.{InputLine, Line, lines_of}
use Rattle.text_ports.{specs.Lines.ReadsLine, proofs.LineLaws.lines_of-taken}
use Rattle.text_ports.specs.declared.lines.LineIs.TheVariants as is
use Rattle.session_commands.specs.{Commands.command_of, declared.refusals.Refusal.Refusal}
use Rattle.deck_files.specs.ShelfRelations.{ShelfRelations}
use Rattle.session_line.specs.{DeskRelations.DeskRelations, Serving.{Serves, ServesBehind, Sides, sides}, declared.rights.Rights.Rights, declared.serving.Outcome.Outcome, declared.line_items.ItemsRead.ItemsRead, declared.reading.Stop.Stop, declared.tasks.Task.Task, Tasks.{item_in_front, items_from, lines_due}, Taking.{TakesLines, BreaksOff, Stops, StopsWithin, TakesBehind, TakesTask}, Joins.LineItems.{IsRead, item_behind, TakesItems}}

-- nothing is taken
pub TakesLines-none : (a : Option (List ℕ)) → TakesLines a a []
TakesLines-none a = record { taken = []; consumed = Consumes-nil a; whole = λ rest. refl }

-- one line is taken
pub TakesLines-line : (a b : Option (List ℕ)) (line : List ℕ) → ReadsLine a b is.Line line → TakesLines a b (line ∷ [])
TakesLines-line a b line read = record { taken = read.0; consumed = read.1; whole = λ rest. lines_of-taken read.0 line rest read.2 }

-- lines are taken, and then others
pub TakesLines-trans : (a b c : Option (List ℕ)) (lines others : List (List ℕ)) → TakesLines a b lines → TakesLines b c others → TakesLines a c (lines ++ others)
TakesLines-trans a b c lines others first second = record {
  taken = first.taken ++ second.taken;
  consumed = Consumes-trans a b c first.taken second.taken first.consumed second.consumed;
  whole = λ rest.
      ap lines_of (append_assoc first.taken second.taken rest)
      ∙ first.whole (second.taken ++ rest)
      ∙ ap (λ (l : List InputLine). map Line lines ++ l) (second.whole rest)
      ∙ sym (append_assoc (map Line lines) (map Line others) (lines_of rest))
      ∙ ap (λ (l : List InputLine). l ++ lines_of rest) (sym (map-append Line lines others));
}

module _ {A : Type 0} where
  -- an item in front of items with one more behind them
  item_in_front-behind : (first : Result A Refusal) (items : Result (List A) Refusal) (last : Result A Refusal) →
      item_in_front first (item_behind items last) ≡ item_behind (item_in_front first items) last
  item_in_front-behind (Ok first) (Ok items) (Ok last) = refl
  item_in_front-behind (Ok first) (Ok items) (Err reason) = refl
  item_in_front-behind (Ok first) (Err reason) last = refl
  item_in_front-behind (Err reason) items last = refl

  item_in_front-nil : (last : Result A Refusal) → item_in_front last (Ok []) ≡ item_behind (Ok []) last
  item_in_front-nil (Ok last) = refl
  item_in_front-nil (Err reason) = refl

  -- the items of one line more
  pub items_from-more : (item : ℕ → List ℕ → Result A Refusal) (number : ℕ) (lines : List (List ℕ)) (line : List ℕ) →
      items_from item number (lines ++ line ∷ []) ≡ item_behind (items_from item number lines) (item (number + length lines) line)
  items_from-more item number [] line =
      item_in_front-nil (item number line) ∙ ap (λ (n : ℕ). item_behind (Ok []) (item n line)) (let e : number ≡ number + 0 = omega arith in e)
  items_from-more item number (first ∷ lines) line =
      ap (item_in_front (item number first)) (items_from-more item (number + 1) lines line)
      ∙ item_in_front-behind (item number first) (items_from item (number + 1) lines) (item (number + 1 + length lines) line)
      ∙ ap (λ (n : ℕ). item_behind (item_in_front (item number first) (items_from item (number + 1) lines)) (item n line)) (let e : number + 1 + length lines ≡ number + suc (length lines) = omega arith in e)

  -- one line more is read
  pub TakesItems-more : (item : ℕ → List ℕ → Result A Refusal) (a b c : Option (List ℕ)) (count : ℕ) (items after : ItemsRead A) (line text : List ℕ) → TakesItems item a b count items → ReadsLine b c is.Line line → text ≡ line →
      ((read : Result (List A) Refusal) → IsRead read items → IsRead (item_behind read (item (count + 1) text)) after) → TakesItems item a c (count + 1) after
  TakesItems-more item a b c count items after line text taken reads same goes =
      let P : Result (List A) Refusal → Type 0 = λ (r : Result (List A) Refusal). IsRead r after in
      let numbered : count + 1 ≡ 1 + length taken.lines = let n = taken.count_is in omega arith in
      let e : item_behind (items_from item 1 taken.lines) (item (count + 1) text) ≡ items_from item 1 (taken.lines ++ line ∷ []) =
      ap (λ (t : List ℕ). item_behind (items_from item 1 taken.lines) (item (count + 1) t)) same
      ∙ ap (λ (n : ℕ). item_behind (items_from item 1 taken.lines) (item n line)) numbered
      ∙ sym (items_from-more item 1 taken.lines line) in
      record {
        lines = taken.lines ++ line ∷ [];
        taken = TakesLines-trans a b c taken.lines (line ∷ []) taken.taken (TakesLines-line b c line reads);
        count_is = let n = taken.count_is in omega (arith, length-append taken.lines (line ∷ []));
        read = subst P e (goes (items_from item 1 taken.lines) taken.read);
      }

-- a first line is taken, and then those behind it
pub TakesTask-first : (a b c : Option (List ℕ)) (line text : List ℕ) (task : Task) → ReadsLine a b is.Line line → text ≡ line → TakesBehind text b c task → TakesTask a c task
TakesTask-first a b c line text task reads same behind =
    let P : List ℕ → Type 0 = λ (t : List ℕ). TakesBehind t b c task in
    let of_line : TakesBehind line b c task = subst P same behind in
    record {
      first = line;
      others = of_line.others;
      taken = TakesLines-trans a b c (line ∷ []) of_line.others (TakesLines-line a b line reads) of_line.taken;
      whole = of_line.whole;
      asked = of_line.asked;
    }

-- the reader breaks off in the first line
pub Stops-first : (a b : Option (List ℕ)) (stop : Stop) → BreaksOff a b stop → Stops a b stop
Stops-first a b stop broken = record { lines = []; between = a; taken = TakesLines-none a; begun = tt; broken = broken }

-- the reader breaks off in a later line of a command
pub Stops-later : (a b c : Option (List ℕ)) (line text : List ℕ) (stop : Stop) → ReadsLine a b is.Line line → text ≡ line → StopsWithin b c (lines_due (command_of text)) stop → Stops a c stop
Stops-later a b c line text stop reads same stopped =
    let P : ℕ → Type 0 = λ n. length stopped.lines < n in
    record {
      lines = line ∷ stopped.lines;
      between = stopped.between;
      taken = TakesLines-trans a b stopped.between (line ∷ []) stopped.lines (TakesLines-line a b line reads) stopped.taken;
      begun = subst P (ap (λ (t : List ℕ). lines_due (command_of t)) same) stopped.fewer;
      broken = stopped.broken;
    }

-- a first line is taken, and then it is served
pub Serves-first : {C S : Type 0} (rights : Rights) (calls : DeskRelations C) (files : ShelfRelations S) (a b : Option (List ℕ)) (line text : List ℕ) (output : Option (List ℕ)) (desk : C) (shelf : S) (new : Sides C S) (outcome : Outcome) →
    ReadsLine a b is.Line line → text ≡ line → ServesBehind rights calls files text (sides b output desk shelf) new outcome → Serves rights calls files (sides a output desk shelf) new outcome
Serves-first rights calls files a b line text output desk shelf new outcome reads same (inl served) = inl (record {
  task = served.task;
  answer = served.answer;
  taken = TakesTask-first a b new.input line text served.task reads same served.taken;
  executed = served.executed;
  sent = served.sent;
})
Serves-first rights calls files a b line text output desk shelf new outcome reads same (inr stopped) = inr (record {
  stop = stopped.stop;
  stopped = Stops-later a b new.input line text stopped.stop reads same stopped.stopped;
  told = stopped.told;
  output = stopped.output;
  desk = stopped.desk;
  shelf = stopped.shelf;
})
