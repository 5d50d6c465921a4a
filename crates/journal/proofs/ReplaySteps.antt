-- The steps of making the changes of a journal again: the records so far are made, and leave the journal of what is left.
use Rattle.std.{proofs.Common.{ℕ, ◌≡◌, ◌+◌, ◌-◌, ◌^◌, ◌<◌, ◌≤◌, Bool, true, false, List, [], ◌∷◌, ◌++◌, Option, None, Some, length, refl, sym, ap, subst, ◌∙◌, inl, inr, arith, append_assoc, append-nil, length-append}, specs.List.cons_option, specs.Io.KnownBytes.Consumes, proofs.KnownBytes.{Consumes-nil, Consumes-trans}, proofs.lemmas.List.Elements.filter_map-append}
use Rattle.text_ports.specs.Faults.{count_up}
use Rattle.turn_office.specs.Histories.{Leads, entry}
use Rattle.desk_core.specs.Changes as changes
use Rattle.desk_core.{specs.Changes.decks_after, specs.Desks.{Desk, new_desk_at}, specs.declared.calls.Change.Change, specs.declared.calls.Call.Call, specs.declared.calls.Call.TheVariants.Make, specs.declared.replies.Reply.Reply, specs.declared.replies.Reply.TheVariants.Changed, specs.Steps.Steps, specs.Runs.{History, Runs, change_in, changes_in}, proofs.EveryRun.is_of_its_changes}
use Rattle.journal.specs.{declared.records.Entry.Entry, declared.records.Entry.TheVariants.{Begun, Made}, declared.records.Record.Record, declared.places.Place.Place, declared.places.Ending.Ending, declared.places.Ending.TheVariants.{Whole, Cut, Faulty}, declared.reading.Next.TheVariants.{Found, Ended}, declared.reading.JournalFault.JournalFault, declared.replaying.ReplayFault.ReplayFault, Places.at_start, Journals.{Journal, in_front, journal_from, journal_of}, Reading.{Tells, TellsEnd, ReadsNext, GivesTooMuch, StopsReading}, Replaying.{replay_fault, change_in_entry, change_told, changes_told, begun_at, begun_by, fronted, are_none, IsNotTaken, IsTakenAs, IsTaken, IsReplayed, LeadsTo, StopsReplay, TellsJournal, Replays}}
use Rattle.journal.specs.declared.reading.JournalFault.TheVariants as fault
use Rattle.journal.specs.declared.replaying.ReplayFault.TheVariants as replay

-- the records so far, of a byte each at least, are made, and leave the journal of what is left
pub record AreMade (old new : Option (List ℕ)) (first : Bool) (desk : Desk) (place : Place) (count : ℕ) : Type 0 where
  pub records : List Record
  pub first_is : first ≡ are_none records
  pub history : History
  pub runs : Runs (begun_by records) history desk
  pub accepted : changes_in history ≡ changes_told records
  pub taken : List ℕ
  pub consumed : Consumes old new taken
  pub many : count ≤ length taken
  pub goes : LeadsTo records taken place

-- no record yet
pub AreMade-none : (old : Option (List ℕ)) (desk : Desk) (place : Place) → desk ≡ new_desk_at 0 → place ≡ at_start → AreMade old old true desk place 0
AreMade-none old desk place new start =
    let P : Place → Type 0 = λ (p : Place). AreMade old old true desk p 0 in
    subst P (sym start) (record { records = []; first_is = refl; history = []; runs = sym new; accepted = refl; taken = []; consumed = Consumes-nil old; many = omega arith; goes = λ rest. refl })

-- there are none where they are shown to be
none-are : (records : List Record) → are_none records ≡ true → records ≡ []
none-are [] is = refl
none-are (r ∷ records) is = cc

-- with one more there are some
some-are : (records : List Record) (r : Record) → false ≡ are_none (records ++ r ∷ [])
some-are [] r = refl
some-are (first ∷ records) r = refl

-- a record with a change behind others leaves where they begin
begun-more : (records : List Record) (r : Record) (asked : Change) → r.entry ≡ Made asked → begun_by (records ++ r ∷ []) ≡ begun_by records
begun-more [] r asked told = ap (begun_at r.version) told
begun-more (first ∷ records) r asked told = refl

-- one entry more
leads-more : (desk mid last : Desk) (history : History) (call : Call) (reply : Reply) → Leads Steps desk history mid → Steps mid call reply last → Leads Steps desk (history ++ entry 0 call reply ∷ []) last
leads-more desk mid last [] call reply leads step = (last, subst (λ (d : Desk). Steps d call reply last) (sym leads) step, refl)
leads-more desk mid last (first ∷ history) call reply leads step = (leads.0, leads.1, leads-more leads.0 mid last history call reply leads.2 step)

-- what is accepted with one change more
accepted-more : (history : History) (records : List Record) (r : Record) (by : List ℕ) (asked : Change) → r.entry ≡ Made asked → changes_in history ≡ changes_told records →
    changes_in (history ++ entry 0 (Make by asked) (Changed r.version) ∷ []) ≡ changes_told (records ++ r ∷ [])
accepted-more history records r by asked told same =
    filter_map-append change_in history (entry 0 (Make by asked) (Changed r.version) ∷ [])
    ∙ ap (λ (cs : List changes.Change). cs ++ changes_in (entry 0 (Make by asked) (Changed r.version) ∷ [])) same
    ∙ ap (λ (o : Option changes.Change). changes_told records ++ cons_option o []) (sym (ap (change_in_entry r.version) told))
    ∙ sym (filter_map-append change_told records (r ∷ []))

-- the journal behind one record more
fronted-more : (records : List Record) (r : Record) (journal : Journal) → fronted records (in_front r journal) ≡ fronted (records ++ r ∷ []) journal
fronted-more records r journal = ap (λ (rs : List Record). record { records = rs; ending = journal.ending }) (sym (append_assoc records (r ∷ []) journal.records))

-- a record has a byte at least
some-bytes : (place after : Place) (r : Record) (taken : List ℕ) (left : Option (List ℕ)) → Tells place after (Found r) taken left → 0 < length taken
some-bytes place after r [] left told =
    let none : [] ≡ r ∷ (journal_from None after []).records = ap (λ (j : Journal). j.records) (told []) in
    cc
some-bytes place after r (b ∷ taken) left told = omega arith

-- the bytes of one record more
goes-more : (old mid new : Option (List ℕ)) (first : Bool) (desk : Desk) (place after : Place) (count : ℕ) (r : Record) → (so_far : AreMade old mid first desk place count) → (read : ReadsNext mid new place after (Found r)) →
    LeadsTo (so_far.records ++ r ∷ []) (so_far.taken ++ read.taken) after
goes-more old mid new first desk place after count r so_far read rest =
    ap journal_of (append_assoc so_far.taken read.taken rest)
    ∙ so_far.goes (read.taken ++ rest)
    ∙ ap (fronted so_far.records) (read.told rest)
    ∙ fronted-more so_far.records r (journal_from None after rest)

-- one record more
pub AreMade-more : (old mid new : Option (List ℕ)) (first : Bool) (desk next : Desk) (place after : Place) (count : ℕ) (r : Record) → AreMade old mid first desk place count → ReadsNext mid new place after (Found r) →
    IsTaken first r desk next → AreMade old new false next after (count + 1)
AreMade-more old mid new first desk next place after count r so_far read taken = told-by r.entry refl taken
  where
    bytes : List ℕ
    bytes = so_far.taken ++ read.taken

    consumed : Consumes old new bytes
    consumed = Consumes-trans old mid new so_far.taken read.taken so_far.consumed read.consumed

    many : count + 1 ≤ length bytes
    many =
        let before : count ≤ length so_far.taken = so_far.many in
        let own : 0 < length read.taken = some-bytes place after r read.taken new read.told in
        omega (arith, before, own, length-append so_far.taken read.taken)

    goes : LeadsTo (so_far.records ++ r ∷ []) bytes after
    goes = goes-more old mid new first desk place after count r so_far read

    told-by : (e : Entry) → r.entry ≡ e → IsTakenAs first r.version r.by e desk next → AreMade old new false next after (count + 1)
    told-by Begun told is =
        let only : so_far.records ++ r ∷ [] ≡ r ∷ [] = ap (λ (rs : List Record). rs ++ r ∷ []) (none-are so_far.records (sym so_far.first_is ∙ is.0)) in
        record {
          records = so_far.records ++ r ∷ [];
          first_is = some-are so_far.records r;
          history = [];
          runs = ap new_desk_at (ap begun_by only ∙ ap (begun_at r.version) told) ∙ sym is.1;
          accepted = sym (ap changes_told only ∙ ap (λ (o : Option changes.Change). cons_option o []) (ap (change_in_entry r.version) told));
          taken = bytes;
          consumed = consumed;
          many = many;
          goes = goes;
        }
    told-by (Made asked) told is =
        let by = r.by in
        let P : ℕ → Type 0 = λ (begun : ℕ). Runs begun (so_far.history ++ entry 0 (Make by asked) (Changed r.version) ∷ []) next in
        record {
          records = so_far.records ++ r ∷ [];
          first_is = some-are so_far.records r;
          history = so_far.history ++ entry 0 (Make by asked) (Changed r.version) ∷ [];
          runs = subst P (sym (begun-more so_far.records r asked told)) (leads-more (new_desk_at (begun_by so_far.records)) desk next so_far.history (Make by asked) (Changed r.version) so_far.runs is);
          accepted = accepted-more so_far.history so_far.records r by asked told so_far.accepted;
          taken = bytes;
          consumed = consumed;
          many = many;
          goes = goes;
        }

-- the desk of the records so far
replayed-of : (old new : Option (List ℕ)) (first : Bool) (desk : Desk) (place : Place) (count : ℕ) → (so_far : AreMade old new first desk place count) → IsReplayed so_far.records desk
replayed-of old new first desk place count so_far =
    let is = is_of_its_changes (begun_by so_far.records) so_far.history desk so_far.runs in
    record {
      history = so_far.history;
      runs = so_far.runs;
      accepted = so_far.accepted;
      version = is.version ∙ ap (λ (cs : List changes.Change). begun_by so_far.records + length cs) so_far.accepted;
      decks = is.decks ∙ ap decks_after so_far.accepted;
    }

-- the desk has the version that was asked for
pub Replays-stopped : (old new : Option (List ℕ)) (first : Bool) (last : ℕ) (desk : Desk) (place : Place) (count : ℕ) → AreMade old new first desk place count → desk.version ≡ last → Replays old new last desk None
Replays-stopped old new first last desk place count so_far is = record {
  records = so_far.records;
  replayed = replayed-of old new first desk place count so_far;
  taken = so_far.taken;
  consumed = so_far.consumed;
  told = (λ rest. (journal_from None place rest, so_far.goes rest), is);
}

-- the journal ends
pub Replays-ended : (old mid new : Option (List ℕ)) (first : Bool) (last : ℕ) (desk : Desk) (place after : Place) (count : ℕ) (ending : Ending) → AreMade old mid first desk place count → ReadsNext mid new place after (Ended ending) →
    Replays old new last desk (Some ending)
Replays-ended old mid new first last desk place after count ending so_far read = record {
  records = so_far.records;
  replayed = replayed-of old mid first desk place count so_far;
  taken = so_far.taken ++ read.taken;
  consumed = Consumes-trans old mid new so_far.taken read.taken so_far.consumed read.consumed;
  told = ends ending read.told;
}
  where
    only : (ending : Ending) → ◌≡◌ {A = Journal} (record { records = so_far.records ++ []; ending = ending }) (record { records = so_far.records; ending = ending })
    only ending = ap (λ (rs : List Record). record { records = rs; ending = ending }) (append-nil so_far.records)

    ends : (ending : Ending) → TellsEnd None place ending read.taken new → TellsJournal so_far.records ending (so_far.taken ++ read.taken) new
    ends Whole told = (so_far.goes read.taken ∙ ap (fronted so_far.records) told.0 ∙ only Whole, told.1)
    ends (Cut begin) told = (so_far.goes read.taken ∙ ap (fronted so_far.records) told.0 ∙ only (Cut begin), told.1)
    ends (Faulty number begin) told = λ rest.
        ap journal_of (append_assoc so_far.taken read.taken rest)
        ∙ so_far.goes (read.taken ++ rest)
        ∙ ap (fronted so_far.records) (told rest)
        ∙ only (Faulty number begin)

-- the reader gives too much behind the records so far, or with them
GivesTooMuch-behind : (old mid new : Option (List ℕ)) (first : Bool) (desk : Desk) (place : Place) (count : ℕ) → AreMade old mid first desk place count → GivesTooMuch mid new → GivesTooMuch old new
GivesTooMuch-behind old mid new first desk place count so_far more = record {
  taken = so_far.taken ++ more.taken;
  consumed = Consumes-trans old mid new so_far.taken more.taken so_far.consumed more.consumed;
  many = let own : 2 ^ 64 - 1 ≤ length more.taken = more.many in omega (arith, own, length-append so_far.taken more.taken);
}

pub GivesTooMuch-records : (old new : Option (List ℕ)) (first : Bool) (desk : Desk) (place : Place) (count : ℕ) → AreMade old new first desk place count → 2 ^ 64 - 1 ≤ count → GivesTooMuch old new
GivesTooMuch-records old new first desk place count so_far all = record {
  taken = so_far.taken;
  consumed = so_far.consumed;
  many = let before : count ≤ length so_far.taken = so_far.many in omega (arith, before, all);
}

-- the next record is not read
pub StopsReplay-unread : (old mid new : Option (List ℕ)) (first : Bool) (desk : Desk) (place : Place) (count before middle after : ℕ) (found : JournalFault) → AreMade old mid first desk place count →
    middle ≡ before → StopsReading mid new middle after found → StopsReplay old new before after (replay_fault found)
StopsReplay-unread old mid new first desk place count before middle after fault.ReadFault so_far sound (inl failed) = inl (failed ∙ ap count_up sound)
StopsReplay-unread old mid new first desk place count before middle after fault.ReadFault so_far sound (inr more) = inr (more.0 ∙ sound, GivesTooMuch-behind old mid new first desk place count so_far more.1)
StopsReplay-unread old mid new first desk place count before middle after fault.OutOfMemory so_far sound same = same ∙ sound

-- a record is not taken
pub StopsReplay-unmade : (old mid new : Option (List ℕ)) (first : Bool) (desk : Desk) (place behind : Place) (count before after : ℕ) (r : Record) (found : ReplayFault) → AreMade old mid first desk place count →
    after ≡ before → ReadsNext mid new place behind (Found r) → IsNotTaken first r place desk found → StopsReplay old new before after found
StopsReplay-unmade old mid new first desk place behind count before after r replay.ReadFault so_far sound read not = absurd not
StopsReplay-unmade old mid new first desk place behind count before after r replay.OutOfMemory so_far sound read not = sound
StopsReplay-unmade old mid new first desk place behind count before after r (replay.Unmade number begin) so_far sound read not = record {
  records = so_far.records;
  desk = desk;
  replayed = replayed-of old mid first desk place count so_far;
  front = so_far.taken;
  place = place;
  stands = so_far.goes;
  unmade = r;
  own = read.taken;
  behind = behind;
  told = goes-more old mid new first desk place behind count r so_far read;
  consumed = Consumes-trans old mid new so_far.taken read.taken so_far.consumed read.consumed;
  refused = subst (λ (f : Bool). IsNotTaken f r place desk (replay.Unmade number begin)) so_far.first_is not;
}
