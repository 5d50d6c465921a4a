-- The runs of a block with one statement more.
use Rattle.std.{proofs.Common.{◌≡◌, ℕ, ◌-◌, ◌*◌, ◌≤◌, Bool, true, false, List, [], ◌∷◌, ◌++◌, Result, Ok, Err, refl, sym, ap, subst, ◌∙◌, arith, append-nil}, specs.Prelude.OnOk, proofs.Math.Nat.mul_comm}
use Rattle.definitions.specs.{Characters.same_text, Kinds.unit_bits, Lengths.BlockRow, Operations.is_instruction, StatementItems.Item, Words.{Coded, Linking, Parcel, cut, joined, parcels_from, parcels_of, onto_runs, runs_of, width_of}, declared.deck_kind.DeckKind.DeckKind, Laws.Filling.DoFill, Laws.Rising.{run_end, end_with, end_behind}}
use Rattle.deck_objects.specs.declared.lines.FieldLists.{FieldLists}
use Rattle.operations.specs.Joins.OperationsAs.{operation_as}
use Rattle.parcel_packer.{specs.Joins.Packing.{OpenRun, Packed, empty_run}, proofs.PutLaws.{runs_put, runs_begun, unit_some}}
use Rattle.deck_listing.{specs.Joins.Putting.ArePut, specs.Joins.Walking.{DoesFollow, HasRuns}, proofs.PutSteps.parcels_put, proofs.LineSteps.follows-ready}
use Rattle.deck_objects.specs.Joins.LineItems.{AreBitsOf, kept_items}
use Rattle.deck_objects.specs.declared.lines.CodedLine as lines

-- a statement of another block changes nothing
pub other-runs : (kind : DeckKind) (linking : Linking) (block : List ℕ) (packed : Packed) (coded : Coded) (earlier : List Coded) →
    HasRuns kind linking block earlier packed → same_text coded.settled.block block ≡ false → HasRuns kind linking block (coded ∷ earlier) packed
other-runs kind linking block packed coded earlier runs other = record {
  kind_is = runs.kind_is;
  runs = runs.runs ∙ sym (same_runs (same_text coded.settled.block block) other);
  whole = runs.whole;
  empty = runs.empty;
  place = subst (λ n. packed.run.place ≤ n) (sym (same_end (same_text coded.settled.block block) other)) runs.place;
}
  where
    same_runs : (test : Bool) → test ≡ false → (let runs = runs_of kind linking block earlier in
        elim test [ true ↦ onto_runs coded.settled.begins_run (parcels_of kind linking coded) runs | false ↦ runs ]) ≡ runs_of kind linking block earlier
    same_runs test e = rw e refl

    same_end : (test : Bool) → test ≡ false → end_with test coded (run_end block earlier) ≡ run_end block earlier
    same_end test e = rw e refl

-- an ORG begins a run in which nothing lies
pub begun-runs : (kind : DeckKind) (linking : Linking) (block : List ℕ) (old new : Packed) (coded : Coded) (earlier : List Coded) →
    HasRuns kind linking block earlier old → same_text coded.settled.block block ≡ true → coded.settled.begins_run ≡ true →
    new ≡ record { kind = old.kind; run = empty_run; earlier = old.run.parcels ∷ old.earlier } → HasRuns kind linking block (coded ∷ earlier) new
begun-runs kind linking block old new coded earlier runs here begins e =
    let Has : Packed → Type 0 = λ packed. HasRuns kind linking block (coded ∷ earlier) packed in
    subst Has (sym e) (record {
      kind_is = runs.kind_is;
      runs = runs_begun kind linking block coded earlier old runs.runs here begins;
      whole = refl;
      empty = refl;
      place = omega arith;
    })

-- a statement's fields as parcels
abbrev parcels_by : DeckKind → Linking → Bool → ℕ → ℕ → List Item → List Parcel
parcels_by kind linking instruction place end [] = []
parcels_by kind linking instruction place end (item ∷ fields) = parcels_from instruction place (cut (unit_bits kind) (end - place) (joined linking (item ∷ fields)))

parcels-by : (kind : DeckKind) (linking : Linking) (coded : Coded) (fields : List Item) → coded.fields ≡ fields →
    parcels_of kind linking coded ≡ parcels_by kind linking (is_instruction coded.settled.read.operation) coded.settled.place coded.settled.end fields
parcels-by kind linking coded [] e = rw e refl
parcels-by kind linking coded (item ∷ fields) e = rw e refl

-- what the run holds, by the fields that a line keeps and those of the statement
joined-by : (kind : DeckKind) (linking : Linking) (instruction : Bool) (place end before : ℕ) (old new : OpenRun) (kept fields : List Item) →
    AreBitsOf kept fields → DoFill kind place end kept → place ≤ end → old.filled ≡ 0 → old.bits ≡ 0 → old.place ≤ before →
    ArePut (unit_bits kind) instruction linking old (unit_bits kind * place) kept new →
    (new.parcels ≡ old.parcels ++ parcels_by kind linking instruction place end fields) × (new.filled ≡ 0) × (new.bits ≡ 0) × (new.place ≤ end_behind false end fields before)
joined-by kind linking instruction place end before old new [] [] same fill ordered f b p put =
    rw (put.none refl) (sym (append-nil old.parcels), f, b, p)
joined-by kind linking instruction place end before old new [] (field ∷ fields) same fill ordered f b p put = absurd (same.some tt)
joined-by kind linking instruction place end before old new (k ∷ kept) [] same fill ordered f b p put = cc (same.none refl)
joined-by kind linking instruction place end before old new (k ∷ kept) (field ∷ fields) same fill ordered f b p put =
    let size = unit_bits kind in
    let count = end - place in
    let width : width_of (k ∷ kept) ≡ size * count = fill ∙ mul_comm count size in
    let parts = parcels_put size place count instruction linking old new (k ∷ kept) (unit_some kind) f b width put in
    let reached = parts.3 in
    (parts.0 ∙ ap (λ n. old.parcels ++ parcels_from instruction place (cut size count n)) (same.bits linking), parts.1, parts.2, omega arith)

-- a statement of the block joins its run
pub joined-runs : (kind : DeckKind) (rows : List BlockRow) (lists : FieldLists) (linking : Linking) (block : List ℕ) (line : lines.CodedLine) (old new : Packed) (coded : Coded) (earlier : List Coded) →
    DoesFollow kind rows lists linking block line old coded earlier → same_text coded.settled.block block ≡ true → line.begins_run ≡ false →
    new.kind ≡ old.kind → new.earlier ≡ old.earlier →
    ArePut (unit_bits kind) (is_instruction (operation_as line.operation)) linking old.run (unit_bits kind * line.place) (kept_items kind lists line) new.run →
    HasRuns kind linking block (coded ∷ earlier) new
joined-runs kind rows lists linking block line old new coded earlier follows here joins same_kind same_earlier put =
    let is_coded = follows.is_coded in
    let runs = follows.runs in
    let ready = follows-ready kind rows lists linking block line old coded earlier follows here joins in
    let no_run : coded.settled.begins_run ≡ false = sym is_coded.begins_run ∙ joins in
    let kept = kept_items kind lists line in
    let before = run_end block earlier in
    let parts = joined-by kind linking (is_instruction (operation_as line.operation)) line.place line.end before old.run new.run kept coded.fields
    is_coded.fields ready.filled ready.ordered runs.whole runs.empty runs.place put in
    let parcels : new.run.parcels ≡ old.run.parcels ++ parcels_of kind linking coded =
    parts.0 ∙ ap (λ ps. old.run.parcels ++ ps) (same_parts is_coded.operation is_coded.place is_coded.end ∙ sym (parcels-by kind linking coded coded.fields refl)) in
    record {
      kind_is = same_kind ∙ runs.kind_is;
      runs = same_runs new.run.parcels new.earlier parcels same_earlier ∙ runs_put kind linking block coded earlier old runs.runs here no_run;
      whole = parts.1;
      empty = parts.2;
      place = subst (λ n. new.run.place ≤ n) (sym (end_is (same_text coded.settled.block block) here
          ∙ ap (λ b. end_behind b coded.settled.end coded.fields before) no_run))
          (subst (λ e. new.run.place ≤ end_behind false e coded.fields before) is_coded.end parts.3);
    }
  where
    same_parts : operation_as line.operation ≡ coded.settled.read.operation → line.place ≡ coded.settled.place → line.end ≡ coded.settled.end →
        parcels_by kind linking (is_instruction (operation_as line.operation)) line.place line.end coded.fields
        ≡ parcels_by kind linking (is_instruction coded.settled.read.operation) coded.settled.place coded.settled.end coded.fields
    same_parts o p e = rw (o, p, e) refl

    same_runs : (parcels : List Parcel) (others : List (List Parcel)) → parcels ≡ old.run.parcels ++ parcels_of kind linking coded → others ≡ old.earlier →
        parcels ∷ others ≡ (old.run.parcels ++ parcels_of kind linking coded) ∷ old.earlier
    same_runs parcels others e h = rw (e, h) refl

    end_is : (test : Bool) → test ≡ true → end_with test coded (run_end block earlier) ≡ end_behind coded.settled.begins_run coded.settled.end coded.fields (run_end block earlier)
    end_is test e = rw e refl

-- what follows from three facts of a result
pub on_ok_by : {T E : Type 0} (r : Result T E) (A B C D : Type 0) → (A → B → C → D) → OnOk r A → OnOk r B → OnOk r C → OnOk r D
on_ok_by (Ok x) A B C D f a b c = f a b c
on_ok_by (Err e) A B C D f a b c = tt
