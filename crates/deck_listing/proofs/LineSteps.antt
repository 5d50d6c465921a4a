-- A line as the statement that follows those whose runs are packed.
use Rattle.std.{proofs.Common.{◌≡◌, ℕ, ◌-◌, ◌*◌, ◌/◌, ◌%◌, ◌≤◌, true, false, List, [], ◌∷◌, refl, sym, ap, subst, ◌∙◌, arith}, proofs.Math.Nat.mul_comm, proofs.lemmas.Nat.pow_pos}
use Rattle.definitions.{specs.Characters.same_text, specs.Kinds.{units, unit_bits, word_bits}, specs.Lengths.BlockRow, specs.Operations.is_instruction, specs.StatementItems.Item, specs.Words.{Coded, Linking}, specs.declared.deck_kind.DeckKind.DeckKind, specs.declared.deck_kind.DeckKind.TheVariants.{Rel, Abs, Periph}, proofs.TextLaws.same_text-true, specs.Laws.Filling.{DoFill, HasFields}, specs.Laws.Rising.run_end}
use Rattle.definitions.specs.Operations as op
use Rattle.deck_objects.specs.declared.lines.FieldLists.{FieldLists}
use Rattle.operations.specs.Joins.OperationsAs.{operation_as}
use Rattle.parcel_packer.{specs.Joins.Packing.{OpenRun, Packed, moved, put_bits}, proofs.PutLaws.unit_some}
use Rattle.deck_listing.{specs.Joins.Putting.{StandsAt, ArePut, IsReady}, specs.Joins.Walking.DoesFollow, proofs.PutSteps.put_one}
use Rattle.deck_objects.specs.Joins.{LineItems.{AreBitsOf, kept_items, zeros_to}}
use Rattle.deck_objects.specs.declared.lines.CodedLine as lines
use Rattle.deck_objects.specs.declared.lines.LineFields.TheVariants as variant

-- a line that is ready stands behind the run
pub ready-stands : (kind : DeckKind) (lists : FieldLists) (line : lines.CodedLine) (packed : Packed) → IsReady kind lists line packed → StandsAt (unit_bits kind) packed.run (unit_bits kind * line.place)
ready-stands kind lists line packed ready = stands kind packed.run line.place ready.whole ready.behind
  where
    stands : (kind : DeckKind) (run : OpenRun) (place : ℕ) → run.filled ≡ 0 → run.place ≤ place → StandsAt (unit_bits kind) run (unit_bits kind * place)
    stands Rel run place h k = record { begins = (omega arith, λ _. omega arith, λ some. absurd (omega arith)); room = omega arith }
    stands Abs run place h k = record { begins = (omega arith, λ _. omega arith, λ some. absurd (omega arith)); room = omega arith }
    stands Periph run place h k = record { begins = (omega arith, λ _. omega arith, λ some. absurd (omega arith)); room = omega arith }

word_place : (kind : DeckKind) (place word : ℕ) → place % units kind ≡ 0 → word ≡ place / units kind → word_bits kind * word ≡ unit_bits kind * place
word_place Rel place word h e = omega arith
word_place Abs place word h e = omega arith
word_place Periph place word h e = omega arith

-- a run with zeros more
abbrev with_zeros : DeckKind → OpenRun → ℕ → ℕ → OpenRun
with_zeros kind run word count = put_bits (unit_bits kind) false (word_bits kind * count) 0 (moved (unit_bits kind) (word_bits kind * word) run)

-- the zeros of a BSSZ, put as words
pub zeros_put : (kind : DeckKind) (lists : FieldLists) (linking : Linking) (line : lines.CodedLine) (old new : Packed) (unit : ℕ) →
    IsReady kind lists line old → line.fields ≡ variant.Zeros → unit ≡ units kind →
    new ≡ record { kind = old.kind; run = with_zeros old.kind old.run (line.place / unit) ((line.end - line.place) / unit); earlier = old.earlier } →
    ArePut (unit_bits kind) (is_instruction (operation_as line.operation)) linking old.run (unit_bits kind * line.place) (kept_items kind lists line) new.run
zeros_put kind lists linking line old new unit ready zeros e h =
    let size = unit_bits kind in
    let word = line.place / units kind in
    let count = (line.end - line.place) / units kind in
    let item = zeros_to kind line.place line.end in
    let is_run : new.run ≡ with_zeros kind old.run word count =
    ap (λ (p : Packed). p.run) h ∙ ap (λ k. with_zeros k old.run (line.place / unit) ((line.end - line.place) / unit)) ready.kind_is
    ∙ ap (λ u. with_zeros kind old.run (line.place / u) ((line.end - line.place) / u)) e in
    let wide : word_bits kind * count ≡ item.width = mul_comm (word_bits kind) count in
    let here = word_place kind line.place word (ready.from_word zeros) refl in
    rw (ready.plain zeros, zeros)
    (put_one size false linking old.run new.run (size * line.place) item 0 (unit_some kind) (ready-stands kind lists line old ready) refl (pow_pos item.width)
    (is_run ∙ ap (λ w. put_bits size false w 0 (moved size (word_bits kind * word) old.run)) wide ∙ ap (λ p. put_bits size false item.width 0 (moved size p old.run)) here))

-- fields that are others to whoever links fill as much
same_fill : (kind : DeckKind) (place end : ℕ) (kept fields : List Item) → AreBitsOf kept fields → DoFill kind place end fields → DoFill kind place end kept
same_fill kind place end [] fields same h = tt
same_fill kind place end (k ∷ kept) [] same h = cc (same.none refl)
same_fill kind place end (k ∷ kept) (f ∷ fields) same h = same.width ∙ h

some_kept : (kept fields : List Item) → AreBitsOf kept fields → HasFields kept → HasFields fields
some_kept [] fields same h = absurd h
some_kept (k ∷ kept) [] same h = cc (same.none refl)
some_kept (k ∷ kept) (f ∷ fields) same h = tt

-- a statement of the block that begins no run is ready to be put
pub follows-ready : (kind : DeckKind) (rows : List BlockRow) (lists : FieldLists) (linking : Linking) (block : List ℕ) (line : lines.CodedLine) (packed : Packed) (coded : Coded) (earlier : List Coded) →
    DoesFollow kind rows lists linking block line packed coded earlier → same_text coded.settled.block block ≡ true → line.begins_run ≡ false → IsReady kind lists line packed
follows-ready kind rows lists linking block line packed coded earlier follows here joins =
    let is_coded = follows.is_coded in
    let laid = follows.laid in
    let place = is_coded.place in
    let end = is_coded.end in
    let no_run : coded.settled.begins_run ≡ false = sym is_coded.begins_run ∙ joins in
    let kept = kept_items kind lists line in
    let of_block : run_end coded.settled.block earlier ≡ run_end block earlier = ap (λ b. run_end b earlier) (same_text-true coded.settled.block block here) in
    let first = laid.behind in
    let second = follows.runs.place in
    let ordered = laid.ordered no_run in
    let within = laid.end_within in
    let Fill : ℕ → ℕ → Type 0 = λ p e. DoFill kind p e kept in
    let fill : Fill line.place line.end =
    subst (λ p. Fill p line.end) (sym place) (subst (λ e. Fill coded.settled.place e) (sym end) (same_fill kind coded.settled.place coded.settled.end kept coded.fields is_coded.fields laid.filled)) in
    let zero_fields = λ (zeros : line.fields ≡ variant.Zeros). some_kept kept coded.fields is_coded.fields (rw zeros tt) in
    let zero_operation = λ (zeros : line.fields ≡ variant.Zeros). is_coded.zeros.0 zeros in
    let no_instruction = λ (zeros : line.fields ≡ variant.Zeros) (h : coded.settled.read.operation ≡ op.Instruction). bssz_instruction (sym (zero_operation zeros) ∙ h) in
    record {
      kind_is = follows.runs.kind_is;
      whole = follows.runs.whole;
      behind = omega arith;
      ordered = omega arith;
      within = omega arith;
      kept = is_coded.kept;
      filled = fill;
      plain = λ zeros. ap is_instruction (is_coded.operation ∙ zero_operation zeros);
      from_word = λ zeros. rw place (follows.reach.from_word (zero_fields zeros) (no_instruction zeros));
      to_word = λ zeros. rw end (follows.reach.to_word (zero_fields zeros) (no_instruction zeros));
    }
  where
    bssz_instruction : op.Bssz ≡ op.Instruction → ⊥
    bssz_instruction h = cc
