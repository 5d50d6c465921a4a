-- What a line keeps of fields is those fields to whoever links.
use Rattle.std.{proofs.Common.{◌≡◌, ◌∙◌, ℕ, ◌+◌, ◌-◌, ◌*◌, ◌≤◌, true, false, List, [], ◌∷◌, length, take, drop, map, refl, ap, sym, subst, arith}, specs.Prelude.slice_get, proofs.lemmas.Bool.true≢false, proofs.lemmas.List.{drop-take, length-take, take-take, take_all}}
use Rattle.definitions.specs.{Kinds.{unit_bits, word_bits}, Lengths.BlockRow, Operands.Operand, Operations.Operation, Settled.Settled, Settling.{View, is_run}, StatementItems.{Item, known}, Words.{Coded, width_of}, declared.deck_kind.DeckKind.DeckKind, Laws.Filling.{HasFields, DoFill}}
use Rattle.definitions.specs.Operations as op
use Rattle.statement_coder.{specs.Joins.Items.item_as, specs.Joins.CodedItems.{is_zeros, stores_zeros, zeros_of}, specs.Joins.WordItems.{known_words, listed_fields}, specs.declared.coded.CodedItems.CodedItems, specs.declared.sizing.Sizing.Sizing}
use Rattle.statement_coder.specs.declared.items.Item as code
use Rattle.operations.specs.Joins.OperationsAs.{operation_as}
use Rattle.use_blocks.specs.Joins.EffectsAs.{setting_as}
use Rattle.deck_objects.specs.{Joins.LineItems.{kept_from, AreBitsOf, AreShort, AreKept}, Joins.CodedLines.{IsCoded, IsNamed}, declared.lines.FieldLists.FieldLists, declared.lines.LineFields.LineFields}
use Rattle.deck_objects.specs.declared.lines.CodedLine as lines
use Rattle.deck_objects.specs.declared.lines.LineFields.TheVariants as kept
use Rattle.deck_assembler.{specs.Joins.KeptFields.{AreKeptAs, AreKeptOn, BeginsWith, IsNumber, IsTold, are_zeros}, proofs.ListedLaws.{bits-listed, none-listed}}

-- fields that fill a place have as many bits
filled-width : (kind : DeckKind) (place end : ℕ) (operand : Operand) (fields : List Item) → DoFill kind place end fields → HasFields (listed_fields kind operand fields) → width_of fields ≡ (end - place) * unit_bits kind
filled-width kind place end operand [] filled has = absurd (subst HasFields (none-listed kind operand [] refl) has)
filled-width kind place end operand (item ∷ items) filled has = filled

-- one number in place of the fields
number-bits : (kind : DeckKind) (operand : Operand) (width bits : ℕ) (fields : List Item) → HasFields (listed_fields kind operand fields) → width_of fields ≡ width → IsNumber (listed_fields kind operand fields) bits →
    AreBitsOf (known width bits ∷ []) fields
number-bits kind operand width bits fields has wide number =
    let told = bits-listed kind operand fields in
    record {
      some = λ h. tt;
      none = λ e. absurd (subst HasFields (told.none e) has);
      width = omega (arith, wide);
      bits = λ linking. (let e : bits * 1 + 0 ≡ bits = omega arith in e) ∙ sym (number.together.same linking) ∙ told.bits linking;
      unfit = λ layout based from. sym (number.together.fitting layout based from) ∙ told.unfit layout based from;
    }

number-short : (kind : DeckKind) (operand : Operand) (width bits : ℕ) (fields : List Item) → width_of fields ≡ width → IsNumber (listed_fields kind operand fields) bits → AreShort (known width bits ∷ [])
number-short kind operand width bits fields wide number =
    let told = bits-listed kind operand fields in
    let same : width_of (listed_fields kind operand fields) ≡ width = told.width ∙ wide in
    (rw same at number.short, (rw same at number.room, tt))

-- fields are themselves
same-bits : (fields : List Item) → AreBitsOf fields fields
same-bits fields = record { some = λ h. h; none = λ e. e; width = refl; bits = λ linking. refl; unfit = λ layout based from. refl }

-- what a line keeps are the bits of its statement
line-bits : (kind : DeckKind) (operand : Operand) (sizing : Sizing) (lists : FieldLists) (fields : LineFields) (told : List Item) → DoFill kind sizing.usual.place sizing.usual.end told → AreKeptAs kind operand sizing fields lists told →
    AreBitsOf (kept_from kind lists sizing.usual.place sizing.usual.end fields) told
line-bits kind operand sizing lists kept.Absent told filled h = subst (λ l. AreBitsOf [] l) (sym h) (same-bits [])
line-bits kind operand sizing lists (kept.Known bits) told filled h =
    number-bits kind operand ((sizing.usual.end - sizing.usual.place) * unit_bits kind) bits told h.0 (filled-width kind sizing.usual.place sizing.usual.end operand told filled h.0) h.1
line-bits kind operand sizing lists (kept.Words first count) told filled h = subst (λ l. AreBitsOf l told) (sym h.1.1) (bits-listed kind operand told)
line-bits kind operand sizing lists (kept.Listed first count) told filled h = subst (λ l. AreBitsOf l told) (sym h.1) (bits-listed kind operand told)
line-bits kind operand sizing lists kept.Zeros told filled h = subst (λ l. AreBitsOf (zeros_of kind sizing ∷ []) l) (sym h) (same-bits (zeros_of kind sizing ∷ []))

-- and short
line-short : (kind : DeckKind) (operand : Operand) (sizing : Sizing) (lists : FieldLists) (line : lines.CodedLine) (fields : LineFields) (told : List Item) → line.place ≡ sizing.usual.place → line.end ≡ sizing.usual.end → line.fields ≡ fields →
    DoFill kind sizing.usual.place sizing.usual.end told → (are_zeros fields ≡ false → AreShort (listed_fields kind operand told)) → AreKeptAs kind operand sizing fields lists told → AreKept kind lists line fields
line-short kind operand sizing lists line kept.Absent told e f g filled short h = tt
line-short kind operand sizing lists line (kept.Known bits) told e f g filled short h =
    subst (λ (kept' : LineFields). AreShort (kept_from kind lists line.place line.end kept')) (sym g)
    (subst (λ n. AreShort (known ((line.end - n) * unit_bits kind) bits ∷ [])) (sym e)
    (subst (λ n. AreShort (known ((n - sizing.usual.place) * unit_bits kind) bits ∷ [])) (sym f)
    (number-short kind operand ((sizing.usual.end - sizing.usual.place) * unit_bits kind) bits told (filled-width kind sizing.usual.place sizing.usual.end operand told filled h.0) h.1)))
line-short kind operand sizing lists line (kept.Words first count) told e f g filled short h = (h.0, (h.1.0, subst AreShort (sym h.1.1) (short refl)))
line-short kind operand sizing lists line (kept.Listed first count) told e f g filled short h = (h.0, subst AreShort (sym h.1) (short refl))
line-short kind operand sizing lists line kept.Zeros told e f g filled short h = tt

-- zeros are a BSSZ's
zero-fields : (fields : LineFields) → are_zeros fields ≡ true → fields ≡ kept.Zeros
zero-fields kept.Absent e = absurd (true≢false (sym e))
zero-fields (kept.Known bits) e = absurd (true≢false (sym e))
zero-fields (kept.Words first count) e = absurd (true≢false (sym e))
zero-fields (kept.Listed first count) e = absurd (true≢false (sym e))
zero-fields kept.Zeros e = refl

zero-operation : (operation : Operation) → stores_zeros operation ≡ true → operation ≡ op.Bssz
zero-operation op.Bssz e = refl
zero-operation _ e = absurd (true≢false (sym e))

-- the line of a statement of which so much is known
pub line-coded : (kind : DeckKind) (rows : List BlockRow) (view : View) (settled : Settled) (sizing : Sizing) (told : CodedItems) (before after : List code.Item) (lists : FieldLists) (fields : List Item) (line : lines.CodedLine) →
    operation_as line.operation ≡ settled.read.operation → IsNamed (slice_get rows line.block) settled.block → line.place ≡ sizing.usual.place → line.end ≡ sizing.usual.end → line.begins_run ≡ is_run (setting_as sizing.setting) →
    IsTold kind view settled sizing told before after fields → AreKeptAs kind settled.read.operand sizing line.fields lists fields → are_zeros line.fields ≡ is_zeros told →
    IsCoded kind rows lists line (record { settled = settled; fields = fields })
line-coded kind rows view settled sizing told before after lists fields line operation block place end begins is kept' zeros =
    let filled : DoFill kind sizing.usual.place sizing.usual.end fields =
    subst (λ n. DoFill kind n sizing.usual.end fields) (sym is.is_sizing.place) (subst (λ n. DoFill kind settled.place n fields) (sym is.is_sizing.end) is.filled) in
    let alike : are_zeros line.fields ≡ stores_zeros settled.read.operation = zeros ∙ is.zeros in
    record {
      operation = operation;
      block = block;
      place = place ∙ is.is_sizing.place;
      end = end ∙ is.is_sizing.end;
      begins_run = begins ∙ is.is_sizing.begins_run;
      fields = subst (λ n. AreBitsOf (kept_from kind lists n line.end line.fields) fields) (sym place)
          (subst (λ n. AreBitsOf (kept_from kind lists sizing.usual.place n line.fields) fields) (sym end)
          (line-bits kind settled.read.operand sizing lists line.fields fields filled kept'));
      kept = line-short kind settled.read.operand sizing lists line line.fields fields place end refl filled (λ e. is.short (sym alike ∙ e)) kept';
      zeros = (λ e. zero-operation settled.read.operation (sym alike ∙ ap are_zeros e), λ e. zero-fields line.fields (alike ∙ ap stores_zeros e));
    }

-- lists keep themselves
pub kept_same : (lists : FieldLists) → AreKeptOn lists lists
kept_same lists = (take_all (length lists.words.items) lists.words.items (omega arith), take_all (length lists.items.items) lists.items.items (omega arith))

-- a longer list has the fields of a line too
longer-list : {A : Type 0} (before after : List A) (first count : ℕ) → BeginsWith before after → first + count ≤ length before → (first + count ≤ length after) × (take count (drop first after) ≡ take count (drop first before))
longer-list before after first count keeps within =
    let longer : length before ≤ length after = omega (arith, ap length keeps, length-take (length before) after) in
    (omega (arith, longer, within), sym (drop-take first count after) ∙ ap (drop first) (sym (take-take (first + count) (length before) after within) ∙ ap (take (first + count)) keeps) ∙ drop-take first count before)

longer-fields : (kind : DeckKind) (before after : FieldLists) (line : lines.CodedLine) (fields : LineFields) → line.fields ≡ fields → AreKeptOn before after → AreKept kind before line fields →
    (kept_from kind after line.place line.end fields ≡ kept_from kind before line.place line.end fields) × AreKept kind after line fields
longer-fields kind before after line kept.Absent e keeps h = (refl, tt)
longer-fields kind before after line (kept.Known bits) e keeps h =
    (refl, subst (λ (f : LineFields). AreShort (kept_from kind after line.place line.end f)) (sym e) (subst (λ (f : LineFields). AreShort (kept_from kind before line.place line.end f)) e h))
longer-fields kind before after line (kept.Words first count) e keeps h =
    let more = longer-list before.words.items after.words.items first count keeps.0 h.1.0 in
    let same = ap (known_words (word_bits kind)) more.1 in
    (same, (h.0, (more.0, subst AreShort (sym same) h.1.1)))
longer-fields kind before after line (kept.Listed first count) e keeps h =
    let more = longer-list before.items.items after.items.items first count keeps.1 h.0 in
    let same = ap (map item_as) more.1 in
    (same, (more.0, subst AreShort (sym same) h.1))
longer-fields kind before after line kept.Zeros e keeps h = (refl, tt)

-- a line stays what it is where fields are put behind those that it has
pub coded-longer : (kind : DeckKind) (rows : List BlockRow) (before after : FieldLists) (line : lines.CodedLine) (coded : Coded) → AreKeptOn before after → IsCoded kind rows before line coded → IsCoded kind rows after line coded
coded-longer kind rows before after line coded keeps is =
    let more = longer-fields kind before after line line.fields refl keeps is.kept in
    record {
      operation = is.operation;
      block = is.block;
      place = is.place;
      end = is.end;
      begins_run = is.begins_run;
      fields = subst (λ l. AreBitsOf l coded.fields) (sym more.0) is.fields;
      kept = more.1;
      zeros = is.zeros;
    }
