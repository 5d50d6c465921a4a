-- A line whose fields are taken over is the line of the same statement.
use Rattle.std.{proofs.Common.{◌≡◌, ◌∙◌, ℕ, ◌+◌, ◌≤◌, List, ◌++◌, length, length-append, length-take-le, take, drop, map, refl, ap, sym, subst, arith}, specs.Prelude.slice_get, proofs.lemmas.List.{drop_at, take_all, length-drop}}
use Rattle.definitions.specs.{Kinds.word_bits, Lengths.BlockRow, Words.Coded, declared.deck_kind.DeckKind.DeckKind}
use Rattle.operations.specs.Joins.OperationsAs.{operation_as}
use Rattle.statement_coder.specs.Joins.{Items.item_as, WordItems.known_words}
use Rattle.deck_objects.specs.{Joins.CodedLines.{IsCoded, IsNamed}, Joins.LineItems.{kept_from, AreBitsOf, AreShort, AreKept}, declared.lines.FieldLists.FieldLists, declared.lines.LineFields.LineFields}
use Rattle.deck_objects.specs.declared.lines.CodedLine as lines
use Rattle.deck_objects.specs.declared.lines.LineFields.TheVariants as kept
use Rattle.deck_assembler.specs.Joins.CopiedFields.{AreListedAlike, AreCopied}

-- the end of a list is what was put there
pub listed-put : {A : Type 0} (before after some : List A) → after ≡ before ++ some →
    (length before + length some ≤ length after) × (take (length some) (drop (length before) after) ≡ some)
listed-put before after some put =
    let longer : length after ≡ length before + length some = ap length put ∙ length-append before some in
    (omega (arith, longer), ap (λ l. take (length some) (drop (length before) l)) put ∙ ap (take (length some)) (drop_at before some (length before) refl) ∙ take_all (length some) some (omega arith))

-- so is what another list has
pub alike-put : {A : Type 0} (listed : ℕ → ℕ → LineFields) (others before after some : List A) (first count : ℕ) (copied : LineFields) → after ≡ before ++ some → (first + count ≤ length others → some ≡ take count (drop first others)) →
    copied ≡ listed (length before) (length some) → AreListedAlike listed others first count copied after
alike-put listed others before after some first count copied put same is = λ within.
    let there = listed-put before after some put in
    let size : length some ≡ count = ap length (same within) ∙ length-take-le count (drop first others) (omega (arith, within, length-drop first others)) in
    (length before, is ∙ ap (listed (length before)) size, omega (arith, there.0, size), ap (λ n. take n (drop (length before) after)) (sym size) ∙ there.1 ∙ same within)

-- the same kept fields
same-fields : (kind : DeckKind) (others lists : FieldLists) (old new : lines.CodedLine) (before after : LineFields) → old.fields ≡ before → new.fields ≡ after → new.place ≡ old.place → new.end ≡ old.end →
    AreCopied before others after lists → AreKept kind others old before →
    (kept_from kind lists old.place old.end after ≡ kept_from kind others old.place old.end before) × AreKept kind lists new after
same-fields kind others lists old new kept.Absent after e f p q copied h =
    (ap (kept_from kind lists old.place old.end) copied, subst (AreKept kind lists new) (sym copied) tt)
same-fields kind others lists old new kept.Zeros after e f p q copied h =
    (ap (kept_from kind lists old.place old.end) copied, subst (AreKept kind lists new) (sym copied) tt)
same-fields kind others lists old new (kept.Known bits) after e f p q copied h =
    let short = subst (λ (k : LineFields). AreShort (kept_from kind others old.place old.end k)) e h in (
      ap (kept_from kind lists old.place old.end) copied,
      subst (AreKept kind lists new) (sym copied)
          (subst (λ (k : LineFields). AreShort (kept_from kind lists new.place new.end k)) (sym (f ∙ copied))
          (subst (λ n. AreShort (kept_from kind lists n new.end (kept.Known bits))) (sym p) (subst (λ n. AreShort (kept_from kind lists old.place n (kept.Known bits))) (sym q) short))),
    )
same-fields kind others lists old new (kept.Words first count) after e f p q copied h =
    let alike = copied h.1.0 in
    let same = ap (known_words (word_bits kind)) alike.3 in
    (ap (kept_from kind lists old.place old.end) alike.1 ∙ same, subst (AreKept kind lists new) (sym alike.1) (h.0, (alike.2, subst AreShort (sym same) h.1.1)))
same-fields kind others lists old new (kept.Listed first count) after e f p q copied h =
    let alike = copied h.0 in
    let same = ap (map item_as) alike.3 in
    (ap (kept_from kind lists old.place old.end) alike.1 ∙ same, subst (AreKept kind lists new) (sym alike.1) (alike.2, subst AreShort (sym same) h.1))

-- a line of zeros stays one
zeros-same : (others lists : FieldLists) (kind : DeckKind) (line : lines.CodedLine) (before after : LineFields) → AreCopied before others after lists → AreKept kind others line before →
    (after ≡ kept.Zeros → before ≡ kept.Zeros) × (before ≡ kept.Zeros → after ≡ kept.Zeros)
zeros-same others lists kind line kept.Absent after copied h = ((λ e. sym copied ∙ e), (λ e. copied ∙ e))
zeros-same others lists kind line kept.Zeros after copied h = ((λ e. sym copied ∙ e), (λ e. copied ∙ e))
zeros-same others lists kind line (kept.Known bits) after copied h = ((λ e. sym copied ∙ e), (λ e. copied ∙ e))
zeros-same others lists kind line (kept.Words first count) after copied h = let alike = copied h.1.0 in ((λ e. absurd (let no = sym alike.1 ∙ e in cc)), (λ e. cc))
zeros-same others lists kind line (kept.Listed first count) after copied h = let alike = copied h.0 in ((λ e. absurd (let no = sym alike.1 ∙ e in cc)), (λ e. cc))

-- the same line with its fields elsewhere
pub line-copied : (kind : DeckKind) (old_rows rows : List BlockRow) (others lists : FieldLists) (old new : lines.CodedLine) (coded : Coded) → new.operation ≡ old.operation → new.place ≡ old.place → new.end ≡ old.end → new.begins_run ≡ old.begins_run →
    AreCopied old.fields others new.fields lists → IsNamed (slice_get rows new.block) coded.settled.block → IsCoded kind old_rows others old coded → IsCoded kind rows lists new coded
line-copied kind old_rows rows others lists old new coded o p q b copied named is =
    let alike = same-fields kind others lists old new old.fields new.fields refl refl p q copied is.kept in
    let zeros = zeros-same others lists kind old old.fields new.fields copied is.kept in
    record {
      operation = ap operation_as o ∙ is.operation;
      block = named;
      place = p ∙ is.place;
      end = q ∙ is.end;
      begins_run = b ∙ is.begins_run;
      fields = subst (λ n. AreBitsOf (kept_from kind lists n new.end new.fields) coded.fields) (sym p)
          (subst (λ n. AreBitsOf (kept_from kind lists old.place n new.fields) coded.fields) (sym q)
          (subst (λ l. AreBitsOf l coded.fields) (sym alike.0) is.fields));
      kept = alike.1;
      zeros = ((λ e. is.zeros.0 (zeros.0 e)), (λ e. zeros.1 (is.zeros.1 e)));
    }
