-- Where a subfield spells no expression, or there are none or more than three, no row fits: a pattern of registers fits only what spells one.
use Rattle.std.{proofs.Common.{◌≡◌, ◌≤◌, ℕ, Bool, true, false, ◌&&◌, ◌||◌, List, [], ◌∷◌, Option, Some, None, length, map, take, drop, filter, eqb, codes, refl, sym, ap, ◌∙◌, arith, length-drop}, specs.Prelude.{suc, zero, is_some, option_map}, specs.List.{list_all, list_any, slice_split}, proofs.lemmas.Bool.{and_parts, true≢false}}
use Rattle.definitions.specs.{Characters.same_text, Pieces.{AtStart, Piece, pieces_of, subfields_of}, Expressions.expression_of, CentralTable.{Row, central_rows, ignoring_rows, sum_rows}, Matching.{no_ijk, matched, is_operation, NoField, Match, with_field, subfield_matched, subfields_matched, instruction_of, ignoring_fit, row_fit, sum_fit, sum_read, single, sum_rows_for, rows_for, first_fit, central_of}, declared.number_base.NumberBase.NumberBase}
use Rattle.expr_forms.{specs.Joins.Operands.{is_subfield, is_operand}, specs.Joins.Subfields.{subfield_len, text_behind, subfields_left}, proofs.SubfieldLaws.field-cut}
use Rattle.cpu_opcodes.{specs.Joins.PatternTexts.{holds, is_text_pattern}, proofs.PatternTextLaws.{fits_none, matched-text}, proofs.CentralLaws.none-kept, proofs.RowLaws.{no_fit, agree_on_kept, first_fit-none, no_sum-fits}, proofs.SearchLaws.by_central}

-- whether the pieces of a text spell an expression
abbrev spells : NumberBase → List ℕ → Bool
spells base text = is_subfield base (pieces_of text)

-- whether a part of a pattern is K, n, or fits only what spells an expression
abbrev is_part : NumberBase → List ℕ → Bool
is_part base part = same_text part (codes "K") || same_text part (codes "n") || is_text_pattern part && holds (spells base) part

is_nothing : {X : Type 0} (o : Option X) → is_some o ≡ false → o ≡ None
is_nothing None none = refl
is_nothing (Some x) none = absurd (true≢false none)

-- no part fits a text that spells none
part_unread : (base : NumberBase) (pattern text : List ℕ) (so_far : Match) (a b : Bool) → same_text pattern (codes "K") ≡ a → same_text pattern (codes "n") ≡ b → (a || b || is_text_pattern pattern && holds (spells base) pattern) ≡ true →
    spells base text ≡ false → subfield_matched base pattern (pieces_of text) so_far ≡ None
part_unread base pattern text so_far true b is_k is_n part unread = rw is_k (rw (is_nothing (expression_of base (pieces_of text)) unread) refl)
part_unread base pattern text so_far false true is_k is_n part unread = rw is_k (rw is_n (rw (is_nothing (expression_of base (pieces_of text)) unread) refl))
part_unread base pattern text so_far false false is_k is_n part unread =
    let parts = and_parts (is_text_pattern pattern) (holds (spells base) pattern) part in
    rw is_k (rw is_n (ap (with_field so_far.field) (matched-text pattern text so_far.ijk parts.0 ∙ fits_none (spells base) pattern text so_far.ijk parts.1 unread)))

-- whether there are as many texts as parts, and each spells an expression, as what came before did
abbrev do_spell : NumberBase → Bool → List (List ℕ) → List (List ℕ) → Bool
do_spell base before [] [] = before
do_spell base before (pattern ∷ patterns) (text ∷ texts) = do_spell base (before && spells base text) patterns texts
do_spell base before _ _ = false

one_unread : {X Y : Type 0} (a b : Bool) (x : X) (o : Option Y) → (a ≡ false → Some x ≡ None) → (b ≡ false → o ≡ None) → (a && b) ≡ false → o ≡ None
one_unread true b x o before here unread = here unread
one_unread false b x o before here unread = absurd (let none = before refl in cc)

-- what does not spell an expression for each part fits none
parts_unread : (base : NumberBase) (before : Bool) (patterns texts : List (List ℕ)) (o : Option Match) → list_all (is_part base) patterns ≡ true → (before ≡ false → o ≡ None) → do_spell base before patterns texts ≡ false →
    subfields_matched base patterns (map pieces_of texts) o ≡ None
parts_unread base before [] [] o parts none unread = none unread
parts_unread base before [] (text ∷ texts) o parts none unread = refl
parts_unread base before (pattern ∷ patterns) [] o parts none unread = refl
parts_unread base before (pattern ∷ patterns) (text ∷ texts) None parts none unread = refl
parts_unread base before (pattern ∷ patterns) (text ∷ texts) (Some so_far) parts none unread =
    let part = and_parts (is_part base pattern) (list_all (is_part base) patterns) parts in
    parts_unread base (before && spells base text) patterns texts (subfield_matched base pattern (pieces_of text) so_far) part.1
    (one_unread before (spells base text) so_far (subfield_matched base pattern (pieces_of text) so_far) none
    (part_unread base pattern text so_far (same_text pattern (codes "K")) (same_text pattern (codes "n")) refl refl part.0)) unread

-- one to three parts
abbrev are_few : List (List ℕ) → Bool
are_few (a ∷ []) = true
are_few (a ∷ b ∷ []) = true
are_few (a ∷ b ∷ c ∷ []) = true
are_few _ = false

few_spell : (base : NumberBase) (patterns texts : List (List ℕ)) → are_few patterns ≡ true → is_operand base (map pieces_of texts) ≡ false → do_spell base true patterns texts ≡ false
few_spell base (a ∷ []) (t ∷ []) few unread = unread
few_spell base (a ∷ b ∷ []) (t ∷ s ∷ []) few unread = unread
few_spell base (a ∷ b ∷ c ∷ []) (t ∷ s ∷ r ∷ []) few unread = unread
few_spell base patterns texts few unread = cc

-- whether the patterns of a row are one to three parts
abbrev is_lawful : NumberBase → Row → Bool
is_lawful base row = let parts = slice_split (λ c. eqb c 44) row.operand in are_few parts && list_all (is_part base) parts

row_unread : (base : NumberBase) (operation : List ℕ) (texts : List (List ℕ)) (row : Row) → is_lawful base row ≡ true → is_operand base (map pieces_of texts) ≡ false → row_fit base operation (map pieces_of texts) row ≡ None
row_unread base operation texts row lawful unread =
    let patterns = slice_split (λ c. eqb c 44) row.operand in
    let parts = and_parts (are_few patterns) (list_all (is_part base) patterns) lawful in
    ap (option_map (instruction_of row.code))
    (parts_unread base true patterns texts (with_field NoField (matched row.operation operation no_ijk)) parts.1 (λ e. absurd (true≢false e)) (few_spell base patterns texts parts.0 unread))

-- nor is their one subfield a sum
single_unread : (base : NumberBase) (subfields : List (List Piece)) → is_operand base subfields ≡ false → single base subfields ≡ None
single_unread base [] unread = refl
single_unread base (p ∷ []) unread = is_nothing (expression_of base p) unread
single_unread base (p ∷ q ∷ more) unread = refl

-- an operation that reads its operand has no row that ignores it
pub none_ignored : (operation : List ℕ) → list_any (λ (row : Row). is_operation row.operation operation) ignoring_rows ≡ false → None ≡ first_fit (map ignoring_fit (rows_for operation ignoring_rows))
none_ignored operation reads = sym (ap (λ rows. first_fit (map ignoring_fit rows)) (none-kept (λ (row : Row). is_operation row.operation operation) ignoring_rows reads))

-- no row fits what is no operand of one to three expressions, unless the operation ignores its operand
unread-none : (base : NumberBase) (operation : List ℕ) (texts : List (List ℕ)) → list_any (λ (row : Row). is_operation row.operation operation) ignoring_rows ≡ false →
    is_operand base (map pieces_of texts) ≡ false → central_of base operation (map pieces_of texts) ≡ None
unread-none base operation texts read unread =
    let subfields = map pieces_of texts in
    let is_row = λ (row : Row). is_operation row.operation operation in
    sym (by_central base operation subfields None
    (none_ignored operation read)
    (sym (ap (λ e. first_fit (map (sum_fit operation (sum_read e)) (sum_rows_for operation sum_rows))) (single_unread base subfields unread) ∙ no_sum-fits operation))
    (sym (ap first_fit (agree_on_kept (is_lawful base) is_row (row_fit base operation subfields) (λ row. no_fit) central_rows (λ row lawful is. row_unread base operation texts row lawful unread) refl)
    ∙ first_fit-none (filter is_row central_rows))))

-- the subfields of a field as texts
abbrev AreTexts : List (List Piece) → Type 0
AreTexts subfields = (texts : List (List ℕ)) × (subfields ≡ map pieces_of texts)

texts_left : (most : ℕ) (behind : List ℕ) → length behind ≤ most → AreTexts (subfields_left (text_behind behind))
texts_left most [] within = ([], refl)
texts_left zero (c ∷ text) within = absurd (omega (arith, within))
texts_left (suc most) (c ∷ text) within =
    let n = subfield_len AtStart 0 text in
    let rest = texts_left most (drop n text) (let left = length-drop n text in omega (arith, within, left)) in
    (take n text ∷ rest.0, field-cut text (take n text) (drop n text) n (text_behind (drop n text)) refl refl refl refl ∙ ap (λ others. pieces_of (take n text) ∷ others) rest.1)

-- the same of the variable field of a statement
pub field_unread-none : (base : NumberBase) (operation text : List ℕ) → list_any (λ (row : Row). is_operation row.operation operation) ignoring_rows ≡ false →
    is_operand base (subfields_of (pieces_of text)) ≡ false → central_of base operation (subfields_of (pieces_of text)) ≡ None
field_unread-none base operation text read unread =
    let cut = texts_left (length (44 ∷ text)) (44 ∷ text) (omega arith) in
    ap (central_of base operation) cut.1 ∙ unread-none base operation cut.0 read (sym (ap (is_operand base) cut.1) ∙ unread)
