-- The blocks of a deck have different names, and none has that of the literals' block.
use Rattle.std.{proofs.Common.{ℕ, ◌≡◌, ◌+◌, Bool, true, false, ◌||◌, List, [], ◌∷◌, ◌++◌, length, Option, Some, None, refl, sym, ap, ap₂, subst, ◌∙◌, inl, inr}, specs.Prelude.{nat_le, nat_eq, map, reverse, take_while, drop, not, if◌then◌else◌}, specs.Cmp.IsEquivalence, specs.List.IsDistinct, proofs.lemmas.List.{map-append, append-nil}, proofs.lemmas.List.Folds.list_any-append, proofs.lemmas.Map.Keys.IsDistinct-push}
use Rattle.definitions.{specs.Characters.{is_among, same_text, slash, comma}, specs.DeckInput.Deck, specs.DeckKinds.{kind_of_statements, up_to_end}, specs.Statements.{Statement, statements_of}, specs.Pieces.{Piece, pieces_of, subfields_of}, specs.Kinds.allows_literals, specs.Symbols.{is_block_name, number_read}, specs.Expressions.Expression, specs.PeripheralTable.{PeripheralForm, Ignored, Long, PeripheralRow, peripheral_row}, specs.Matching.{Instruction, central_of}, specs.Operations.Operation, specs.Operands.{Operand, Datum, BitField, Unread, BadOperand, ValueOperand, UseName, UseBefore, UseRefused, plain_of, all_read, data_word, con_word, vfd_field, words_operand, bits_operand, count_read, text_operand, dis_operand, one_value, is_common_name, common_operand, use_operand, base_operand, central_operand, one_or_two, just_one, by_form, peripheral_operand, instruction_operand, operand_of}, specs.Settled.{Settled, BlockChange, NoChange, Opens, Closes}, specs.Settling.{seen_of, settle, settled_all}, specs.Blocks.{nominal, literals_block, changes, is_named, with_opened, blocks_used, is_accepted, change_of}, specs.Lengths.{BlockLength, BlockRow, length_of, lengths_of, placed_row, local_words, rows_from, total_length, literals_row, rows_of}, specs.Literals.literal_words, specs.Objects.object_of, specs.declared.deck_kind.DeckKind.DeckKind, specs.declared.deck_kind.DeckKind.TheVariants.{Rel, Abs, Periph}, specs.declared.number_base.NumberBase.NumberBase, proofs.WordLaws.picked_cond, proofs.TextLaws.{same_text-refl, same_text-true, same_text_tells}, proofs.OperandLaws.{IsValue, one_value-value}}
use Rattle.definitions.specs.Operations as op

same_text-turned : (a b : List ℕ) → same_text a b ≡ same_text b a
same_text-turned a b = elim (same_text_tells a b) [
  | inl same ↦ rw same.1 refl
  | inr other ↦ elim (same_text_tells b a) [ inl same ↦ absurd (other.1 (sym same.1)) | inr turned ↦ other.0 ∙ sym turned.0 ]
]

same_text-congruent : (a b c : List ℕ) → same_text a b ≡ true → same_text a c ≡ same_text b c
same_text-congruent a b c e = ap (λ text. same_text text c) (same_text-true a b e)

texts_equivalent : IsEquivalence same_text
texts_equivalent = record { refl = same_text-refl; symm = same_text-turned; congr = same_text-congruent }

-- a name that is not that of the literals' block
abbrev IsOther : List ℕ → Type 0
IsOther name = same_text literals_block name ≡ false

-- what the literals' name does not pass is another name
other_of : (test : List ℕ → Bool) (name : List ℕ) → test literals_block ≡ false → test name ≡ true → IsOther name
other_of test name fails passes = elim (same_text_tells literals_block name) [
  | inl same ↦ let here : test name ≡ false = subst (λ text. test text ≡ false) same.1 fails in cc
  | inr other ↦ other.0
]

-- an operand that opens no block of that name
abbrev OpensOther : Operand → Type 0
OpensOther (UseName name) = IsOther name
OpensOther _ = Unit {0}

picked_name : (test : List ℕ → Bool) (name : List ℕ) (operand : Operand) → test literals_block ≡ false → OpensOther operand → OpensOther (if test name then UseName name else operand)
picked_name test name operand fails other = step (test name) refl
  where
    step : (t : Bool) → test name ≡ t → OpensOther (if t then UseName name else operand)
    step true passes = other_of test name fails passes
    step false fails = other

common_operand-other : (kind : DeckKind) (text : List ℕ) → OpensOther (common_operand kind text)
common_operand-other Rel text = picked_name is_common_name text UseRefused refl tt
common_operand-other Abs text = tt
common_operand-other Periph text = tt

use_operand-other : (kind : DeckKind) (text : List ℕ) → OpensOther (use_operand kind text)
use_operand-other kind [] = refl
use_operand-other kind (c ∷ cs) =
    picked_cond OpensOther (is_among slash (c ∷ cs)) _ _ (common_operand-other kind (c ∷ cs))
    (picked_cond OpensOther (same_text (c ∷ cs) (42 ∷ [])) UseBefore _ tt (picked_name is_block_name (c ∷ cs) BadOperand refl tt))

base_operand-other : (text : List ℕ) → OpensOther (base_operand text)
base_operand-other text = picked_cond OpensOther (same_text text (79 ∷ [])) Unread _ tt (picked_cond OpensOther (same_text text (68 ∷ [])) Unread BadOperand tt tt)

value-other : (operand : Operand) → IsValue operand → OpensOther operand
value-other BadOperand h = tt
value-other (ValueOperand e) h = tt
value-other _ h = absurd h

one_value-other : (base : NumberBase) (subfields : List (List Piece)) → OpensOther (one_value base subfields)
one_value-other base subfields = value-other (one_value base subfields) (one_value-value base subfields)

words_operand-other : (words : Option (List Datum)) → OpensOther (words_operand words)
words_operand-other None = tt
words_operand-other (Some words) = tt

bits_operand-other : (fields : Option (List BitField)) → OpensOther (bits_operand fields)
bits_operand-other None = tt
bits_operand-other (Some fields) = tt

text_operand-other : (kind : DeckKind) (count : Option ℕ) (text : List ℕ) → OpensOther (text_operand kind count text)
text_operand-other kind None text = tt
text_operand-other kind (Some count) text = tt

dis_operand-other : (kind : DeckKind) (base : NumberBase) (text : List ℕ) → OpensOther (dis_operand kind base text)
dis_operand-other kind base text =
    let count = take_while (λ c. not (nat_eq c comma)) text in
    picked_cond OpensOther (nat_le (1 + length count) (length text)) _ _ (text_operand-other kind (count_read 100 (number_read base count)) (drop (1 + length count) text)) tt

central_operand-other : (instruction : Option Instruction) → OpensOther (central_operand instruction)
central_operand-other None = tt
central_operand-other (Some instruction) = tt

one_or_two-other : (row : PeripheralRow) (values : List (Option Expression)) → OpensOther (one_or_two row values)
one_or_two-other row (Some m ∷ []) = tt
one_or_two-other row (Some m ∷ Some d ∷ []) = tt
one_or_two-other row _ = tt

just_one-other : (row : PeripheralRow) (values : List (Option Expression)) → OpensOther (just_one row values)
just_one-other row (Some d ∷ []) = tt
just_one-other row _ = tt

by_form-other : (row : PeripheralRow) (form : PeripheralForm) (values : List (Option Expression)) → OpensOther (by_form row form values)
by_form-other row Ignored values = tt
by_form-other row Long values = one_or_two-other row values
by_form-other row _ values = just_one-other row values

peripheral_operand-other : (base : NumberBase) (row : Option PeripheralRow) (subfields : List (List Piece)) → OpensOther (peripheral_operand base row subfields)
peripheral_operand-other base None subfields = tt
peripheral_operand-other base (Some row) subfields = by_form-other row row.form (map (plain_of false base) subfields)

instruction_operand-other : (kind : DeckKind) (base : NumberBase) (name : List ℕ) (subfields : List (List Piece)) → OpensOther (instruction_operand kind base name subfields)
instruction_operand-other Rel base name subfields = central_operand-other (central_of base name subfields)
instruction_operand-other Abs base name subfields = central_operand-other (central_of base name subfields)
instruction_operand-other Periph base name subfields = peripheral_operand-other base (peripheral_row name) subfields

-- no operand opens a block of that name
operand_of-other : (kind : DeckKind) (base : NumberBase) (operation : Operation) (name text : List ℕ) → OpensOther (operand_of kind base operation name text)
operand_of-other kind base op.Base name text = base_operand-other text
operand_of-other kind base op.Use name text = use_operand-other kind text
operand_of-other kind base op.Org name text = one_value-other base (subfields_of (pieces_of text))
operand_of-other kind base op.Loc name text = one_value-other base (subfields_of (pieces_of text))
operand_of-other kind base op.Equ name text = one_value-other base (subfields_of (pieces_of text))
operand_of-other kind base op.Bss name text = one_value-other base (subfields_of (pieces_of text))
operand_of-other kind base op.Bssz name text = one_value-other base (subfields_of (pieces_of text))
operand_of-other kind base op.Data name text = words_operand-other (all_read (data_word base) (subfields_of (pieces_of text)))
operand_of-other kind base op.Con name text = words_operand-other (all_read (con_word (allows_literals kind) base) (subfields_of (pieces_of text)))
operand_of-other kind base op.Vfd name text = bits_operand-other (all_read (vfd_field (allows_literals kind) base) (subfields_of (pieces_of text)))
operand_of-other kind base op.Dis name text = dis_operand-other kind base text
operand_of-other kind base op.Entry name text = tt
operand_of-other kind base op.Ext name text = tt
operand_of-other kind base op.Instruction name text = instruction_operand-other kind base name (subfields_of (pieces_of text))
operand_of-other kind base _ name text = tt

-- a change that opens no block of that name
abbrev IsOtherChange : BlockChange → Type 0
IsOtherChange (Opens name) = IsOther name
IsOtherChange _ = Unit {0}

change_of-other : (operand : Operand) (names : List (List ℕ)) → OpensOther operand → IsOtherChange (change_of operand names)
change_of-other (UseName name) names h = picked_cond IsOtherChange (is_accepted name names) (Opens name) NoChange h tt
change_of-other UseBefore names h = tt
change_of-other _ names h = tt

settle-other : (kind : DeckKind) (earlier : List Settled) (statement : Statement) → IsOtherChange (settle kind earlier statement).change
settle-other kind earlier statement =
    let seen = seen_of earlier in
    let settled = settle kind earlier statement in
    change_of-other settled.read.operand seen.blocks
    (operand_of-other kind seen.number_base settled.read.operation settled.read.fields.operation settled.read.fields.variable)

-- what does not stand in front or behind stands nowhere
unnamed_pushed : (name other : List ℕ) (names : List (List ℕ)) → is_named name names ≡ false → same_text name other ≡ false → is_named name (names ++ other ∷ []) ≡ false
unnamed_pushed name other names h e = list_any-append (λ (text : List ℕ). same_text name text) names (other ∷ []) ∙ ap₂ (λ (a b : Bool). a || (b || false)) h e

-- no block that is used has that name
with_opened-other : (change : BlockChange) (names : List (List ℕ)) → IsOtherChange change → is_named literals_block names ≡ false → is_named literals_block (with_opened change names) ≡ false
with_opened-other NoChange names h e = e
with_opened-other Closes names h e = e
with_opened-other (Opens name) names h e =
    picked_cond (λ all. is_named literals_block all ≡ false) (is_named name names) names (names ++ name ∷ []) e (unnamed_pushed literals_block name names e h)

used-other : (kind : DeckKind) (statements : List Statement) → is_named literals_block (blocks_used (changes (settled_all kind statements))) ≡ false
used-other kind [] = refl
used-other kind (statement ∷ statements) =
    let earlier = settled_all kind statements in
    let settled = settle kind earlier statement in
    with_opened-other settled.change (blocks_used (changes earlier)) (settle-other kind earlier statement) (used-other kind statements)

-- the blocks that are used have different names
with_opened-distinct : (change : BlockChange) (names : List (List ℕ)) → IsDistinct same_text names → IsDistinct same_text (with_opened change names)
with_opened-distinct NoChange names h = h
with_opened-distinct Closes names h = h
with_opened-distinct (Opens name) names h = step (is_named name names) refl
  where
    step : (t : Bool) → is_named name names ≡ t → IsDistinct same_text (if t then names else names ++ name ∷ [])
    step true e = h
    step false e = IsDistinct-push texts_equivalent names name h e

one_distinct : (name : List ℕ) → IsDistinct same_text (name ∷ [])
unfolding IsDistinct
one_distinct name = (tt, tt)

used-distinct : (done : List BlockChange) → IsDistinct same_text (blocks_used done)
used-distinct [] = one_distinct nominal
used-distinct (change ∷ done) = with_opened-distinct change (blocks_used done) (used-distinct done)

-- the names of rows
abbrev row_names : List BlockRow → List (List ℕ)
row_names rows = map (λ (row : BlockRow). row.name) rows

names_of_rows : (base : ℕ) (blocks : List BlockLength) → row_names (rows_from base blocks) ≡ map (λ (block : BlockLength). block.name) blocks
names_of_rows base [] = refl
names_of_rows base (block ∷ blocks) = ap (λ names. block.name ∷ names) (names_of_rows (base + local_words (placed_row base block)) blocks)

names_of_lengths : (kind : DeckKind) (settled : List Settled) (names : List (List ℕ)) →
    map (λ (block : BlockLength). block.name) (map (λ (name : List ℕ). (let block : BlockLength = record { name = name; words = length_of kind name settled } in block)) names) ≡ names
names_of_lengths kind settled [] = refl
names_of_lengths kind settled (name ∷ names) = ap (λ others. name ∷ others) (names_of_lengths kind settled names)

-- the literals stand behind the blocks under a name of their own
distinct_behind : (names : List (List ℕ)) (base : ℕ) (literals : List ℕ) → IsDistinct same_text names → is_named literals_block names ≡ false → IsDistinct same_text (names ++ row_names (literals_row base literals))
distinct_behind names base [] h e = rw (append-nil names) h
distinct_behind names base (word ∷ words) h e = IsDistinct-push texts_equivalent names literals_block h e

rows-distinct : (blocks : List BlockLength) (names : List (List ℕ)) (literals : List ℕ) → map (λ (block : BlockLength). block.name) blocks ≡ names →
    IsDistinct same_text names → is_named literals_block names ≡ false → IsDistinct same_text (row_names (rows_of blocks literals))
rows-distinct blocks names literals same h e =
    let base = total_length (rows_from 0 blocks) in
    let parted : row_names (rows_of blocks literals) ≡ names ++ row_names (literals_row base literals) =
    map-append (λ (row : BlockRow). row.name) (rows_from 0 blocks) (literals_row base literals)
    ∙ ap (λ front. front ++ row_names (literals_row base literals)) (names_of_rows 0 blocks ∙ same) in
    subst (IsDistinct same_text) (sym parted) (distinct_behind names base literals h e)

-- the blocks of an object have different names
pub object-blocks : (deck : Deck) → IsDistinct same_text (map (λ (row : BlockRow). row.name) (object_of deck).rows)
object-blocks deck =
    let statements = up_to_end (statements_of (reverse deck.cards)) in
    let kind = kind_of_statements statements in
    let settled = settled_all kind statements in
    let names = blocks_used (changes settled) in
    rows-distinct (lengths_of kind settled) names (literal_words settled) (names_of_lengths kind settled names) (used-distinct (changes settled)) (used-other kind statements)
