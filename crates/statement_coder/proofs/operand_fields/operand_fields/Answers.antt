use Rattle.std.proofs.Common.{◌≡◌, ◌∙◌, ◌*◌, ◌/◌, ◌++◌, List, length, map, flat_map, ap, sym, subst, rules}
use Rattle.definitions.specs.{Kinds.word_bits, Operands.{Operand, Datum, BitField, WordsOperand, BitsOperand, TextOperand}, StatementItems.{Item, operand_items}}
use Rattle.statement_coder.{specs.Joins.Items.{deck_with, item_as}, specs.Joins.CodedItems.AreCoded, specs.Joins.Readings.{IsReading, IsWhole}, specs.Joins.WordItems.in_words, proofs.ShapeLaws.instruction-coded, proofs.ToldLaws.{listed-coded, text-words}}
use Rattle.statement_coder.proofs.operand_fields.operand_fields.Goals as goal

pub returns-in-Instruction-clause-told : goal.returns-in-Instruction-clause-told
returns-in-Instruction-clause-told g c =
    λ settled literals statement operand sizing seen reading.
    instruction-coded (deck_with c.args.kind (g.B.BlockBases.rows c.args.bases.now) settled literals) statement c.in-Instruction.shape operand c.args.kind sizing c.instruction_fields.result c.args.list.now.items
    (subst (λ r. IsReading r operand) c.in-Instruction.is reading) (c.instruction_fields.ensures.coded settled literals statement seen)

pub returns-in_ok-push_data-in-Data-clause-told : goal.returns-in_ok-push_data-in-Data-clause-told
returns-in_ok-push_data-in-Data-clause-told g c =
    λ settled literals statement operand sizing seen reading.
    let kind = c.args.kind in
    let context = deck_with kind (g.B.BlockBases.rows c.args.bases.now) settled literals in
    let before = c.args.list.now.items in
    let after = c.push_data.new.list.items in
    let is : operand ≡ WordsOperand c.in-Data.words = subst (λ r. IsReading r operand) c.in-Data.is reading in
    let size : c.len-before.result ≡ length before = search rules in
    subst (λ (o : Operand). AreCoded kind o sizing c.listed.result before after (operand_items context statement o)) (sym is)
    (listed-coded kind (WordsOperand c.in-Data.words) sizing c.listed.result c.len-before.result before after (operand_items context statement (WordsOperand c.in-Data.words))
    c.listed.ensures.items c.listed.ensures.letters size c.push_data.ensures.kept
    (c.in_ok-push_data-in-Data.ensures.pushed settled literals statement seen
    ∙ ap (λ (words : List Datum). map item_as before ++ flat_map (in_words (word_bits kind)) (operand_items context statement (WordsOperand words))) c.copied.ensures))

pub returns-in_ok-push_con-in-Con-clause-told : goal.returns-in_ok-push_con-in-Con-clause-told
returns-in_ok-push_con-in-Con-clause-told g c =
    λ settled literals statement operand sizing seen reading.
    let kind = c.args.kind in
    let context = deck_with kind (g.B.BlockBases.rows c.args.bases.now) settled literals in
    let before = c.args.list.now.items in
    let after = c.push_con.new.list.items in
    let is : operand ≡ WordsOperand c.in-Con.words = subst (λ r. IsReading r operand) c.in-Con.is reading in
    let size : c.len-before.result ≡ length before = search rules in
    subst (λ (o : Operand). AreCoded kind o sizing c.listed-in-Con.result before after (operand_items context statement o)) (sym is)
    (listed-coded kind (WordsOperand c.in-Con.words) sizing c.listed-in-Con.result c.len-before.result before after (operand_items context statement (WordsOperand c.in-Con.words))
    c.listed-in-Con.ensures.items c.listed-in-Con.ensures.letters size c.push_con.ensures.kept
    (c.in_ok-push_con-in-Con.ensures.pushed settled literals statement seen
    ∙ ap (λ (words : List Datum). map item_as before ++ flat_map (in_words (word_bits kind)) (operand_items context statement (WordsOperand words))) c.copied-in-Con.ensures))

pub returns-in_ok-push_bits-in-Vfd-clause-told : goal.returns-in_ok-push_bits-in-Vfd-clause-told
returns-in_ok-push_bits-in-Vfd-clause-told g c =
    λ settled literals statement operand sizing seen reading.
    let kind = c.args.kind in
    let context = deck_with kind (g.B.BlockBases.rows c.args.bases.now) settled literals in
    let before = c.args.list.now.items in
    let after = c.push_bits.new.list.items in
    let is : operand ≡ BitsOperand c.in-Vfd.fields = subst (λ r. IsReading r operand) c.in-Vfd.is reading in
    let size : c.len-before.result ≡ length before = search rules in
    subst (λ (o : Operand). AreCoded kind o sizing c.listed-in-Vfd.result before after (operand_items context statement o)) (sym is)
    (listed-coded kind (BitsOperand c.in-Vfd.fields) sizing c.listed-in-Vfd.result c.len-before.result before after (operand_items context statement (BitsOperand c.in-Vfd.fields))
    c.listed-in-Vfd.ensures.items c.listed-in-Vfd.ensures.letters size c.push_bits.ensures.kept
    (c.in_ok-push_bits-in-Vfd.ensures.pushed settled literals statement seen
    ∙ ap (λ (fields : List BitField). map item_as before ++ operand_items context statement (BitsOperand fields)) c.copied-in-Vfd.ensures))

pub returns-in_ok-push_text-in-Text-clause-told : goal.returns-in_ok-push_text-in-Text-clause-told
returns-in_ok-push_text-in-Text-clause-told g c =
    λ settled literals statement operand sizing seen reading.
    let kind = c.args.kind in
    let context = deck_with kind (g.B.BlockBases.rows c.args.bases.now) settled literals in
    let before = c.args.list.now.items in
    let after = c.push_text.new.list.items in
    let text = c.in-Text.text in
    let is : operand ≡ TextOperand text.words text.characters = subst (λ r. IsReading r operand) c.in-Text.is reading in
    let whole : length text.characters ≡ text.words * (word_bits kind / 6) = subst (λ r. IsWhole kind r) c.in-Text.is c.requires in
    let size : c.len-before.result ≡ length before = search rules in
    subst (λ (o : Operand). AreCoded kind o sizing c.listed-in-Text.result before after (operand_items context statement o)) (sym is)
    (listed-coded kind (TextOperand text.words text.characters) sizing c.listed-in-Text.result c.len-before.result before after (operand_items context statement (TextOperand text.words text.characters))
    c.listed-in-Text.ensures.items c.listed-in-Text.ensures.letters size c.push_text.ensures.kept
    (c.in_ok-push_text-in-Text.ensures.pushed
    ∙ ap (λ (fields : List Item). map item_as before ++ fields) (text-words kind text.words text.characters c.push_text.ensures.some whole)))
