use Rattle.std.proofs.Common.{◌≡◌, ◌∙◌, List, ◌++◌, refl, ap, sym, subst}
use Rattle.definitions.specs.{Letters.{in_order, entry_letters}, StatementItems.{operand_items, items_of}, declared.letter.Letter.Letter}
use Rattle.statement_coder.{specs.Joins.Items.deck_with, specs.Joins.CodedItems.AreTold, specs.Joins.FieldLetters.field_letters, specs.Joins.Sizings.{location_in, origin_in}, proofs.CodingLaws.are_seen}
use Rattle.statement_coder.proofs.coding.coded.Goals as goal

pub returns-clause-items : goal.returns-clause-items
returns-clause-items g c =
    λ view settled all literals symbols words is taken.
    let read = c.args.read.now in
    let sizing = c.args.sizing.now in
    let before = c.args.list.now.items in
    let context = deck_with read.kind (g.B.BlockBases.rows c.args.bases.now) all literals in
    let seen = are_seen (g.S.FinalSymbols.symbols c.args.symbols.now) (g.S.FinalSymbols.literals c.args.symbols.now) (location_in read.kind sizing) (origin_in read.kind sizing) context settled symbols words is.location is.origin in
    let told = c.in_ok-told.ensures.told all literals settled settled.read.operand sizing seen taken.operand in
    subst (λ operation. AreTold read.kind settled.read.operand sizing c.placed.result before c.placed.new.list.items (items_of context settled operation)) (sym taken.operation)
    (c.placed.ensures.told read.kind view context settled before refl is told.0)

pub returns-clause-letters : goal.returns-clause-letters
returns-clause-letters g c =
    λ view settled all literals symbols words is taken.
    let read = c.args.read.now in
    let sizing = c.args.sizing.now in
    let context = deck_with read.kind (g.B.BlockBases.rows c.args.bases.now) all literals in
    let operand = settled.read.operand in
    let fields = operand_items context settled operand in
    let seen = are_seen (g.S.FinalSymbols.symbols c.args.symbols.now) (g.S.FinalSymbols.literals c.args.symbols.now) (location_in read.kind sizing) (origin_in read.kind sizing) context settled symbols words is.location is.origin in
    let told = c.in_ok-told.ensures.told all literals settled operand sizing seen taken.operand in
    let entries : List Letter = entry_letters read.kind all settled.read.operation operand in
    let entries_are : c.entry_letters-entries.result ≡ in_order entries =
    c.entry_letters-entries.ensures all operand symbols taken.operand ∙ ap (λ operation. in_order (entry_letters read.kind all operation operand)) (sym taken.operation) in
    c.union-letters.ensures settled.letters (entries ++ field_letters fields) (c.letters.ensures ∙ is.letters)
    (c.union.ensures entries (field_letters fields) entries_are told.1)
