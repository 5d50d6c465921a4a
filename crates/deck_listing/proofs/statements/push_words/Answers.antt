use Rattle.std.proofs.Common.{◌≡◌, ◌/◌, ◌++◌, List, rules, ap, sym, ◌∙◌}
use Rattle.definitions.specs.{Kinds.{units, word_bits}, Listing.unlinked, Words.{cut, joined, width_of}}
use Rattle.operations.specs.Joins.OperationsAs.{operation_as}
use Rattle.statement_coder.specs.Joins.WordItems.{known_words}
use Rattle.deck_listing.{specs.Joins.WordLines.{fields_text, word_lines}, proofs.KnownWords.words-known}
use Rattle.deck_listing.proofs.statements.push_words.Goals as goal

pub returns : goal.returns
returns c =
    let parts = c.args.parts.now in
    let kind = parts.kind in
    let rows = parts.bases in
    let words = c.args.words.now in
    let text = c.args.text.now in
    let line = c.args.stored.now in
    let fields = known_words (word_bits kind) words in
    let same : word_lines kind (line.place / units kind) (cut (word_bits kind) (width_of fields / word_bits kind) (joined (unlinked rows) fields)) ≡ fields_text kind (unlinked rows) (operation_as line.operation) line.place fields =
    search rules in
    c.push_known_words.ensures ∙ ap (λ n. text ++ word_lines kind n words) (c.from.ensures ∙ ap (λ n. line.place / n) c.units.ensures)
    ∙ ap (λ (ws : List _). text ++ word_lines kind (line.place / units kind) ws) (sym (words-known kind rows words c.requires.fields))
    ∙ ap (λ (l : List _). text ++ l) same
