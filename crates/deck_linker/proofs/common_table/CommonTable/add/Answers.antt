use Rattle.std.{proofs.Common.{ℕ, List, Option, ap, ap₂, ◌∙◌}, specs.Map.lookup}
use Rattle.indexmap.specs.IndexMap.{insert_entry}
use Rattle.definitions.specs.{Characters.same_text, Layout.with_common}
use Rattle.deck_linker.{specs.Joins.CommonLengths.{lengths_shown, widened}, proofs.CommonLaws.with_common-shown}
use Rattle.deck_linker.proofs.common_table.CommonTable.add.Goals as goal

pub returns : goal.returns
returns c =
    let entries = c.self.inside.lengths.entries in
    let row = c.args.row.now in
    let name = c.new-key.ensures ∙ c.name.ensures in
    let words = c.widened-words.ensures
    ∙ ap₂ (λ (found : Option ℕ) (most : ℕ). widened found most) (c.copied.ensures ∙ c.get.ensures.value ∙ ap (λ (n : List ℕ). lookup (same_text n) entries) name) c.words.ensures in
    ap lengths_shown (c.in_ok-insert.ensures.entries ∙ ap₂ (λ (n : List ℕ) (most : ℕ). insert_entry same_text entries n most) name words)
    ∙ with_common-shown row entries
    ∙ ap (with_common row) c.self.view_is
