use Rattle.std.{proofs.Common.{ℕ, ◌≡◌, List, ℤ, Option, None, sym, ap, ◌∙◌}, specs.Option.option_or}
use Rattle.indexmap.specs.IndexMap.{get}
use Rattle.definitions.specs.Characters.{same_text}
use Rattle.deck_linker.{specs.Joins.Placing.entry_alone, proofs.EntryLaws.{entered-new, entered-again, none-is}}
use Rattle.deck_linker.proofs.entry_table.enter.Goals as goal

pub returns-in_ok-insert : goal.returns-in_ok-insert
returns-in_ok-insert c other =
    let found : List ℕ → Option ℤ = get same_text c.args.table.now in
    let none : found c.new-key.result ≡ None = none-is (found c.new-key.result) (sym c.if-not-contains_key.ensures) in
    c.in_ok-insert.ensures.updates.0 other
    ∙ entered-new found c.new-key.result c.args.value other none
    ∙ ap (λ (name : List ℕ). option_or (found other) (entry_alone other name c.args.value)) c.new-key.ensures

pub returns-else-not-contains_key : goal.returns-else-not-contains_key
returns-else-not-contains_key c other =
    let found : List ℕ → Option ℤ = get same_text c.args.table.now in
    entered-again found c.new-key.result c.args.value other (sym c.if-not-contains_key.ensures)
    ∙ ap (λ (name : List ℕ). option_or (found other) (entry_alone other name c.args.value)) c.new-key.ensures
