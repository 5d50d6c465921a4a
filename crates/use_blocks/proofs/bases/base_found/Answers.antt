use Rattle.std.{proofs.Common.{◌∙◌, ℕ, List, Option, Some, ap}, specs.Map.lookup, specs.Option.{option_eq, option_map_or}}
use Rattle.definitions.specs.{Characters.same_text, Lengths.BlockRow}
use Rattle.use_blocks.{specs.Joins.KeyedRows.literals_base, proofs.RowLaws.base-found}
use Rattle.use_blocks.proofs.bases.base_found.Goals as goal

pub returns-in-Some : goal.returns-in-Some
returns-in-Some c keyed =
    let name = c.args.name.now in
    let entries = c.args.rows.now.entries in
    let base : Option BlockRow → ℕ = λ found. option_map_or (λ (row : BlockRow). row.base) found (literals_base name entries) in
    c.base.ensures
    ∙ ap base (c.in-Some.ensures.value ∙ ap (λ (n : List ℕ). lookup (option_eq same_text (Some n)) entries) c.new.ensures)
    ∙ base-found name entries keyed

pub returns-in-None : goal.returns-in-None
returns-in-None c keyed =
    let name = c.args.name.now in
    let entries = c.args.rows.now.entries in
    let base : Option BlockRow → ℕ = λ found. option_map_or (λ (row : BlockRow). row.base) found (literals_base name entries) in
    c.literals_base.ensures
    ∙ ap base (c.in-None.ensures.value ∙ ap (λ (n : List ℕ). lookup (option_eq same_text (Some n)) entries) c.new.ensures)
    ∙ base-found name entries keyed
