use Rattle.std.proofs.Common.{arith, rules, List, sym, subst}
use Rattle.definitions.specs.Kinds.{unit_bits}
use Rattle.parcel_packer.{specs.Joins.Spans.parcels_in_runs, specs.Joins.Filling.{IsFilled, latest_value}, specs.declared.word_spans.WordSpan.WordSpan, proofs.MergeLaws.{halves_rise, halves_filled, if_ok}}
use Rattle.parcel_packer.proofs.filling.+runs_words.Goals as goal

pub runs_words-requires : goal.runs_words-requires
runs_words-requires t c =
    let rise = halves_rise (unit_bits c.args.kind) c.args.runs.now c.split_at.result.0.now c.split_at.result.1.now _ c.split_at.ensures.front c.split_at.ensures.back c.requires in
    (first_of (omega arith, search rules), rise.0)

pub runs_words-requires-2 : goal.runs_words-requires-2
runs_words-requires-2 t c =
    let rise = halves_rise (unit_bits c.args.kind) c.args.runs.now c.split_at.result.0.now c.split_at.result.1.now _ c.split_at.ensures.front c.split_at.ensures.back c.requires in
    (first_of (omega arith, search rules), rise.1)

pub returns : goal.returns
returns t c =
    let kind = c.args.kind in
    let Early : List WordSpan → Type 0 = λ words. IsFilled (latest_value kind (parcels_in_runs (unit_bits kind) c.split_at.result.0.now)) words in
    let Late : List WordSpan → Type 0 = λ words. IsFilled (latest_value kind (parcels_in_runs (unit_bits kind) c.split_at.result.1.now)) words in
    let older = subst Early (sym c.as_slice-3.ensures.value) c.in_ok-older.ensures in
    let newer = subst Late (sym c.as_slice-2.ensures.value) c.in_ok-newer.ensures in
    if_ok c.merged.result _ _
    (λ words both. halves_filled kind (unit_bits kind) c.args.runs.now c.split_at.result.0.now c.split_at.result.1.now _ c.split_at.ensures.front c.split_at.ensures.back _ _ words.items older newer both)
    c.merged.ensures
