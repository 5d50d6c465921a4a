use Rattle.std.proofs.Common.{ℕ, ◌≡◌, ◌++◌, ◌∷◌, List, ap, sym, ◌∙◌}
use Rattle.indexmap.specs.IndexSet.{insert_key}
use Rattle.definitions.specs.{Lengths.BlockLength, Layout.{Common, commons_from, end_after_common, placed_common}}
use Rattle.deck_linker.{specs.Joins.CommonLengths.lengths_shown, specs.Joins.CommonSets.are_named_alike, proofs.CommonLaws.placed-more}
use Rattle.deck_linker.proofs.common_table.CommonTable.placed.Goals as goal

pub loop-name-preserved : goal.loop-name-preserved
loop-name-preserved c =
    let entries = c.self.inside.lengths.entries in
    let left = c.next.new.self in
    let before = c.loop-name.commons.keys in
    let end = c.loop-name.end in
    let block_of : List ℕ → BlockLength = λ name. record { name = name; words = c.in-Some.words.now } in
    let block : BlockLength = block_of c.in-Some.name.now in
    let name : c.name.result.now ≡ c.in-Some.name.now = c.name.ensures in
    let all : before ++ commons_from end (block ∷ lengths_shown left) ≡ commons_from c.args.base (lengths_shown entries) =
    ap (λ (rest : List (List ℕ × ℕ)). before ++ commons_from end (lengths_shown rest)) (sym c.in-Some.ensures.steps)
    ∙ c.loop-name.invariant.placed ∙ ap (commons_from c.args.base) (sym c.self.view_is) in
    let added : c.insert.new.self.keys ≡ insert_key are_named_alike before (placed_common end block) =
    c.in_ok-insert.ensures.keys
    ∙ ap (λ (common : Common). insert_key are_named_alike before common) (c.place_common-common.ensures.common ∙ ap (λ (n : List ℕ). placed_common end (block_of n)) name) in
    record {
      placed = ap (λ (behind : ℕ). c.insert.new.self.keys ++ commons_from behind (lengths_shown left))
          (c.place_common-common.ensures.end ∙ ap (λ (n : List ℕ). end_after_common end (block_of n)) name)
          ∙ placed-more before c.insert.new.self.keys c.args.base end block left entries all c.iter-name-items.ensures.unique added
          ∙ ap (commons_from c.args.base) c.self.view_is;
      within = c.place_common-common.ensures.within;
    }
