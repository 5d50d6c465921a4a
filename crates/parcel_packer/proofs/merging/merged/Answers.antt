use Rattle.std.proofs.{Common.{◌<◌, ◌≡◌, [], List, drop, length, arith, get_or, subst}, lemmas.List.{drop_more, drop_all}}
use Rattle.parcel_packer.{specs.Joins.Filling.IsMerging, specs.declared.word_spans.WordSpan.WordSpan, proofs.MergeLaws.{merging_all, merging_more}, proofs.RiseLaws.first_ends}
use Rattle.parcel_packer.proofs.merging.merged.Goals as goal

abbrev none_read : WordSpan
none_read = record { offset = 0; count = 0; value = 0 }

pub overflow_add-from : goal.overflow_add-from
overflow_add-from c =
    let newer = c.args.newer.now in
    let i = c.loop-next.next-index in
    let inside : i < length newer = omega arith in
    let ends = (first_ends _ _ _ _ _ (drop_more newer i none_read inside) c.loop-next.invariant.newer_rise).1 in
    omega arith

pub loop-next-preserved : goal.loop-next-preserved
loop-next-preserved c =
    let newer = c.args.newer.now in
    let i = c.loop-next.next-index in
    let inside : i < length newer = omega arith in
    merging_more _ _ _ _ _ _ _ _ (get_or newer i none_read) _ _ (drop_more newer i none_read inside) c.in_ok-push.ensures.items c.loop-next.invariant c.in_ok-place.ensures

pub returns : goal.returns
returns c =
    let newer = c.args.newer.now in
    let i = c.loop-next.next-index in
    let none : drop i newer ≡ [] = drop_all i newer (omega arith) in
    let Merging : List WordSpan → Type 0 = λ left. IsMerging newer c.args.older.now c.loop-next.spans.items left (drop c.loop-next.place c.args.older.now) c.loop-next.from in
    merging_all _ _ _ _ _ _ _ c.requires.newer c.requires.older (subst Merging none c.loop-next.invariant) c.in_ok-push_between.ensures
