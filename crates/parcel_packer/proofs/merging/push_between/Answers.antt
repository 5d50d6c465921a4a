use Rattle.std.proofs.{Common.{◌<◌, drop, length, arith, get_or}, lemmas.List.drop_more}
use Rattle.parcel_packer.{specs.declared.word_spans.WordSpan.WordSpan, proofs.MergeLaws.{taking_none, taking_more, taking_last, taking_beyond}, proofs.RiseLaws.first_ends}
use Rattle.parcel_packer.proofs.merging.push_between.Goals as goal

abbrev none_read : WordSpan
none_read = record { offset = 0; count = 0; value = 0 }

pub loop-ahead-init : goal.loop-ahead-init
loop-ahead-init c = taking_none (drop c.args.place c.args.older.now) c.args.from c.args.to c.args.spans.now.items c.requires.rise

pub push_part-requires : goal.push_part-requires
push_part-requires c =
    let older = c.args.older.now in
    let ahead = c.loop-ahead.ahead in
    let inside : ahead < length older = omega arith in
    (first_ends _ _ _ _ _ (drop_more older ahead none_read inside) c.loop-ahead.invariant.left_rise).1

pub overflow_add-span : goal.overflow_add-span
overflow_add-span c =
    let older = c.args.older.now in
    let ahead = c.loop-ahead.ahead in
    let inside : ahead < length older = omega arith in
    let ends = (first_ends _ _ _ _ _ (drop_more older ahead none_read inside) c.loop-ahead.invariant.left_rise).1 in
    omega arith

pub returns-then-to-span : goal.returns-then-to-span
returns-then-to-span c =
    let older = c.args.older.now in
    let ahead = c.loop-ahead.ahead in
    let inside : ahead < length older = omega arith in
    let span = get_or older ahead none_read in
    taking_last _ _ _ _ _ _ _ span _ c.requires.order (drop_more older ahead none_read inside) c.in_ok-push_part.ensures (omega arith) (omega arith) c.loop-ahead.invariant

pub loop-ahead-preserved : goal.loop-ahead-preserved
loop-ahead-preserved c =
    let older = c.args.older.now in
    let ahead = c.loop-ahead.ahead in
    let inside : ahead < length older = omega arith in
    let span = get_or older ahead none_read in
    taking_more _ _ _ _ _ _ _ span _ c.requires.order (drop_more older ahead none_read inside) c.in_ok-push_part.ensures (omega arith) c.loop-ahead.invariant

pub returns-else-older-ahead : goal.returns-else-older-ahead
returns-else-older-ahead c =
    let older = c.args.older.now in
    let ahead = c.loop-ahead.ahead in
    let inside : ahead < length older = omega arith in
    taking_beyond _ _ _ _ _ _ (get_or older ahead none_read) _ c.requires.order (drop_more older ahead none_read inside) (omega arith) c.loop-ahead.invariant
