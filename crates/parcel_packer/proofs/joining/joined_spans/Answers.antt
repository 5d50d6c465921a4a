use Rattle.std.proofs.{Common.{◌<◌, List, length, arith, get_or, subst}, lemmas.List.drop_more}
use Rattle.parcel_packer.{specs.Joins.Joining.IsJoining, specs.declared.word_spans.WordSpan.WordSpan, proofs.JoinLaws.{joining-more, joining-within}}
use Rattle.parcel_packer.proofs.joining.joined_spans.Goals as goal

abbrev none_read : WordSpan
none_read = record { offset = 0; count = 0; value = 0 }

pub push_joined-requires : goal.push_joined-requires
push_joined-requires c =
    let spans = c.args.spans.now in
    let i = c.loop-span.span-index in
    let inside : i < length spans = omega arith in
    let Joining : List WordSpan → Type 0 = λ left. IsJoining spans c.loop-span.joined.items left in
    joining-within _ _ _ (get_or spans i none_read) (subst Joining (drop_more spans i none_read inside) c.loop-span.invariant)

pub loop-span-preserved : goal.loop-span-preserved
loop-span-preserved c =
    let spans = c.args.spans.now in
    let i = c.loop-span.span-index in
    let inside : i < length spans = omega arith in
    let Joining : List WordSpan → Type 0 = λ left. IsJoining spans c.loop-span.joined.items left in
    joining-more _ _ _ _ (get_or spans i none_read) c.in_ok-push_joined.ensures (subst Joining (drop_more spans i none_read inside) c.loop-span.invariant)
