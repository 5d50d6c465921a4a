use Rattle.std.proofs.{Common.{◌-◌, ◌+◌, ◌<◌, [], ◌∷◌, ◌++◌, ◌∙◌, length, take, sym, ap, arith, set}, Math.ListN.length-set, lemmas.List.{take_all, take_more, take_more_set}}
use Rattle.parcel_packer.{specs.declared.word_spans.WordSpan.WordSpan, proofs.JoinLaws.{pushed-behind, pushed-joined}}
use Rattle.parcel_packer.proofs.joining.push_joined.Goals as goal

pub returns-in-Some : goal.returns-in-Some
returns-in-Some c =
    let old = c.args.spans.now.items in
    let last = c.len-len.result - 1 in
    let more = c.in-Some.more in
    let inside : last < length old = omega arith in
    pushed-joined old (take last old) (set old last more) c.index.result.now c.args.next more
    (sym (take_all (last + 1) old (omega arith)) ∙ take_more old last c.index.result.now inside ∙ ap (λ (s : WordSpan). take last old ++ s ∷ []) (sym c.index.ensures))
    (sym (take_all (last + 1) (set old last more) (omega (arith, length-set old last more))) ∙ take_more_set old last more inside)
    c.in-Some.ensures

pub returns : goal.returns
returns c = pushed-behind c.args.spans.now.items c.push.new.self.items c.args.next c.in_ok-push.ensures.items
