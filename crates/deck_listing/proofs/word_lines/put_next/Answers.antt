use Rattle.std.proofs.{Common.{◌∙◌, sym}, lemmas.Result.on_ok_weaker}
use Rattle.definitions.proofs.TextLaws.{same_text-refl}
use Rattle.deck_listing.proofs.RunSteps.{begun-runs, joined-runs, on_ok_by}
use Rattle.deck_listing.proofs.word_lines.put_next.Goals as goal

pub returns-then-line : goal.returns-then-line
returns-then-line g c =
    let parts = c.args.parts.now in
    on_ok_weaker c.begin_run.result
    (λ begun coded before follows.
    begun-runs parts.kind (g.L.Linking.linking c.args.linking.now) coded.settled.block c.args.words.now c.begin_run.new.self coded before follows.runs (same_text-refl coded.settled.block)
    (sym follows.is_coded.begins_run ∙ c.if-line.true) begun)
    c.begin_run.ensures.begun

pub returns : goal.returns
returns g c =
    let parts = c.args.parts.now in
    let line = c.args.line.now in
    let linking = g.L.Linking.linking c.args.linking.now in
    let old = c.args.words.now in
    let new = c.put_line.new.words in
    on_ok_by c.put_line.result _ _ _ _
    (λ kind earlier put coded before follows.
    joined-runs parts.kind parts.bases parts.fields linking coded.settled.block line old new coded before follows (same_text-refl coded.settled.block) c.if-line.false kind earlier
    put)
    c.put_line.ensures.kind c.put_line.ensures.earlier c.put_line.ensures.put
