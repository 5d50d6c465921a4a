use Rattle.std.proofs.lemmas.Result.{on_ok_weaker}
use Rattle.deck_listing.proofs.BlockSteps.{all-runs, one-follows}
use Rattle.deck_listing.proofs.word_lines.put_coded.Goals as goal

pub put_next-requires : goal.put_next-requires
put_next-requires g c =
    let parts = c.args.parts.now in
    let next = c.requires.next in
    record {
      coded = next.coded;
      earlier = next.earlier;
      follows = one-follows parts.kind parts.bases parts.fields (g.L.Linking.linking c.args.linking.now) c.args.line.now c.args.blocks.now.items c.index_mut.result.now next.coded next.earlier
          c.index_mut.ensures.value next.follows;
    }

pub returns : goal.returns
returns g c =
    let parts = c.args.parts.now in
    let linking = g.L.Linking.linking c.args.linking.now in
    let line = c.args.line.now in
    let packed = c.args.blocks.now.items in
    on_ok_weaker c.put_next.result
    (λ put coded earlier follows.
    all-runs parts.kind parts.bases parts.fields linking line packed c.put_next.new.words coded earlier c.requires.names follows
    (put coded earlier (one-follows parts.kind parts.bases parts.fields linking line packed c.index_mut.result.now coded earlier c.index_mut.ensures.value follows)))
    c.put_next.ensures
