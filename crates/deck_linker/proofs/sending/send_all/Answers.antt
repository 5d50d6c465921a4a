use Rattle.std.{proofs.Common.{◌++◌, ◌∙◌, sym, length-append}, specs.Prelude.flat_map}
use Rattle.deck_linker.{specs.Joins.InPieces.end_text, specs.Publishing.listings, specs.Joins.Sections.deck_section, proofs.ListedLaws.part-behind-all}
use Rattle.deck_linker.proofs.sending.send_all.Goals as goal

pub returns-in-Err-clause-sends : goal.returns-in-Err-clause-sends
returns-in-Err-clause-sends g c =
    let layout = c.args.layout.now in
    let listed = listings c.args.objects.now in
    part-behind-all _ _ _ (listed ++ c.args.map.now) (flat_map (deck_section layout) layout.decks ++ end_text layout) c.in_ok-front.front c.in-Err.broken.sent
    (c.in_ok-front.ensures.len ∙ sym (length-append listed c.args.map.now)) c.in_ok-front.ensures.sends c.in-Err.ensures.sends
