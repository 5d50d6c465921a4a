use Rattle.std.{proofs.Common.{◌<◌, ◌^◌, ◌++◌, arith, length, length-append}, specs.Prelude.flat_map}
use Rattle.deck_linker.{specs.Joins.InPieces.end_text, specs.Joins.Sections.deck_section, proofs.InPieceLaws.{parts-long, sent-few}}
use Rattle.deck_linker.proofs.linked_decks.LinkedDecks.write_image.Goals as goal

pub send_image-requires-clause-few : goal.send_image-requires-clause-few
send_image-requires-clause-few g c =
    let inside = c.self.inside in
    let long = parts-long inside.objects.items inside.layout inside.map c.self.invariant.layout_is c.self.invariant.map_is in
    omega (arith, long, c.self.invariant.few)

pub returns-clause-few : goal.returns-clause-few
returns-clause-few g c =
    let inside = c.self.inside in
    let sections = flat_map (deck_section inside.layout) inside.layout.decks in
    let long = parts-long inside.objects.items inside.layout inside.map c.self.invariant.layout_is c.self.invariant.map_is in
    let both = length-append sections (end_text inside.layout) in
    let few : length (sections ++ end_text inside.layout) < 2 ^ 63 = omega (arith, long, both, c.self.invariant.few) in
    sent-few _ _ (sections ++ end_text inside.layout) c.send_image.result few c.send_image.ensures.sends
