use Rattle.std.proofs.Common.{◌+◌, List, subst}
use Rattle.text_ports.proofs.SendSteps.{IsPart}
use Rattle.definitions.specs.{Build.image_of, DeckInput.Deck}
use Rattle.deck_linker.proofs.ListedLaws.{part-behind-all}
use Rattle.asm_main.specs.{Joins.Outputs.{front_to, text_to, text_where}, Joins.Ways.decks_of, declared.texts.Chosen.Chosen}
use Rattle.asm_main.proofs.texts.write_chosen.Goals as goal

pub returns-in-Err-clause-sends : goal.returns-in-Err-clause-sends
returns-in-Err-clause-sends g c =
    let decks = decks_of c.args.built.now in
    let chosen = c.args.chosen in
    let old = g.W.Write.contents c.args.output.now.0 in
    let mid = g.W.Write.contents c.write_front.new.output.0 in
    let new = g.W.Write.contents c.write_image.new.output.0 in
    let more = c.in-Err.broken.sent in
    part-behind-all old mid new (front_to chosen decks) (text_where chosen.image (image_of decks)) c.in_ok-front.front more
    c.in_ok-front.ensures.len c.in_ok-front.ensures.sends
    (subst (λ (ds : List Deck). IsPart mid new (text_where chosen.image (image_of ds)) more) c.in_ok-front.ensures.unchanged c.in-Err.ensures.sends)

pub returns-in-Err-clause-whole : goal.returns-in-Err-clause-whole
returns-in-Err-clause-whole g c all =
    let decks = decks_of c.args.built.now in
    let old = g.W.Write.contents c.args.output.now.0 in
    let new = g.W.Write.contents c.write_image.new.output.0 in
    subst (λ (chosen : Chosen). IsPart old new (text_to chosen decks) (c.in_ok-front.front + c.in-Err.broken.sent)) all (returns-in-Err-clause-sends g c)
