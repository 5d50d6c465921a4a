use Rattle.std.proofs.Common.{◌∙◌, ℕ, List, ap, subst}
use Rattle.text_ports.proofs.SendSteps.{IsPart}
use Rattle.deck_linker.{specs.Publishing.{listings, map_of}, proofs.ListedLaws.part-behind-all}
use Rattle.asm_main.specs.Joins.{Outputs.text_where, Ways.decks_of}
use Rattle.asm_main.proofs.texts.write_front.Goals as goal

pub returns-in-Err-clause-sends : goal.returns-in-Err-clause-sends
returns-in-Err-clause-sends g c =
    let decks = decks_of c.args.built.now in
    let chosen = c.args.chosen in
    let old = g.W.Write.contents c.args.output.now.0 in
    let mid = g.W.Write.contents c.write_listings.new.output.0 in
    let new = g.W.Write.contents c.put_all.new.output.0 in
    let more = c.in-Err.broken.sent in
    let same = c.where_chosen-map.ensures ∙ ap (text_where chosen.map) (c.map.ensures.text ∙ ap map_of c.in_ok-listed.ensures.unchanged) in
    part-behind-all old mid new (text_where chosen.listing (listings decks)) (text_where chosen.map (map_of decks)) c.in_ok-listed.listed more
    c.in_ok-listed.ensures.len c.in_ok-listed.ensures.sends (subst (λ (l : List ℕ). IsPart mid new l more) same c.in-Err.ensures.prefix)
