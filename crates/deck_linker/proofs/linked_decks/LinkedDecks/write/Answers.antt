use Rattle.std.{proofs.Common.{◌++◌, ◌∙◌, ℕ, List, ap, ap₂, arith, length, subst, sym}, specs.Prelude.flat_map}
use Rattle.definitions.specs.{Build.build_of, DeckInput.Deck}
use Rattle.text_ports.specs.Joins.Sending.{Sends}
use Rattle.deck_linker.{specs.Joins.InPieces.end_text, specs.Publishing.listings, specs.Joins.Sections.deck_section, proofs.InPieceLaws.{parts-long, parts-whole}}
use Rattle.deck_linker.proofs.linked_decks.LinkedDecks.write.Goals as goal

pub send_all-requires-clause-few : goal.send_all-requires-clause-few
send_all-requires-clause-few g c =
    let inside = c.self.inside in
    let long = parts-long inside.objects.items inside.layout inside.map c.self.invariant.layout_is c.self.invariant.map_is in
    let listed = ap (λ (decks : List Deck). length (listings decks)) c.as_slice.ensures.value in
    let mapped = ap length c.as_slice-2.ensures in
    omega (arith, long, listed, mapped, c.self.invariant.few)

pub returns-clause-sends : goal.returns-clause-sends
returns-clause-sends g c =
    let inside = c.self.inside in
    let same =
    ap₂ (λ (decks : List Deck) (m : List ℕ). (listings decks ++ m) ++ (flat_map (deck_section inside.layout) inside.layout.decks ++ end_text inside.layout)) c.as_slice.ensures.value c.as_slice-2.ensures
    ∙ sym (parts-whole inside.objects.items inside.layout inside.map c.self.invariant.layout_is c.self.invariant.map_is)
    ∙ ap (λ (decks : List Deck). (build_of decks).text) c.self.view_is in
    subst (λ (text : List ℕ). Sends (g.W.Write.contents c.args.output.now.0) (g.W.Write.contents c.send_all.new.output.0) text c.send_all.result) same c.send_all.ensures.sends
