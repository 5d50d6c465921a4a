use Rattle.std.{proofs.Common.{◌∙◌, List, ap, length, subst}, specs.Prelude.map}
use Rattle.definitions.specs.{Build.errors_in, DeckInput.Deck, Layout.{Layout, layout_of}, LinkLines.link_lines, Map.map_text, Objects.object_of}
use Rattle.deck_linker.{specs.Joins.InPieces.{DoFit, deck_text}, specs.Publishing.listings, proofs.InPieceLaws.linked-parts}
use Rattle.deck_linker.proofs.linked_decks.LinkedDecks.new.Goals as goal

pub invariant_of-result : goal.invariant_of-result
invariant_of-result c =
    let decks = c.args.objects.items in
    let layout = c.in_ok-layout.layout in
    let words = c.in_ok-words.words in
    let texts = c.in_ok-texts.texts in
    let told = c.in_ok-texts.ensures in
    let same = c.as_slice-2.ensures.value in
    let linked = c.in_ok-layout.ensures ∙ ap (λ (ds : List Deck). layout_of (map object_of ds)) (c.in_ok-shared.ensures ∙ c.as_slice.ensures.value) in
    linked-parts decks layout words.decks.items words.commons.items texts.map texts.sheet texts.errors texts.links texts.front.all texts.front.most texts.most
    linked c.in_ok-words.ensures.decks c.in_ok-words.ensures.commons
    (told.map ∙ ap map_text linked)
    (told.errors ∙ ap (λ (ds : List Deck). errors_in (map object_of ds)) same)
    (told.links ∙ ap (λ (l : Layout). length (link_lines l)) linked)
    (subst (λ (ds : List Deck). DoFit deck_text texts.front.most ds) same told.listings_fit)
    told.most told.sections_fit told.end_fits told.sheet
    (told.all ∙ ap (λ (ds : List Deck). length (listings ds)) same)
    told.few
