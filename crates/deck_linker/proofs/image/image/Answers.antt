use Rattle.std.{proofs.Common.{◌≡◌, ◌∙◌, ◌++◌, List, ℕ, ap}, specs.Prelude.flat_map, proofs.lemmas.Result.IfOk-weaker}
use Rattle.definitions.specs.Image.{image_text}
use Rattle.deck_listing.specs.Joins.Sheets.{room_of, text_of}
use Rattle.deck_linker.{specs.Joins.InPieces.end_text, specs.Joins.Sections.deck_section, proofs.ImageLaws.two-put}
use Rattle.deck_linker.proofs.image.image.Goals as goal

pub into_text-requires : goal.into_text-requires
into_text-requires c =
    let layout = c.args.layout.now in
    ap room_of (two-put c.new-text.result c.push_decks.new.text c.push_end.new.text (flat_map (deck_section layout) c.decks.result.now) (end_text layout) c.new-text.ensures c.in_ok-push_decks.ensures c.push_end.ensures)

pub returns : goal.returns
returns c =
    let layout = c.args.layout.now in
    let put = two-put c.new-text.result c.push_decks.new.text c.push_end.new.text (flat_map (deck_section layout) c.decks.result.now) (end_text layout) c.new-text.ensures c.in_ok-push_decks.ensures c.push_end.ensures in
    IfOk-weaker c.into_text.result _ (λ (text : List ℕ). text ≡ image_text layout) (λ text same. same ∙ ap text_of put ∙ ap (λ decks. flat_map (deck_section layout) decks ++ end_text layout) c.decks.ensures) c.into_text.ensures
