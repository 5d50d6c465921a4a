use Rattle.std.proofs.{Common.{◌≡◌, ◌∙◌, List, ℕ, ap, sym, subst, refl}, lemmas.Result.IfOk-weaker}
use Rattle.definitions.specs.{Image.image_alone, Objects.object_of}
use Rattle.deck_listing.{specs.Joins.BlockWords.AreBlockWords, proofs.AloneSteps.{alone-linked, nothing, placed}, specs.Joins.Sheets.{room_of, text_of}, proofs.SheetSteps.grown}
use Rattle.deck_listing.proofs.sections.image.Goals as goal

pub into_text-requires : goal.into_text-requires
into_text-requires c =
    let object = object_of c.args.object.now in
    let base = c.args.base in
    let linked = alone-linked object c.parts.result.now.bases base c.parts.ensures.rows in
    let words = subst (λ linking. AreBlockWords linking object c.in_ok-blocks.blocks.items) linked c.in_ok-blocks.ensures.words in
    let made = c.push_section.ensures nothing (placed object base) (subst (AreBlockWords _ object) (sym c.as_slice.ensures.value) words) refl refl in
    ap room_of (grown c.new-text.result (image_alone object base) c.push_section.new.text made c.new-text.ensures)

pub returns : goal.returns
returns c =
    let object = object_of c.args.object.now in
    let base = c.args.base in
    let linked = alone-linked object c.parts.result.now.bases base c.parts.ensures.rows in
    let words = subst (λ linking. AreBlockWords linking object c.in_ok-blocks.blocks.items) linked c.in_ok-blocks.ensures.words in
    let made = c.push_section.ensures nothing (placed object base) (subst (AreBlockWords _ object) (sym c.as_slice.ensures.value) words) refl refl in
    IfOk-weaker c.into_text.result _ (λ (text : List ℕ). text ≡ image_alone object base) (λ text same. same ∙ ap text_of (grown c.new-text.result (image_alone object base) c.push_section.new.text made c.new-text.ensures)) c.into_text.ensures
