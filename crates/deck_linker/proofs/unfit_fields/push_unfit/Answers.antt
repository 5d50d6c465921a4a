use Rattle.std.{proofs.Common.{◌∙◌, List, ap, subst, sym}, specs.Prelude.reverse}
use Rattle.definitions.specs.declared.deck_kind.DeckKind.{DeckKind}
use Rattle.deck_objects.specs.{Joins.CodedLines.AreCoded, declared.lines.Line.Line}
use Rattle.deck_linker.{specs.Joins.Lines.with_lines, specs.Joins.UnfitLines.{AllAreKept, unfit_lines}, proofs.TextLaws.on_ok_along, proofs.UnfitLaws.{unfit-lines, all-kept}}
use Rattle.deck_linker.proofs.unfit_fields.push_unfit.Goals as goal

pub push_unfit_lines-requires : goal.push_unfit_lines-requires
push_unfit_lines-requires c =
    let parts = c.parts-parts.result.now in
    let facts = c.parts-parts.ensures.parts.1 in
    let Kept : List Line → Type 0 = λ lines. AllAreKept c.args.based.now.object.kind parts.fields lines in
    let Coded : DeckKind → Type 0 = λ kind. AreCoded kind parts.bases parts.fields parts.lines.items (reverse c.args.based.now.object.coded) in
    subst Kept (sym c.as_slice.ensures.value) (all-kept _ _ _ _ _ (subst Coded facts.kind facts.coded))

pub returns : goal.returns
returns c =
    let parts = c.parts-parts.result.now in
    let facts = c.parts-parts.ensures.parts.1 in
    let layout = c.args.layout.now in
    let based = c.args.based.now in
    let Coded : DeckKind → Type 0 = λ kind. AreCoded kind parts.bases parts.fields parts.lines.items (reverse based.object.coded) in
    let lines = ap (unfit_lines layout based parts.bases parts.fields) c.as_slice.ensures.value ∙ unfit-lines layout based parts.bases parts.fields parts.lines.items _ (subst Coded facts.kind facts.coded) in
    on_ok_along c.push_unfit_lines.result _ _ _ (ap (with_lines c.args.out.now) lines) c.push_unfit_lines.ensures
