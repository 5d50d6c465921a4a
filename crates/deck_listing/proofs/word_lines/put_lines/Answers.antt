use Rattle.std.proofs.{Common.{◌≡◌, ℕ, ◌+◌, ◌<◌, List, ◌∷◌, drop, get_or, length, Vec, ap, sym, subst, ◌∙◌, arith}, lemmas.List.drop_more}
use Rattle.parcel_packer.specs.Joins.Packing.{Packed}
use Rattle.deck_listing.{specs.Joins.Walking.AreWalked, proofs.WalkSteps.{walked-first, walked-next, walked-on, walked-past}, proofs.word_lines.put_lines.Goals.{in-Some+in_ok-put_coded, in_default}}
use Rattle.deck_objects.specs.declared.lines.Line.{Line}
use Rattle.deck_listing.proofs.word_lines.put_lines.Goals as goal

-- the next line and the rest
at_line : (lines : List Line) (i : ℕ) (line : Line) → i < length lines → line ≡ get_or lines i line → drop i lines ≡ line ∷ drop (i + 1) lines
at_line lines i line h e = drop_more lines i line h ∙ ap (λ l. l ∷ drop (i + 1) lines) (sym e)

pub loop-line-init : goal.loop-line-init
loop-line-init g c = λ cards object are_parts.
    let parts = c.args.parts.now in
    subst (λ lines. AreWalked parts.kind parts.bases parts.fields (g.L.Linking.linking c.args.linking.now) object.coded lines c.args.blocks.now.items) (sym c.as_slice-line-items.ensures.value)
    (walked-first (g.L.Linking.linking c.args.linking.now) cards parts object c.args.blocks.now.items are_parts c.requires.empty)

pub put_coded-requires-clause-next : goal.put_coded-requires-clause-next
put_coded-requires-clause-next g c =
    let parts = c.args.parts.now in
    let lines = c.as_slice-line-items.result.now in
    let i = c.loop-line.line-index in
    let whole = c.requires.object in
    walked-next parts.kind parts.bases parts.fields (g.L.Linking.linking c.args.linking.now) whole.object.coded c.line-item.result c.in-Some.coded
    (drop (i + 1) lines) (drop i lines) c.loop-line.blocks.items (c.loop-line.invariant whole.cards whole.object whole.are_parts)
    (at_line lines i c.line-item.result (omega arith) c.line-item.is) c.in-Some.is

pub loop-line-preserved : goal.loop-line-preserved
loop-line-preserved g c = λ cards object are_parts.
    let parts = c.args.parts.now in
    let lines = c.as_slice-line-items.result.now in
    let i = c.loop-line.line-index in
    let linking = g.L.Linking.linking c.args.linking.now in
    let walked = c.loop-line.invariant cards object are_parts in
    let Walked : List Packed → Type 0 = λ packed. AreWalked parts.kind parts.bases parts.fields linking object.coded (drop (i + 1) lines) packed in
    let here = at_line lines i c.line-item.result (omega arith) c.line-item.is in
    elim c.match-line.branch [
      | in-Some+in_ok-put_coded w ↦ subst Walked (sym (ap (λ (b : Vec Packed _). b.items) w.blocks-is))
          (walked-on parts.kind parts.bases parts.fields linking object.coded c.line-item.result w.in-Some.coded (drop (i + 1) lines) (drop i lines)
          c.loop-line.blocks.items w.put_coded.new.blocks.items walked here w.in-Some.is w.in_ok-put_coded.ensures)
      | in_default w ↦ subst Walked (sym (ap (λ (b : Vec Packed _). b.items) w.blocks-is))
          (walked-past parts.kind parts.bases parts.fields linking object.coded c.line-item.result (drop (i + 1) lines) (drop i lines) c.loop-line.blocks.items walked here w.in_default.is)
    ]
