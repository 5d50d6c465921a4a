use Rattle.std.proofs.Common.{◌∙◌, ◌+◌, ◌≤◌, List, map, reverse, length, ap, sym, subst}
use Rattle.definitions.specs.{Objects.{Shown, shown_of}, Settling.{settle, settled_all}}
use Rattle.use_blocks.proofs.SizeLaws.{rows-few}
use Rattle.deck_assembler.{specs.Joins.Walks.{AreLinedAs, context_in, whole_of}, specs.declared.deck_lines.DeckLines.DeckLines, proofs.WalkLaws.{block-named, lined-step, reverse-step, stood-step}}
use Rattle.deck_assembler.proofs.deck_lines.DeckLines.add.Goals as goal

pub returns-clause-lined : goal.returns-clause-lined
returns-clause-lined c =
    λ known others earlier given is same taken sized has lined.
    let whole = whole_of c.args.view.now known others in
    let before = settled_all whole.deck.kind earlier in
    let settled = settle whole.deck.kind before given in
    let self = c.args.self.now in
    let few : length whole.rows ≤ 65 = subst (λ rows. length rows ≤ 65) (sym is.rows) (rows-few whole.deck.kind known) in
    let named = block-named c.rows.result.now whole.rows c.block.result.now settled.block c.block_index-block.result c.rows.ensures (c.block.ensures ∙ sized.sizing.block) c.block_index-block.ensures few has in
    let line = c.in_ok-line.ensures.line known others earlier given self.stood _ is same taken sized named in
    let new : DeckLines = record { lines = c.push.new.self; fields = c.statement_line.new.lists; stood = c.saturating_add-self.result; block = c.block_index-block.result } in
    subst (λ (shown : List Shown). AreLinedAs whole shown new) (sym (reverse-step (shown_of (context_in whole) settled) (map (shown_of (context_in whole)) before)))
    (lined-step whole (reverse (map (shown_of (context_in whole)) before)) (shown_of (context_in whole) settled) c.in_ok-line.line self new c.in_ok-push.ensures.items line.1
    (c.saturating_add-self.ensures ∙ stood-step self.stood c.args.sized.now.cards whole.cards sized.some sized.within is.few ∙ ap (λ n. self.stood + n) (sym c.in_ok-line.ensures.cards)) line.0 lined)
