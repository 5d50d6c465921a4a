use Rattle.std.{proofs.Common.{List, ◌+◌, ◌++◌, ℕ, subst}, specs.Prelude.flat_map}
use Rattle.definitions.specs.Layout.{Based}
use Rattle.text_ports.proofs.SendSteps.{IsPart}
use Rattle.deck_linker.{specs.Joins.InPieces.end_text, specs.Joins.Sections.deck_section, proofs.InPieceLaws.{clear-again, clear-text}, proofs.ListedLaws.part-behind-all}
use Rattle.deck_linker.proofs.sending.send_image.Goals as goal

pub returns-in-Err-clause-sends : goal.returns-in-Err-clause-sends
returns-in-Err-clause-sends g c =
    let layout = c.args.layout.now in
    let old = g.W.Write.contents c.args.output.now.0 in
    let mid = g.W.Write.contents c.send_sections.new.output.0 in
    let new = g.W.Write.contents c.send.new.output.0 in
    let more = c.in-Err.broken.sent in
    let text = clear-text c.args.sheet.now c.send_sections.new.sheet c.push_end.new.text (end_text layout) c.requires.clear c.in_ok-sections.ensures.sheet c.push_end.ensures in
    subst (λ (decks : List Based). IsPart old new (flat_map (deck_section layout) decks ++ end_text layout) (c.in_ok-sections.sections + more)) c.decks.ensures
    (part-behind-all old mid new (flat_map (deck_section layout) c.decks.result.now) (end_text layout) c.in_ok-sections.sections more c.in_ok-sections.ensures.len c.in_ok-sections.ensures.sends
    (subst (λ (l : List ℕ). IsPart mid new l more) text c.in-Err.ensures.sends))

pub returns-in-Ok-clause-sheet : goal.returns-in-Ok-clause-sheet
returns-in-Ok-clause-sheet g c =
    clear-again c.args.sheet.now c.send_sections.new.sheet c.push_end.new.text (end_text c.args.layout.now) c.requires.clear c.in_ok-sections.ensures.sheet c.push_end.ensures c.send.new.sheet c.in-Ok.ensures.clear

pub returns-in-Err-clause-sheet : goal.returns-in-Err-clause-sheet
returns-in-Err-clause-sheet g c =
    clear-again c.args.sheet.now c.send_sections.new.sheet c.push_end.new.text (end_text c.args.layout.now) c.requires.clear c.in_ok-sections.ensures.sheet c.push_end.ensures c.send.new.sheet c.in-Err.ensures.clear
