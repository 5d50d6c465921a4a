use Rattle.std.{proofs.Common.{ℕ, List, ◌++◌, ◌∙◌, ap}, specs.Prelude.codes}
use Rattle.definitions.specs.{Listing.line, LinkLines.link_lines}
use Rattle.deck_linker.{specs.Joins.Lines.{Written, with_lines}, proofs.MapLaws.{map-whole, links-counted}}
use Rattle.deck_linker.proofs.map.with_map.Goals as goal

pub returns-clause-text : goal.returns-clause-text
returns-clause-text c =
    map-whole c.args.layout.now c.args.front c.push_front.new.text c.push_bytes.new.self c.push_link_lines.new.out c.in_ok-push_front.ensures
    (c.in_ok-push_link_lines.ensures ∙ ap (λ (w : Written). with_lines w (link_lines c.args.layout.now)) c.new-lines.ensures) (c.in_ok-push_bytes.ensures.ok ∙ ap (λ (t : List ℕ). t ++ line (codes "END")) c.into_text-text.ensures)

pub returns-clause-links : goal.returns-clause-links
returns-clause-links c = c.lines-links.ensures ∙ links-counted c.args.layout.now c.push_front.new.text c.push_link_lines.new.out (c.in_ok-push_link_lines.ensures ∙ ap (λ (w : Written). with_lines w (link_lines c.args.layout.now)) c.new-lines.ensures)
