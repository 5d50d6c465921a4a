-- A statement that was the next one is the latest of the front.
use Rattle.std.proofs.Common.{◌≤◌, ◌∙◌, List, length, take, drop, refl, sym, ap, subst}
use Rattle.definitions.specs.{Cards.Card, Settling.{number_base_of, settle, settled_all}}
use Rattle.statement_coder.specs.Joins.StatementsRead.{IsRead}
use Rattle.use_blocks.specs.Joins.{Changes.IsAccepted, EffectsAs.{change_as, effect_as}}
use Rattle.deck_assembler.{specs.Joins.FirstSymbols.{symbol_in, with_defined}, proofs.DefinitionLaws.lawful-shape, proofs.OldLaws.{next-of, front-step}, proofs.SizerSteps.state-accepted}
use Rattle.deck_assembler.proofs.old_deck.OldDeck.pass.Goals as goal

pub advance-requires : goal.advance-requires
advance-requires c =
    let sized = c.args.sized.now in
    let old = c.args.self.now in
    let has = c.requires.front.2 in
    let next = next-of c.requires.front.0 sized c.requires.front.1 old has in
    record {
      accepted = subst (λ change. IsAccepted (change_as change) old.state) (sym c.effect.ensures.change)
          (state-accepted old.kind has.front next.statement has.stood (drop has.stood c.requires.front.0) sized old.state has.state next.is);
    }

pub returns-clause-front : goal.returns-clause-front
returns-clause-front c = λ cards later has.
    let sized = c.args.sized.now in
    let old = c.args.self.now in
    let next = next-of cards sized later old has in
    let all = settled_all old.kind has.front in
    let settled = settle old.kind all next.statement in
    let code = c.read-statement.result in
    let within = subst (λ (l : List Card). sized.cards ≤ length l) (sym has.ahead) next.is.within in
    let taken = c.next_cards.ensures.cards next.is.few within ∙ ap (take sized.cards) has.ahead ∙ next.is.cards in
    let read : IsRead old.kind next.statement.cards code = subst (λ (l : List Card). IsRead old.kind l code) taken c.read-statement.ensures in
    let operand = c.reading-reading.ensures.reading settled.read.operand next.is.kept in
    front-step cards sized later old (record { kind = old.kind; ahead = c.later_cards-self.result; statements = old.statements; pieces = old.pieces; before = old.before; behind = old.behind; stage = old.stage; state = c.advance.new.self; symbols = c.define.new.symbols; missed = old.missed }) has (effect_as c.effect.result) refl
    (c.later_cards-self.ensures within)
    (c.effect.ensures.effect old.kind next.statement (number_base_of all) _ settled read refl next.is.sizing)
    c.in_ok-advance.ensures.advanced
    (lawful-shape settled.read.operand c.reading-reading.result operand (c.reading-reading.ensures.lawful settled.read.operand next.is.kept))
    (c.in_ok-define.ensures.symbols settled.read.operand operand ∙ (λ i. with_defined (read.location i) settled.read.operand (c.defines-defines.ensures i) (symbol_in old.symbols)))
