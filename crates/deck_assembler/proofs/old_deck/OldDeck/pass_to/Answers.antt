-- Its front goes on with each statement that is passed.
use Rattle.std.proofs.Common.{◌∙◌, ◌∷◌, List, arith, refl, sym, ap, subst}
use Rattle.definitions.specs.Cards.{Card}
use Rattle.deck_assembler.{specs.Joins.Agreements.{left, HasFront}, specs.declared.sized_statement.SizedStatement.SizedStatement, proofs.OldLaws.{front-same, same-again}, proofs.PieceMeetings.{piece-more, piece-same}}
use Rattle.deck_assembler.proofs.old_deck.OldDeck.pass_to.Goals as goal

pub returns-in-None-clause-front : goal.returns-in-None-clause-front
returns-in-None-clause-front c = λ cards has.
    front-same cards (left c.statements.self) (left c.next.new.self) c.statements.self c.next.new.self c.in-None.ensures.next c.next.ensures.same (c.statements.invariant.front cards has)

pub pass-requires : goal.pass-requires
pass-requires c =
    let some = c.statements.invariant.some in
    record {
      front = (some.0, left c.next.new.self, front-same some.0 (left c.statements.self) (c.in-Some.sized ∷ left c.next.new.self) c.statements.self c.next.new.self c.in-Some.ensures.next c.next.ensures.same some.1);
    }

pub statements-preserved : goal.statements-preserved
statements-preserved c =
    let here = c.next.ensures.same in
    let so_far = c.statements.invariant in
    let some = so_far.some in
    let after : (cards : List Card) → HasFront cards (left c.statements.self) c.statements.self → HasFront cards (left c.pass.new.self) c.pass.new.self = λ cards has. subst (λ (l : List SizedStatement). HasFront cards l c.pass.new.self) (sym c.pass.ensures.rest)
    (c.in_ok-pass-in-Some.ensures.front cards (left c.next.new.self)
    (front-same cards (left c.statements.self) (c.in-Some.sized ∷ left c.next.new.self) c.statements.self c.next.new.self c.in-Some.ensures.next here has)) in
    record {
      some = (some.0, after some.0 some.1);
      front = λ cards has. after cards (so_far.front cards has);
      piece = λ tail rest few piece.
          let more = c.if-self-count.false in
          piece-more c.statements.self c.next.new.self c.pass.new.self c.in-Some.sized tail rest c.in-Some.ensures.some here.ahead (ap (λ v. v.items) c.pass.ensures.begun) (ap (λ v. v.items) c.pass.ensures.pieces)
          c.in_ok-pass-in-Some.ensures.ahead (omega (arith, few, more)) (so_far.piece tail rest few piece);
      deck = same-again (same-again so_far.deck here.deck) c.pass.ensures.deck;
      stage = c.pass.ensures.stage ∙ here.stage ∙ so_far.stage;
    }

-- the same where what was passed had memory of its own
pub statements-preserved-in_ok-pass-in-Some : goal.statements-preserved-in_ok-pass-in-Some
statements-preserved-in_ok-pass-in-Some c =
    let here = c.next.ensures.same in
    let so_far = c.statements.invariant in
    let some = so_far.some in
    let after : (cards : List Card) → HasFront cards (left c.statements.self) c.statements.self → HasFront cards (left c.pass.new.self) c.pass.new.self = λ cards has. subst (λ (l : List SizedStatement). HasFront cards l c.pass.new.self) (sym c.pass.ensures.rest)
    (c.in_ok-pass-in-Some.ensures.front cards (left c.next.new.self)
    (front-same cards (left c.statements.self) (c.in-Some.sized ∷ left c.next.new.self) c.statements.self c.next.new.self c.in-Some.ensures.next here has)) in
    record {
      some = (some.0, after some.0 some.1);
      front = λ cards has. after cards (so_far.front cards has);
      piece = λ tail rest few piece.
          let more = c.if-self-count.false in
          piece-more c.statements.self c.next.new.self c.pass.new.self c.in-Some.sized tail rest c.in-Some.ensures.some here.ahead (ap (λ v. v.items) c.pass.ensures.begun) (ap (λ v. v.items) c.pass.ensures.pieces)
          c.in_ok-pass-in-Some.ensures.ahead (omega (arith, few, more)) (so_far.piece tail rest few piece);
      deck = same-again (same-again so_far.deck here.deck) c.pass.ensures.deck;
      stage = c.pass.ensures.stage ∙ here.stage ∙ so_far.stage;
    }

pub returns-in-None-clause-piece : goal.returns-in-None-clause-piece
returns-in-None-clause-piece c = λ tail rest few piece.
    let none = c.in-None.ensures.none refl in
    piece-same c.statements.self c.next.new.self tail rest none.0 none.1 c.next.ensures.same.ahead (c.statements.invariant.piece tail rest few piece)
