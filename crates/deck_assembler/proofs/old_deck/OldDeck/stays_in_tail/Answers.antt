-- Where all that is left stays, so does the next statement, and all behind it.
use Rattle.std.proofs.Common.{◌≡◌, ◌∷◌, ◌++◌, ◌∙◌, List, true≢false, sym, subst}
use Rattle.cards.specs.Joins.Spans.{statement_at}
use Rattle.definitions.specs.Statements.{Statement}
use Rattle.deck_assembler.{specs.Joins.Agreements.left, specs.Joins.DeckParts.sized_in, specs.Joins.Meetings.WillAgreeAt, specs.Joins.OldDecks.IsAtStage, proofs.DueLaws.{IsNextAlike, next-cut, next-first, next-same}, proofs.MeetLaws.{goes-on, soon-next, tail-next, tail-stays}, proofs.OldLaws.{at_stage, same-again, same-at}}
use Rattle.deck_assembler.specs.declared.old_deck.Stage.TheVariants as stages
use Rattle.deck_assembler.proofs.old_deck.OldDeck.stays_in_tail.Goals as goal

pub returns-then-is_next_as : goal.returns-then-is_next_as
returns-then-is_next_as c = λ cards sizer.
    let deck = c.args.self.now in
    let begun = c.begin_piece.new.self in
    let span = c.args.span in
    let all = c.begin_piece.ensures.same in
    let rest = sym c.begin_piece.ensures.rest in
    record {
      some = c.is_next_as.ensures.some c.if-is_next_as.true;
      that = λ sized others first kind old earlier on.
          let here = subst (IsAtStage kind old cards earlier deck) c.requires on.kept_on.standing in
          let count = c.is_next_as.ensures.count c.if-is_next_as.true sized others first in
          let both = tail-stays kind old cards earlier span deck sized (others ++ sized_in begun.pieces.items) on.next here (rest ∙ (λ i. first i ++ sized_in begun.pieces.items)) count in
          (both.0, (count, both.1));
      behind = λ sized next first pieces same.
          let count = c.is_next_as.ensures.count c.if-is_next_as.true sized next.statements.items first in
          let e : left deck ≡ sized ∷ left next = rest ∙ (λ i. first i ++ sized_in (pieces i)) in
          let ahead_of = same.ahead ∙ all.ahead in
          let stage = same.stage ∙ all.stage ∙ c.requires in
          record {
            on = λ kind old earlier on.
                let now : List Statement = statement_at cards span ∷ earlier in
                let here = subst (IsAtStage kind old cards earlier deck) c.requires on.kept_on.standing in
                goes-on kind old cards earlier now span sizer deck next on (same-again all.deck same.deck)
                (subst (IsAtStage kind old cards now next) (sym stage) (tail-next kind old cards earlier span deck next sized on.next here e ahead_of count));
            front = λ kind old earlier on goes.
                let front = goes.stands.stage in
                let tail = c.requires in
                absurd (cc);
            due = λ kind old earlier limit on known will.
                let cut = subst (WillAgreeAt kind old cards limit earlier deck) c.requires will in
                let alike = subst (IsNextAlike cards earlier span) e (next-cut cards earlier span limit deck known cut.0) in
                record {
                  sized = λ none. absurd cc;
                  will = subst (WillAgreeAt kind old cards limit (statement_at cards span ∷ earlier) next) (sym stage) ((next-same cards earlier span sized next alike).1, soon-next cards limit earlier span deck next on.next ahead_of cut.1);
                };
          };
    }

pub returns : goal.returns
returns c = λ cards sizer.
    let deck = c.args.self.now in
    let begun = c.begin_piece.new.self in
    let span = c.args.span in
    record {
      on = λ kind old earlier on.
          goes-on kind old cards earlier (statement_at cards span ∷ earlier) span sizer deck (at_stage stages.Over begun) on (same-at stages.Over deck begun c.begin_piece.ensures.same.deck) tt;
      front = λ kind old earlier on goes.
          let front = goes.stands.stage in
          let tail = c.requires in
          absurd (cc);
      due = λ kind old earlier limit on known will.
          let cut = subst (WillAgreeAt kind old cards limit earlier deck) c.requires will in
          absurd (next-first cards earlier span limit deck begun on.next known cut.0 c.begin_piece.ensures.rest c.begin_piece.ensures.last
          (λ sized rest first count. true≢false (sym (c.is_next_as.ensures.all sized rest first count) ∙ c.if-is_next_as.false)));
    }
