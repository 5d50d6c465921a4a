-- A statement that ends before the edited card stays; with another the front is left.
use Rattle.std.{proofs.Common.{◌≡◌, ◌∷◌, ◌++◌, ◌∙◌, ◌+◌, ◌≤◌, List, length, drop, true≢false, refl, sym, ap, arith, subst}, specs.Prelude.reverse}
use Rattle.cards.specs.Joins.Spans.{statement_at}
use Rattle.definitions.specs.Statements.{Statement}
use Rattle.deck_assembler.{specs.Joins.Agreements.{left, HasFront, IsOfSameDeck, IsSameFront}, specs.Joins.DeckParts.sized_in, specs.Joins.Formers.known_in, specs.Joins.Meetings.WillAgreeAt, specs.Joins.OldDecks.{IsAtStage, IsInFront}, specs.Joins.Sizers.ahead, specs.declared.old_deck.OldDeck.OldDeck, specs.declared.sized_statement.SizedStatement.SizedStatement, proofs.DueLaws.{front-due, front-left-over, meet-later, short-behind, short-same, time-in-front}, proofs.ForwardLaws.stood-more, proofs.FrontLaws.{goes-no-more, goes-within}, proofs.HeadLaws.{front-next, next-in-front}, proofs.MeetLaws.goes-on, proofs.OldLaws.{same-again}, proofs.PieceMeetings.{begun-next, own-rest}, proofs.StayLaws.same-stays, proofs.old_deck.OldDeck.stays_in_front.Goals.{else-is_next_as-via-then-is_next_as+else-is_within, else-is_next_as-via-else-is_next_as}}
use Rattle.deck_assembler.specs.declared.old_deck.Stage.TheVariants as stages
use Rattle.deck_assembler.proofs.old_deck.OldDeck.stays_in_front.Goals as goal

pub returns-then-is_within : goal.returns-then-is_within
returns-then-is_within c = λ cards.
    let deck = c.args.self.now in
    let begun = c.begin_piece.new.self in
    let span = c.args.span in
    let sizer = c.args.sizer.now in
    let all = c.begin_piece.ensures.same in
    let rest = sym c.begin_piece.ensures.rest in
    let new : OldDeck = record { kind = begun.kind; ahead = c.later_cards-self.result; statements = begun.statements; pieces = begun.pieces; before = begun.before; behind = begun.behind; stage = begun.stage; state = begun.state; symbols = begun.symbols; missed = begun.missed } in
    let count = c.is_next_as.ensures.count c.if-is_next_as.true in
    let within = subst (λ n. span.start + span.count ≤ n) all.deck.before (c.is_within.ensures.within c.if-is_within.true) in
    let moved : (sized : SizedStatement) → sized.cards ≡ span.count → sized.cards ≤ length deck.ahead.now → new.ahead.now ≡ drop sized.cards deck.ahead.now = λ sized n few.
    let same = ap length all.ahead in
    c.later_cards-self.ensures (omega (arith, few, n, same)) ∙ (λ i. drop (sym n i) (all.ahead i)) in
    record {
      some = c.is_next_as.ensures.some c.if-is_next_as.true;
      that = λ sized others first kind old earlier on.
          let n = count sized others first in
          let front = subst (λ l. IsInFront old cards earlier l deck) (rest ∙ (λ i. first i ++ sized_in begun.pieces.items)) (subst (IsAtStage kind old cards earlier deck) c.requires.stage on.kept_on.standing) in
          let there = next-in-front kind old cards earlier span deck new sized (others ++ sized_in begun.pieces.items) on.next on.kept_on.kinds front n within all.deck.kind all.deck.before (moved sized n) in
          (there.0, (n, same-stays kind (known_in old) (reverse there.1.later) earlier (statement_at cards span) there.1.all));
      behind = λ sized next first pieces same.
          let n = count sized next.statements.items first in
          let whole : IsOfSameDeck deck next = record { kind = same.deck.kind ∙ all.deck.kind; before = same.deck.before ∙ all.deck.before; behind = same.deck.behind ∙ all.deck.behind } in
          let stage = same.stage ∙ all.stage ∙ c.requires.stage in
          record {
            on = λ kind old earlier on.
                let front = subst (λ l. IsInFront old cards earlier l deck) (rest ∙ (λ i. first i ++ sized_in (pieces i))) (subst (IsAtStage kind old cards earlier deck) c.requires.stage on.kept_on.standing) in
                let there = next-in-front kind old cards earlier span deck next sized (left next) on.next on.kept_on.kinds front n within whole.kind whole.before (λ few. same.ahead ∙ moved sized n few) in
                goes-on kind old cards earlier (statement_at cards span ∷ earlier) span sizer deck next on whole (subst (IsAtStage kind old cards (statement_at cards span ∷ earlier) next) (sym stage) there.1);
            front = λ kind old earlier on goes. record { some = refl; stage = stage; before = whole.before };
            due = λ kind old earlier limit on known will.
                let later = subst (WillAgreeAt kind old cards limit earlier deck) c.requires.stage will in
                let more = stood-more earlier (statement_at cards span) (ahead cards earlier) span.count on.next.cards on.next.within in
                let start = on.next.before in
                record {
                  sized = λ none. absurd cc;
                  will = subst (WillAgreeAt kind old cards limit (statement_at cards span ∷ earlier) next) (sym stage)
                      (front-due kind old cards limit earlier span deck next next sized later (begun-next deck begun next sized c.begin_piece.ensures.begun first pieces) refl refl whole.before whole.behind (omega (arith, within, more, start)));
                };
          };
    }

pub returns-in_default : goal.returns-in_default
returns-in_default c = λ cards.
    let deck = c.args.self.now in
    let begun = c.begin_piece.new.self in
    let span = c.args.span in
    let sizer = c.args.sizer.now in
    let over : OldDeck = record { kind = begun.kind; ahead = begun.ahead; statements = c.pop_front.new.self; pieces = begun.pieces; before = begun.before; behind = begun.behind; stage = stages.Over; state = begun.state; symbols = begun.symbols; missed = begun.missed } in
    let all = c.begin_piece.ensures.same in
    let none = sym c.begin_piece.ensures.rest ∙ c.begin_piece.ensures.last (own-rest begun.statements.items (c.in_default.ensures.items ∙ c.pop_front.ensures.rest)) in
    record {
      on = λ kind old earlier on. goes-on kind old cards earlier (statement_at cards span ∷ earlier) span sizer deck over on (record { kind = all.deck.kind; before = all.deck.before; behind = all.deck.behind }) tt;
      front = λ kind old earlier on goes. absurd (goes-no-more kind old cards earlier span sizer deck on goes none);
      due = λ kind old earlier limit on known will.
          let later = subst (WillAgreeAt kind old cards limit earlier deck) c.requires.stage will in
          let front = subst (λ l. IsInFront old cards earlier l deck) none (subst (IsAtStage kind old cards earlier deck) c.requires.stage on.kept_on.standing) in
          absurd (front-left-over kind old cards limit earlier span deck later known front);
    }

pub returns : goal.returns
returns c = λ cards.
    let deck = c.args.self.now in
    let begun = c.begin_piece.new.self in
    let span = c.args.span in
    let sizer = c.args.sizer.now in
    let sized = c.in-Some.sized in
    let new = c.leave_front.new.self in
    let popped : OldDeck = record { kind = begun.kind; ahead = begun.ahead; statements = c.pop_front.new.self; pieces = begun.pieces; before = begun.before; behind = begun.behind; stage = begun.stage; state = begun.state; symbols = begun.symbols; missed = begun.missed } in
    let all = c.begin_piece.ensures.same in
    let same : IsSameFront deck popped = record { deck = record { kind = all.deck.kind; before = all.deck.before; behind = all.deck.behind }; ahead = all.ahead; state = all.state; symbols = all.symbols; stage = all.stage } in
    let first : begun.statements.items ≡ sized ∷ popped.statements.items = c.in-Some.ensures.items in
    let e : left deck ≡ sized ∷ left popped = sym c.begin_piece.ensures.rest ∙ (λ i. first i ++ sized_in begun.pieces.items) in
    let left_is = c.leave_front.ensures.rest in
    record {
      on = λ kind old earlier on.
          let now : List Statement = statement_at cards span ∷ earlier in
          let both = front-next kind old cards earlier span sizer deck popped sized on c.requires.stage same e in
          let front = c.in_ok-leave_front.ensures.front old cards earlier (left popped) both.0 both.1 in
          goes-on kind old cards earlier now span sizer deck new on (same-again same.deck c.leave_front.ensures.deck)
          (subst (IsAtStage kind old cards now new) (sym c.in_ok-leave_front.ensures.stage) (subst (λ l. HasFront old l new) (sym left_is) front));
      front = λ kind old earlier on goes.
          let both = goes-within kind old cards earlier span sizer deck sized (left popped) on goes e in
          absurd (elim c.else-is_next_as.branch [
            | else-is_next_as-via-then-is_next_as+else-is_within w ↦ true≢false (sym (w.is_within.ensures.all (subst (λ n. span.start + span.count ≤ n) (sym all.deck.before) both.1)) ∙ w.if-is_within.false)
            | else-is_next_as-via-else-is_next_as w ↦ true≢false (sym (c.is_next_as.ensures.all sized popped.statements.items first both.0) ∙ w.if-is_next_as.false)
          ]);
      due = λ kind old earlier limit on known will.
          let later = subst (WillAgreeAt kind old cards limit earlier deck) c.requires.stage will in
          let both = front-next kind old cards earlier span sizer deck popped sized on c.requires.stage same e in
          let has = subst (λ l. HasFront old l new) (sym left_is) (c.in_ok-leave_front.ensures.front old cards earlier (left popped) both.0 both.1) in
          let front = subst (λ l. IsInFront old cards earlier l deck) (e ∙ ap (λ l. sized ∷ l) (sym left_is)) (subst (IsAtStage kind old cards earlier deck) c.requires.stage on.kept_on.standing) in
          let short = short-same popped new (ap (λ v. v.items) c.leave_front.ensures.begun) (ap (λ v. v.items) c.leave_front.ensures.pieces)
          (short-behind kind old cards limit earlier deck popped sized later (begun-next deck begun popped sized c.begin_piece.ensures.begun first refl)) in
          record {
            sized = λ none. time-in-front kind old cards limit earlier span deck later known;
            will = subst (WillAgreeAt kind old cards limit (statement_at cards span ∷ earlier) new) (sym c.in_ok-leave_front.ensures.stage)
                (meet-later kind old cards limit earlier span deck new later known short sized front (c.leave_front.ensures.deck.behind ∙ same.deck.behind) has);
          };
    }
