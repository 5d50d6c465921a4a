-- Where the decks meet all that is left stays; elsewhere none of it does.
use Rattle.std.{proofs.Common.{◌≡◌, ◌∙◌, ◌-◌, ◌<◌, ◌≤◌, inl, inr, ◌⊎◌, ◌∷◌, [], List, length, true≢false, refl, sym, ap, arith, subst}, specs.Prelude.map, proofs.lemmas.Bool.cases_lt, proofs.lemmas.List.length-drop}
use Rattle.cards.specs.Joins.Spans.{statement_at}
use Rattle.definitions.specs.Statements.{Statement}
use Rattle.deck_assembler.{specs.Joins.Agreements.{left, HaveSameEnd}, specs.Joins.Meetings.{IsCutAlike, WillAgreeAt}, specs.Joins.OldDecks.IsAtStage, specs.Joins.Sizers.stood, specs.declared.sized_statement.SizedStatement.SizedStatement, proofs.DueLaws.{meet-cut, meet-still, meeting-ahead, meeting-left, met-here}, proofs.MeetLaws.{goes-on, on-tail, soon-begins, stays-met}, proofs.OldLaws.{at_stage, front-same, same-again, same-ahead, same-at}, proofs.PieceMeetings.piece-same}
use Rattle.deck_assembler.specs.declared.old_deck.Stage.TheVariants as stages
use Rattle.deck_assembler.proofs.old_deck.OldDeck.stays_between.Goals as goal

pub pass_to-requires : goal.pass_to-requires
pass_to-requires c =
    let r = c.requires.ready in
    record { front = (r.1, subst (IsAtStage r.0 r.1 c.args.cards.now r.2 c.args.self.now) c.requires.stage r.3.kept_on.standing) }

pub returns-then-not-is_met : goal.returns-then-not-is_met
returns-then-not-is_met c = record {
  on = λ kind old earlier on.
      let cards = c.args.cards.now in
      let now : List Statement = statement_at cards c.args.span ∷ earlier in
      let passed = c.pass_to.new.self in
      let new = c.is_met.new.self in
      let has = c.in_ok-pass_to.ensures.front old (subst (IsAtStage kind old cards earlier c.args.self.now) c.requires.stage on.kept_on.standing) in
      goes-on kind old cards earlier now c.args.span c.args.sizer.now c.args.self.now new on (same-again c.pass_to.ensures.deck c.is_met.ensures.same.deck)
      (subst (IsAtStage kind old cards now new) (sym (c.is_met.ensures.same.stage ∙ c.pass_to.ensures.stage ∙ c.requires.stage))
      (front-same old (left passed) (left new) passed new (sym c.is_met.ensures.rest) c.is_met.ensures.same has));
  front = λ kind old earlier on goes.
      let front = goes.stands.stage in
      let between = c.requires.stage in
      absurd (cc);
  due = λ kind old earlier limit on next will.
      let cards = c.args.cards.now in
      let span = c.args.span in
      let deck = c.args.self.now in
      let passed = c.pass_to.new.self in
      let new = c.is_met.new.self in
      let later = subst (WillAgreeAt kind old cards limit earlier deck) c.requires.stage will in
      let has = c.in_ok-pass_to.ensures.front old (subst (IsAtStage kind old cards earlier deck) c.requires.stage on.kept_on.standing) in
      let start = on.next.before in
      let ahead_of = meeting-ahead kind old cards limit earlier span deck later next in
      let piece = c.in_ok-pass_to.ensures.piece later.tail later.count (omega (arith, start, ahead_of)) later.piece in
      let reached = subst (λ n. (length passed.ahead.now ≤ length cards - n) ⊎ (left passed ≡ [])) start c.in_ok-pass_to.ensures.reached in
      let less : length earlier < length later.has.front = elim (cases_lt (length earlier) (length later.has.front)) [
        | inl less ↦ less
        | inr enough ↦
            let few = later.reached in
            let met = met-here kind old cards limit earlier span c.args.sizer.now deck passed later next on.sizer_is (c.pass_to.ensures.deck.kind ∙ on.kept_on.kinds) c.pass_to.ensures.deck.behind has piece (omega (arith, few, enough)) reached in
            let count : length cards - span.start ≡ length cards - stood earlier = ap (λ n. length cards - n) start in
            absurd (true≢false (sym (c.is_met.ensures.all (met.place ∙ sym count) (subst (λ n. n ≤ passed.behind) (sym count) met.behind) met.begun met.state met.agree) ∙ c.if-not-is_met.true))
      ] in
      record {
        sized = λ none. let due = later.due in omega (arith, less, due);
        will = subst (WillAgreeAt kind old cards limit (statement_at cards span ∷ earlier) new) (sym (c.is_met.ensures.same.stage ∙ c.pass_to.ensures.stage ∙ c.requires.stage))
            (meet-still kind old cards limit earlier span deck new later (c.is_met.ensures.same.deck.behind ∙ c.pass_to.ensures.deck.behind)
            (piece-same passed new later.tail later.count (ap (λ v. v.items) c.is_met.ensures.begun) (ap (λ v. v.items) c.is_met.ensures.pieces) c.is_met.ensures.same.ahead piece) less);
      };
}

pub stays_in_tail-requires : goal.stays_in_tail-requires
stays_in_tail-requires c = refl

pub returns : goal.returns
returns c =
    let cards = c.args.cards.now in
    let span = c.args.span in
    let sizer = c.args.sizer.now in
    let deck = c.args.self.now in
    let passed = c.pass_to.new.self in
    let tail = at_stage stages.Tail c.is_met.new.self in
    let e = c.if-not-is_met.false in
    stays-met cards span sizer deck tail c.stays_in_tail.new.self c.stays_in_tail.result c.requires.stage
    (λ kind old earlier on. on-tail kind old cards earlier span sizer deck passed tail on c.requires.span.within
    (c.in_ok-pass_to.ensures.front old (subst (IsAtStage kind old cards earlier deck) c.requires.stage on.kept_on.standing)) c.pass_to.ensures.deck (same-at stages.Tail passed c.is_met.new.self c.is_met.ensures.same.deck) c.is_met.ensures.rest c.is_met.ensures.same.ahead
    (c.is_met.ensures.place e) (c.is_met.ensures.behind e) (c.is_met.ensures.state e) (c.is_met.ensures.alike e) refl)
    (λ kind old earlier limit on next will.
    let later = subst (WillAgreeAt kind old cards limit earlier deck) c.requires.stage will in
    let has = c.in_ok-pass_to.ensures.front old (subst (IsAtStage kind old cards earlier deck) c.requires.stage on.kept_on.standing) in
    let e = c.if-not-is_met.false in
    let start = on.next.before in
    let within = c.requires.span.within in
    let ahead_of = meeting-ahead kind old cards limit earlier span deck later next in
    let piece = c.in_ok-pass_to.ensures.piece later.tail later.count (omega (arith, start, ahead_of)) later.piece in
    let some = meeting-left kind old cards limit earlier span deck later next passed piece in
    let count : length cards - span.start ≡ length cards - stood earlier = ap (λ n. length cards - n) start in
    let same_end = subst (λ n. HaveSameEnd n old cards) (sym c.pass_to.ensures.deck.behind) on.kept_on.same in
    let there = same-ahead passed.behind has.stood (stood earlier) old cards same_end has.within (omega (arith, start, within))
    (sym (length-drop has.stood old) ∙ ap length (sym has.ahead) ∙ c.is_met.ensures.place e ∙ count) (subst (λ n. n ≤ passed.behind) count (c.is_met.ensures.behind e)) in
    let cut = meet-cut old cards earlier span limit passed next has some (has.ahead ∙ there) in
    let here : IsCutAlike cards earlier tail = record { later = cut.later; all = cut.all; counts = ap (map (λ (sized : SizedStatement). sized.cards)) c.is_met.ensures.rest ∙ cut.counts } in
    let reached = later.reached in
    let due = later.due in
    let place = c.is_met.ensures.place e in
    let same = ap length c.is_met.ensures.same.ahead in
    let soon = soon-begins cards limit earlier tail (omega (arith, reached, due)) (omega (arith, start, within, place, same)) in
    (here, soon))
    (c.stays_in_tail.ensures cards sizer)
