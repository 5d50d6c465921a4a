-- No statement of an untouched front is sized.
use Rattle.std.proofs.{Common.{ℕ, ◌+◌, ◌≤◌, inl, inr, ◌∙◌, List, [], length, refl, ap, arith, sym, subst}, lemmas.Bool.cases_lt}
use Rattle.cards.specs.declared.statement_list.Span.{Span}
use Rattle.definitions.specs.{DeckKinds.{kind_of_statements, up_to_end}, Literals.literal_words, Settled.defined, Settling.{View, settled_all}, Statements.Statement, declared.deck_kind.DeckKind.DeckKind}
use Rattle.deck_assembler.{specs.Joins.FirstStatements.all_statements, specs.Joins.FirstSymbols.symbol_in, specs.Joins.Formers.known_in, specs.Joins.Meetings.{StandApart, WillAgreeAt}, specs.Joins.Tails.{HasTailIfAny, HasTailWithin}, specs.Joins.Takings.CountsEdited, specs.Stays.RisesAnew, proofs.AgreementLaws.{begins-due, untouched-before}, proofs.DeckLaws.all-statements, proofs.FrontLaws.{front-stands, front-still}, proofs.StayLaws.within-all}
use Rattle.deck_assembler.proofs.sized_deck.SizedDeck.edited.Goals.{After-made, Start}
use Rattle.deck_assembler.proofs.sized_deck.SizedDeck.edited.Goals as goal

pub made-requires-clause-old_deck : goal.made-requires-clause-old_deck
made-requires-clause-old_deck c =
    let beside = c.in_ok-parted.ensures.beside c.args.cards.now c.requires.before c.requires.behind in
    (beside.of, beside.kept_on)

-- nothing is counted before the deck is made
none-counted : (c : Start) → CountsEdited c.args.old.cards.now c.args.cards.now c.args.old.before c.args.old.behind c.args.meter.now c.args.meter.now
none-counted c = record {
  sized = omega arith;
  front = λ decks front old new before is. front-still decks front _ is;
  due = λ decks front split apart before is agree.
      let few = untouched-before c.args.old.cards.now c.args.cards.now c.args.old.before c.args.old.behind decks front split apart before is agree in omega (arith, few);
  rises = omega arith;
  coded = refl;
}

pub returns-in_err-list-clause-counts : goal.returns-in_err-list-clause-counts
returns-in_err-list-clause-counts c = none-counted (goal.at.returns-in_err-list-clause-counts c).Start

pub returns-in_err-parted-clause-counts : goal.returns-in_err-parted-clause-counts
returns-in_err-parted-clause-counts c = none-counted (goal.at.returns-in_err-parted-clause-counts c).Start

-- what is counted once it is tried
counted : (c : After-made) → CountsEdited c.args.old.cards.now c.args.cards.now c.args.old.before c.args.old.behind c.args.meter.now c.made.new.meter
counted c =
    let own = c.args.old.cards.now in
    let cards = c.args.cards.now in
    let deck = c.in_ok-parted.parted.old_deck in
    let all = ap (λ (spans : List Span). all_statements cards spans) c.as_slice.ensures ∙ all-statements cards c.in_ok-list.list c.in_ok-list.ensures.statements in
    let kind = c.kind_of-kind.ensures ∙ ap (λ (l : List Statement). kind_of_statements (up_to_end l)) all in
    let beside = c.in_ok-parted.ensures.beside cards c.requires.before c.requires.behind in
    let counts = c.made.ensures.counts in
    record {
      sized = counts.sized;
      front = λ decks front old new before is.
          let there = counts.front beside.of front beside.kept_on (beside.stands decks front old new before (sym kind) is) in
          let same = ap length new in
          omega (arith, there, same);
      due = λ decks front split apart before is agree.
          let limit = length split.new_front + 128 in
          let two = c.in_ok-parted.ensures.old_deck (sym (ap kind_of_statements apart.of_old) ∙ agree.kinds ∙ ap kind_of_statements apart.of_new ∙ sym kind) in
          let few = untouched-before own cards c.args.old.before c.args.old.behind decks front split apart before is agree in
          let here = subst (λ (both : ℕ × ℕ). StandApart own cards both.0 both.1 decks) (λ i. (sym two.0.before_is i, sym two.0.behind i)) apart in
          let will = subst (WillAgreeAt c.kind_of-kind.result own cards limit [] deck) (sym two.0.stage)
          (begins-due c.kind_of-kind.result own cards decks split deck here (kind ∙ ap kind_of_statements (sym apart.of_new)) agree two.0.begun two.0.short) in
          elim (cases_lt limit (length (known_in cards))) [
            | inl more ↦
                counts.due own front limit (two.1 cards c.requires.before c.requires.behind)
                (record { decks = decks; untouched = is; of_old = apart.of_old; of_new = apart.of_new; before = subst (λ n. decks.before ≤ n) (sym two.0.before_is) before; stage = two.0.stage }) (omega (arith, few)) more will
            | inr enough ↦
                let there = front-stands own cards decks front deck _ _ apart.of_old apart.of_new (subst (λ n. decks.before ≤ n) (sym two.0.before_is) before) two.0.stage is
                (counts.front own front (two.1 cards c.requires.before c.requires.behind)) in
                let same = ap length apart.of_new in
                omega (arith, enough, there, same)
          ];
      rises = counts.rises;
      coded = counts.coded;
    }

pub returns-in_err-all-clause-counts : goal.returns-in_err-all-clause-counts
returns-in_err-all-clause-counts c = counted (goal.at.returns-in_err-all-clause-counts c).After-made

pub returns-clause-counts : goal.returns-clause-counts
returns-clause-counts c = counted (goal.at.returns-clause-counts c).After-made

pub returns-clause-former : goal.returns-clause-former
returns-clause-former c =
    let own = c.args.old.cards.now in
    let cards = c.args.cards.now in
    let deck = c.in_ok-parted.parted.old_deck in
    let all = ap (λ (spans : List Span). all_statements cards spans) c.as_slice.ensures ∙ all-statements cards c.in_ok-list.list c.in_ok-list.ensures.statements in
    let kind = c.kind_of-kind.ensures ∙ ap (λ (l : List Statement). kind_of_statements (up_to_end l)) all in
    let was = c.in_ok-parted.ensures.former in
    let made = c.with_tail.ensures in
    let known = known_in own in
    record {
      former_is = record {
        kind = made.kind ∙ was.kind;
        symbols = ap symbol_in made.symbols ∙ was.symbols ∙ ap {B = View} (λ (k : DeckKind). λ name. defined name (settled_all k known)) (sym made.kind);
        literals = made.literals ∙ was.literals ∙ ap (λ (k : DeckKind). literal_words (settled_all k known)) (sym made.kind);
      };
      before_is = made.before ∙ c.in_ok-parted.ensures.before;
      kinds = elim made.other [
        | inl same ↦ inl (made.kind ∙ same ∙ kind)
        | inr none ↦ inr none
      ];
      tail = elim made.other [
        | inr none ↦ inl none
        | inl same ↦
            let two = c.in_ok-parted.ensures.old_deck (sym was.kind ∙ same) in
            subst (λ k. HasTailIfAny k own cards c.with_tail.result.tail (known_in cards)) kind
            (subst (λ n. HasTailIfAny c.kind_of-kind.result own cards n (known_in cards)) (sym (made.tail same))
            (c.in_ok-all.ensures.made.has_tail own (two.1 cards c.requires.before c.requires.behind)))
      ];
      within = λ decks front split apart before is agree more.
          let limit = length split.new_front + 128 in
          let kinds = sym (ap kind_of_statements apart.of_old) ∙ agree.kinds ∙ ap kind_of_statements apart.of_new ∙ sym kind in
          let two = c.in_ok-parted.ensures.old_deck kinds in
          let few = untouched-before own cards c.args.old.before c.args.old.behind decks front split apart before is agree in
          let here = subst (λ (both : ℕ × ℕ). StandApart own cards both.0 both.1 decks) (λ i. (sym two.0.before_is i, sym two.0.behind i)) apart in
          let will = subst (WillAgreeAt c.kind_of-kind.result own cards limit [] deck) (sym two.0.stage)
          (begins-due c.kind_of-kind.result own cards decks split deck here (kind ∙ ap kind_of_statements (sym apart.of_new)) agree two.0.begun two.0.short) in
          subst (λ (both : DeckKind × ℕ). HasTailWithin both.0 own cards both.1 (known_in cards) limit) (λ i. (kind i, sym (made.tail (was.kind ∙ kinds)) i))
          (c.in_ok-all.ensures.made.within own front limit (two.1 cards c.requires.before c.requires.behind)
          (record { decks = decks; untouched = is; of_old = apart.of_old; of_new = apart.of_new; before = subst (λ n. decks.before ≤ n) (sym two.0.before_is) before; stage = two.0.stage }) (omega (arith, few)) more will);
    }

-- what stays is settled as in the deck before, which begins as what is left of it
pub returns-clause-anew : goal.returns-clause-anew
returns-clause-anew c =
    let cards = c.args.cards.now in
    let all = ap (λ (spans : List Span). all_statements cards spans) c.as_slice.ensures ∙ all-statements cards c.in_ok-list.list c.in_ok-list.ensures.statements in
    let kind = c.kind_of-kind.ensures ∙ ap (λ (l : List Statement). kind_of_statements (up_to_end l)) all in
    let beside = c.in_ok-parted.ensures.beside cards c.requires.before c.requires.behind in
    subst (λ (k : DeckKind). RisesAnew k (known_in c.args.old.cards.now) (known_in cards) c.args.meter.now.sized c.made.new.meter.sized) kind
    (λ room. within-all c.kind_of-kind.result (known_in c.args.old.cards.now) (known_in beside.of) beside.of_old.0 (known_in cards) _ beside.of_old.1 (c.in_ok-all.ensures.counted.anew beside.of beside.kept_on room))
