use Rattle.std.{proofs.Common.{[], sym, ap, subst, refl, ◌∙◌}, specs.Prelude.reverse}
use Rattle.definitions.specs.Laws.States.{BlockState, names_of_blocks}
use Rattle.deck_assembler.specs.Joins.{PieceSteps.sized_newest, Sizers.{AreSized, HaveStates, AreFilledNewest}}
use Rattle.deck_assembler.proofs.sizer.Sizer.new.Goals as goal

pub returns : goal.returns
returns c = λ kind cards.
    let none = ap reverse c.new-2.ensures.items in
    record {
      state = c.in_ok-new.ensures;
      symbols = c.new-3.ensures;
      externals = c.new-4.ensures.items;
      literals = c.new-5.ensures;
      lengths = c.in_ok-new-2.ensures.lengths kind;
      same_blocks = c.in_ok-new-2.ensures.same_blocks ∙ ap (λ (state : BlockState). names_of_blocks state.blocks) (sym c.in_ok-new.ensures);
      sized = subst (λ pieces. AreSized kind cards [] (sized_newest pieces)) (sym none) tt;
      states = subst (HaveStates kind []) (sym none) refl;
      filled = subst AreFilledNewest (sym none) tt;
    }
