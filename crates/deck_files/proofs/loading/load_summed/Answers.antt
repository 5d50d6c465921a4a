use Rattle.std.proofs.{Common.{ℕ, ◌≡◌, ◌+◌, ◌∙◌, ap, length, rules}, lemmas.Result.err_from_is_err_and}
use Rattle.definitions.specs.InputLines.{without_cr}
use Rattle.cards.specs.declared.card.CardFault.TheVariants as card
use Rattle.deck_files.{specs.declared.load_fault.LoadFault.TheVariants.BadLine, proofs.LoadSteps.{IsLoaded-more, LoadsSummed-end, LoadsFault-cut, LoadsFault-long, LoadsFault-read, LoadsFault-line, shown-line}}
use Rattle.deck_files.proofs.loading.load_summed.Goals as goal

pub loop-cards-preserved : goal.loop-cards-preserved
loop-cards-preserved g c = record {
  loaded = IsLoaded-more _ _ _ c.loop-cards.cards.items c.add_line.new.cards.items c.loop-cards.summing c.add_line.new.summing c.in_ok-add_line-in-Line.ensures.card.0
      c.next_whole_line.new.line c.as_slice.result.now c.loop-cards.invariant.loaded c.in-Line.ensures.reads c.as_slice.ensures.value c.in_ok-add_line-in-Line.ensures.card.1
      c.in_ok-add_line-in-Line.ensures.card.2 c.add_line.ensures.sums c.add_line.ensures.longer;
  few = c.in_ok-add_line-in-Line.ensures.few;
  sound = c.in-Line.ensures.count ∙ c.loop-cards.invariant.sound;
}

pub returns-in_err-add_line-in-Line-clause-fault :
    goal.returns-in_err-add_line-in-Line-clause-fault
returns-in_err-add_line-in-Line-clause-fault g c =
    let p = err_from_is_err_and c.from_residual.result c.from_residual.ensures.1 in
    rw (p.1, p.2)
    (LoadsFault-line _ _ _ c.loop-cards.cards.items (without_cr c.next_whole_line.new.line) (without_cr c.as_slice.result.now) _
    c.loop-cards.invariant.loaded (shown-line _ _ _ c.in-Line.ensures.reads) (ap without_cr c.as_slice.ensures.value) c.in_err-add_line-in-Line.ensures.fault)

pub returns-in-End-clause-cards : goal.returns-in-End-clause-cards
returns-in-End-clause-cards g c = LoadsSummed-end _ _ _ c.loop-cards.cards.items c.sum-sum.result c.next_whole_line.new.line c.loop-cards.invariant.loaded c.in-End.ensures.reads c.sum-sum.ensures

pub returns-in-Cut-clause-fault : goal.returns-in-Cut-clause-fault
returns-in-Cut-clause-fault g c = LoadsFault-cut _ _ _ c.loop-cards.cards.items c.next_whole_line.new.line c.loop-cards.invariant.loaded c.in-Cut.ensures.reads

pub returns-in-TooLong-clause-fault : goal.returns-in-TooLong-clause-fault
returns-in-TooLong-clause-fault g c =
    let count : c.len.result ≡ length c.loop-cards.cards.items = search rules in
    LoadsFault-long _ _ _ c.loop-cards.cards.items c.next_whole_line.new.line c.bad_line.result c.loop-cards.invariant.loaded c.in-TooLong.ensures.reads
    (c.bad_line.ensures ∙ ap (λ (n : ℕ). BadLine (n + 1) card.TooWide) count)

pub returns-in-Fault-clause-fault : goal.returns-in-Fault-clause-fault
returns-in-Fault-clause-fault g c = LoadsFault-read _ _ _ c.loop-cards.cards.items c.next_whole_line.new.line c.loop-cards.invariant.loaded c.in-Fault.ensures.reads
