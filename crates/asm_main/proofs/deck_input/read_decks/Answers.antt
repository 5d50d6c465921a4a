use Rattle.std.proofs.Common.{ℕ, ◌+◌, ◌∙◌, List, refl, sym, ap, subst, arith}
use Rattle.definitions.specs.{InputLines.Line, DeckInput.{Decks, with_line}}
use Rattle.deck_cuts.{specs.Cuts.newest_first, proofs.CutLaws.IfErr-passed}
use Rattle.asm_main.{specs.Inputs.{IsFaultOf, IsSoundBefore}, proofs.FaultLaws.{IsFaultOf-count, IsFaultOf-before_writing}, proofs.ReadSteps.{IsReadSoFar-none, IsReadSoFar-line, IsReadSoFar-few, IsReadSoFar-decks, ReadsToFault-so_far, ReadsSound-so_far, IsSoundBefore-line, AreDecksOf-so_far, too_long-so_far, cut-so_far, refused-so_far}}
use Rattle.asm_main.proofs.deck_input.read_decks.Goals as goal

pub loop-before-init : goal.loop-before-init
loop-before-init g c = record { read = IsReadSoFar-none _ _ c.new-decks.ensures.items; sound = refl }

pub loop-before-preserved : goal.loop-before-preserved
loop-before-preserved g c = record {
  read = IsReadSoFar-line _ _ _ _ _ _ _ c.loop-before.invariant.read c.in-Line.ensures.reads
      (sym (ap (λ (line : List ℕ). with_line (c.loop-before.before + 1) (Line line) (Decks (newest_first c.loop-before.decks.items))) c.as_slice.ensures.value) ∙ c.in_ok-add_line-in-Line.ensures.ok);
  sound = c.in-Line.ensures.count ∙ c.loop-before.invariant.sound;
}

pub unreachable-requires : goal.unreachable-requires
unreachable-requires g c = omega (arith, IsReadSoFar-few _ _ _ _ c.loop-before.invariant.read)

pub returns-in-End-clause-read : goal.returns-in-End-clause-read
returns-in-End-clause-read g c = ReadsToFault-so_far _ _ _ _ _ _ _ c.loop-before.invariant.read c.next_held_line.ensures.reads

pub returns-in-End-clause-sound : goal.returns-in-End-clause-sound
returns-in-End-clause-sound g c = ReadsSound-so_far _ _ _ _ _ _ c.loop-before.invariant.read c.in-End.ensures.reads

pub returns-in-End-clause-decks : goal.returns-in-End-clause-decks
returns-in-End-clause-decks g c = AreDecksOf-so_far _ _ _ _ _ _ c.loop-before.invariant.read c.in-End.ensures.reads

pub returns-in-End-clause-few : goal.returns-in-End-clause-few
returns-in-End-clause-few g c = IsReadSoFar-decks _ _ _ _ c.loop-before.invariant.read

pub returns-in-Cut-clause-read : goal.returns-in-Cut-clause-read
returns-in-Cut-clause-read g c = ReadsToFault-so_far _ _ _ _ _ _ _ c.loop-before.invariant.read c.next_held_line.ensures.reads

pub returns-in-Cut-clause-fault : goal.returns-in-Cut-clause-fault
returns-in-Cut-clause-fault g c = cut-so_far _ _ _ _ _ _ c.loop-before.invariant.read c.in-Cut.ensures.reads

pub returns-in-TooLong-clause-read : goal.returns-in-TooLong-clause-read
returns-in-TooLong-clause-read g c = ReadsToFault-so_far _ _ _ _ _ _ _ c.loop-before.invariant.read c.next_held_line.ensures.reads

pub returns-in-TooLong-clause-fault : goal.returns-in-TooLong-clause-fault
returns-in-TooLong-clause-fault g c = too_long-so_far _ _ _ _ _ _ c.loop-before.invariant.read c.in-TooLong.ensures.reads

pub returns-in-Fault-clause-read : goal.returns-in-Fault-clause-read
returns-in-Fault-clause-read g c = ReadsToFault-so_far _ _ _ _ _ _ _ c.loop-before.invariant.read c.next_held_line.ensures.reads

pub returns-in_err-add_line-in-Line-clause-read : goal.returns-in_err-add_line-in-Line-clause-read
returns-in_err-add_line-in-Line-clause-read g c = ReadsToFault-so_far _ _ _ _ _ _ _ c.loop-before.invariant.read c.next_held_line.ensures.reads

pub returns-in_err-add_line-in-Line-clause-fault : goal.returns-in_err-add_line-in-Line-clause-fault
returns-in_err-add_line-in-Line-clause-fault g c =
    IfErr-passed c.from_residual.result c.in_err-add_line-in-Line.field-0.0 _ c.from_residual.ensures.1
    (refused-so_far _ _ _ _ _ _ _ c.loop-before.invariant.read c.in-Line.ensures.reads
    (subst (λ (line : List ℕ). IsFaultOf (with_line (c.loop-before.before + 1) (Line line) (Decks (newest_first c.loop-before.decks.items))) c.in_err-add_line-in-Line.field-0.0)
    c.as_slice.ensures.value c.in_err-add_line-in-Line.ensures.err))

pub returns-in_err-add_line-in-Line-clause-memory : goal.returns-in_err-add_line-in-Line-clause-memory
returns-in_err-add_line-in-Line-clause-memory g c =
    IfErr-passed c.from_residual.result c.in_err-add_line-in-Line.field-0.0
    (λ fault. IsSoundBefore fault (g.R.Read.remaining c.args.input.now.0) (g.R.Read.remaining c.next_held_line.new.input.0)) c.from_residual.ensures.1
    (IsSoundBefore-line _ _ _ _ _ _ _ c.loop-before.invariant.read c.in-Line.ensures.reads
    (subst (λ (line : List ℕ). IsFaultOf (with_line (c.loop-before.before + 1) (Line line) (Decks (newest_first c.loop-before.decks.items))) c.in_err-add_line-in-Line.field-0.0)
    c.as_slice.ensures.value c.in_err-add_line-in-Line.ensures.err))

pub returns-in_err-add_line-in-Line-clause-count : goal.returns-in_err-add_line-in-Line-clause-count
returns-in_err-add_line-in-Line-clause-count g c =
    IfErr-passed c.from_residual.result c.in_err-add_line-in-Line.field-0.0 _ c.from_residual.ensures.1
    (c.in-Line.ensures.count ∙ c.loop-before.invariant.sound ∙ sym (IsFaultOf-count _ _ _ c.in_err-add_line-in-Line.ensures.err))

pub returns-in_err-add_line-in-Line-clause-before_writing : goal.returns-in_err-add_line-in-Line-clause-before_writing
returns-in_err-add_line-in-Line-clause-before_writing g c =
    IfErr-passed c.from_residual.result c.in_err-add_line-in-Line.field-0.0 _ c.from_residual.ensures.1 (IsFaultOf-before_writing _ _ c.in_err-add_line-in-Line.ensures.err)
