-- What was kept of an operand is what was read.
use Rattle.std.proofs.{Common.subst, lemmas.Result.on_ok_weaker}
use Rattle.statement_coder.specs.declared.definitions_made.Defines.{Defines}
use Rattle.use_blocks.specs.Joins.EffectsAs.{effect_as}
use Rattle.deck_assembler.specs.Joins.Sizers.{IsNoted}
use Rattle.deck_assembler.proofs.sizer.Sizer.note_kept.Goals as goal

pub returns-then-sized-clause-noted : goal.returns-then-sized-clause-noted
returns-then-sized-clause-noted c = on_ok_weaker c.note_own.result (λ noted operand kept bare. noted operand (bare c.if-sized.true)) c.note_own.ensures.noted

pub returns-clause-noted : goal.returns-clause-noted
returns-clause-noted c = λ operand kept bare.
    subst (λ (defines : Defines). IsNoted c.args.statement.now.location.now operand defines (effect_as c.args.effect.now) c.args.self.now c.note.new.self) c.defines-defines.ensures
    (c.in_ok-note.ensures.noted operand (c.reading-reading.ensures.reading operand kept) (c.reading-reading.ensures.lawful operand kept))
