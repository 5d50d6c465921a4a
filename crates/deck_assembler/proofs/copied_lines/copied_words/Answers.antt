use Rattle.std.proofs.{Common.{◌≡◌, ◌∙◌, length, ap, arith}, lemmas.Grind.common_steps}
use Rattle.deck_objects.specs.declared.lines.LineFields.TheVariants as kept
use Rattle.deck_assembler.proofs.CopiedLaws.{alike-put}
use Rattle.deck_assembler.proofs.copied_lines.copied_words.Goals as goal

pub returns-clause-copied : goal.returns-clause-copied
returns-clause-copied c =
    let some = c.some_of-some.result.now in
    alike-put kept.Words c.args.others.now c.args.words.now.items c.extend_from_slice.new.self.items some c.args.first c.args.count c.in_ok-fields.fields c.in_ok-extend_from_slice.ensures.items c.some_of-some.ensures
    (c.in_ok-fields.ensures ∙ ap (λ n. kept.Words n (length some)) (let e : c.len-before.result ≡ length c.args.words.now.items = grind (arith, common_steps) in e))
