use Rattle.std.proofs.{Common.{ap, arith, take}, lemmas.List.{length-take-le, take_all}}
use Rattle.definitions.specs.Forms.{characters_number}
use Rattle.expr_forms.proofs.ItemLaws.{characters_number-small, characters_number-fits}
use Rattle.expr_forms.proofs.coding.characters_number.Goals as goal

pub overflow_mul-number : goal.overflow_mul-number
overflow_mul-number c =
    let size = length-take-le c.loop-character.character-index c.args.characters.now (omega arith) in
    let small = characters_number-small (take c.loop-character.character-index c.args.characters.now) (omega arith) in
    omega arith

pub overflow_add-number : goal.overflow_add-number
overflow_add-number c =
    let size = length-take-le c.loop-character.character-index c.args.characters.now (omega arith) in
    let small = characters_number-small (take c.loop-character.character-index c.args.characters.now) (omega arith) in
    omega arith

pub returns-clause-small : goal.returns-clause-small
returns-clause-small c =
    let fits = characters_number-fits c.args.characters.now (omega arith) in
    let same = take_all c.loop-character.character-index c.args.characters.now (omega arith) in
    omega (arith, ap characters_number same)
