use Rattle.std.proofs.{Common.{◌≡◌, ◌∙◌, ◌+◌, ◌-◌, ◌*◌, length, take, drop, ap, sym, arith}, lemmas.List.{length-take-le, length-drop}}
use Rattle.definitions.specs.Forms.{characters_number}
use Rattle.expr_forms.proofs.{ItemLaws.characters_number-small, CodedLaws.{characters_number-more_from, code_or_zero}}
use Rattle.statement_coder.proofs.TextLaws.{within_words, few_places, word_of_text}
use Rattle.statement_coder.proofs.listing.text_word.Goals as goal

pub overflow_mul-from : goal.overflow_mul-from
overflow_mul-from c =
    let few = few_places c.args.index c.word_characters-each.result (omega arith) c.word_characters-each.ensures.few in omega arith

pub overflow_add-place-end : goal.overflow_add-place-end
overflow_add-place-end c =
    let few = few_places c.args.index c.word_characters-each.result (omega arith) c.word_characters-each.ensures.few in omega (arith, c.word_characters-each.ensures.few)

-- the characters so far are at most nine
pub overflow_mul-number : goal.overflow_mul-number
overflow_mul-number c =
    let from = c.args.index * c.word_characters-each.result in
    let behind = drop from c.args.text.now.characters in
    let each = c.word_characters-each.ensures in
    let within = within_words c.args.text.now.characters c.args.text.now.words c.args.index c.word_characters-each.result (c.requires.whole ∙ ap (λ n. c.args.text.now.words * n) (sym each.characters)) c.requires.within in
    let rest : length behind ≡ length c.args.text.now.characters - from = length-drop from c.args.text.now.characters in
    let size = length-take-le (c.loop-place.place - from) behind (omega arith) in
    let small = characters_number-small (take (c.loop-place.place - from) behind) (omega arith) in
    omega arith

pub overflow_add-number : goal.overflow_add-number
overflow_add-number c =
    let from = c.args.index * c.word_characters-each.result in
    let behind = drop from c.args.text.now.characters in
    let each = c.word_characters-each.ensures in
    let within = within_words c.args.text.now.characters c.args.text.now.words c.args.index c.word_characters-each.result (c.requires.whole ∙ ap (λ n. c.args.text.now.words * n) (sym each.characters)) c.requires.within in
    let rest : length behind ≡ length c.args.text.now.characters - from = length-drop from c.args.text.now.characters in
    let size = length-take-le (c.loop-place.place - from) behind (omega arith) in
    let small = characters_number-small (take (c.loop-place.place - from) behind) (omega arith) in
    omega arith

pub loop-place-preserved : goal.loop-place-preserved
loop-place-preserved c =
    let from = c.args.index * c.word_characters-each.result in
    let cs = c.args.text.now.characters in
    let each = c.word_characters-each.ensures in
    let within = within_words cs c.args.text.now.words c.args.index c.word_characters-each.result (c.requires.whole ∙ ap (λ n. c.args.text.now.words * n) (sym each.characters)) c.requires.within in
    let more = characters_number-more_from cs from c.loop-place.place (omega arith) (omega arith) in
    ap (λ n. n * 64 + c.code_of.result) c.loop-place.invariant
    ∙ ap (λ d. characters_number (take (c.loop-place.place - from) (drop from cs)) * 64 + d) (c.code_of.ensures.code ∙ ap code_or_zero c.character.ensures)
    ∙ sym more

pub returns : goal.returns
returns c =
    let each = c.word_characters-each.ensures in
    word_of_text c.args.kind c.args.text.now.words c.args.text.now.characters c.args.index c.word_characters-each.result c.loop-place.place c.loop-place.number
    each.characters c.requires.whole c.requires.within (omega arith) c.loop-place.invariant
