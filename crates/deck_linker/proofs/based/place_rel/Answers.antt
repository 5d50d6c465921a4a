use Rattle.std.proofs.Common.{◌≡◌, ◌∙◌, ◌+◌, ◌<◌, ◌≤◌, ap, sym, arith, rules}
use Rattle.definitions.specs.{Layout.deck_length, Objects.object_of}
use Rattle.deck_linker.proofs.PlaceLaws.{placed-past, placed-standing, end-past, end-standing}
use Rattle.deck_linker.proofs.based.place_rel.Goals as goal

pub returns-then-words-from-clause-based : goal.returns-then-words-from-clause-based
returns-then-words-from-clause-based c =
    let object = object_of c.args.object in
    let words : c.deck_length-words.result ≡ deck_length object = search rules in
    let past : 0o400000 < c.args.base + deck_length object = omega (arith, words) in
    c.past.ensures ∙ sym (placed-past c.args.base object c.requires.rel past)

pub returns-then-words-from-clause-end : goal.returns-then-words-from-clause-end
returns-then-words-from-clause-end c =
    let object = object_of c.args.object in
    let words : c.deck_length-words.result ≡ deck_length object = search rules in
    let past : 0o400000 < c.args.base + deck_length object = omega (arith, words) in
    sym (end-past c.args.base object c.requires.rel past)

pub returns-else-words-from-clause-based : goal.returns-else-words-from-clause-based
returns-else-words-from-clause-based c =
    let object = object_of c.args.object in
    let words : c.deck_length-words.result ≡ deck_length object = search rules in
    let within : c.args.base + deck_length object ≤ 0o400000 = omega (arith, words) in
    c.standing.ensures ∙ sym (placed-standing c.args.base object c.requires.rel within)

pub returns-else-words-from-clause-end : goal.returns-else-words-from-clause-end
returns-else-words-from-clause-end c =
    let object = object_of c.args.object in
    let words : c.deck_length-words.result ≡ deck_length object = search rules in
    let within : c.args.base + deck_length object ≤ 0o400000 = omega (arith, words) in
    ap (λ n. c.args.base + n) words ∙ sym (end-standing c.args.base object c.requires.rel within)
