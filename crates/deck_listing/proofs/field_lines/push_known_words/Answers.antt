use Rattle.std.proofs.{Common.{◌+◌, ◌++◌, ◌∷◌, List, drop, length, get_or, ◌<◌, ap, sym, ◌∙◌, arith, append_assoc}, lemmas.List.drop_more}
use Rattle.deck_listing.{specs.Joins.WordLines.{word_line, word_lines}, proofs.KnownWords.{lines-next, word-at}}
use Rattle.deck_listing.proofs.field_lines.push_known_words.Goals as goal

pub loop-bits-preserved : goal.loop-bits-preserved
loop-bits-preserved c =
    let kind = c.args.kind in
    let words = c.args.words.now in
    let i = c.loop-bits.bits-index in
    let bits = get_or words i 0 in
    let inside : i < length words = omega arith in
    let word = c.loop-bits.word in
    let text = c.loop-bits.text in
    let rest = drop (i + 1) words in
    let split = drop_more words i bits inside ∙ ap (λ b. b ∷ rest) (sym (word-at words i inside)) in
    record {
      text = ap (λ (t : List _). t ++ word_lines kind (word + 1) rest) c.push_word_line.ensures
          ∙ append_assoc text (word_line kind word bits) (word_lines kind (word + 1) rest)
          ∙ ap (λ l. text ++ l) (sym (lines-next kind word bits rest))
          ∙ ap (λ (ws : List _). text ++ word_lines kind word ws) (sym split)
          ∙ c.loop-bits.invariant.text;
      place = omega arith;
    }
