-- The text of a DIS: it fills its words, and each word is the number of its characters.
use Rattle.std.proofs.{Common.{◌≡◌, ◌∙◌, ℕ, suc, ◌+◌, ◌-◌, ◌*◌, ◌/◌, ◌≤◌, ◌<◌, List, length, take, drop, get_or, ap, sym, arith, mul-le-mul}, Math.Nat.mul-le-mul_right}
use Rattle.definitions.specs.{Forms.characters_number, Kinds.word_bits, Words.cut, declared.deck_kind.DeckKind.DeckKind}
use Rattle.expr_forms.proofs.CodedLaws.{get_or-cut, word_bits-characters}

-- at most 100 words of at most 10 characters
pub few_places : (index each : ℕ) → index ≤ 100 → each ≤ 10 → index * each ≤ 1000
few_places index each w e = mul-le-mul w e

-- the characters of a word are among those of all words
pub within_words : (cs : List ℕ) (words index each : ℕ) → length cs ≡ words * each → index < words → index * each + each ≤ length cs
within_words cs words index each e below =
    let more : suc index * each ≤ words * each = mul-le-mul_right each below in omega arith

-- a word is the number of the characters from its place on
pub word_of_text : (kind : DeckKind) (words : ℕ) (cs : List ℕ) (index each end number : ℕ) →
    each ≡ word_bits kind / 6 → length cs ≡ words * (word_bits kind / 6) → index < words → end ≡ index * each + each →
    number ≡ characters_number (take (end - index * each) (drop (index * each) cs)) →
    number ≡ get_or (cut (word_bits kind) words (characters_number cs)) index 0
word_of_text kind words cs index each end number e whole below at_end is =
    let count : end - index * each ≡ each = omega arith in
    is ∙ ap (λ n. characters_number (take n (drop (index * each) cs))) count
    ∙ ap (λ n. characters_number (take n (drop (index * n) cs))) e
    ∙ sym (get_or-cut (word_bits kind / 6) words cs index whole below)
    ∙ ap (λ n. get_or (cut n words (characters_number cs)) index 0) (sym (word_bits-characters kind))
