-- Known fields as one number: fields more behind them.
use Rattle.std.proofs.{Common.{◌≡◌, ◌∙◌, ℕ, ◌+◌, ◌*◌, ◌/◌, ◌^◌, ◌<◌, ◌≤◌, List, [], ◌∷◌, ◌++◌, ap, ap₂, sym, subst, arith, append_assoc, if◌then◌else◌}, Math.Nat.pow-le-pow_right, lemmas.Nat.{pow-add, mul-add-lt}}
use Rattle.definitions.specs.{Kinds.word_bits, Layout.{Layout, Based}, LinkValues.is_unfit, LinkLines.unfit_words, StatementItems.{Item, Content, Known}, Words.{content_bits, width_of}}
use Rattle.statement_coder.proofs.JoinLaws.{width-append, joined-append}
use Rattle.deck_assembler.specs.Joins.KeptFields.{AreTogether, IsNumber}

-- what does not fit in fields behind others
pub unfit-append : (layout : Layout) (based : Based) (from : ℕ) (xs ys : List Item) → unfit_words layout based from (xs ++ ys) ≡ unfit_words layout based from xs ++ unfit_words layout based (from + width_of xs) ys
unfit-append layout based from [] ys = ap (λ n. unfit_words layout based n ys) (let e : from ≡ from + 0 = omega arith in e)
unfit-append layout based from (x ∷ xs) ys =
    let word = from / word_bits based.object.kind in
    let here : List ℕ = if is_unfit layout based x then word ∷ [] else [] in
    ap (λ ws. here ++ ws) (unfit-append layout based (from + x.width) xs ys
    ∙ ap (λ n. unfit_words layout based (from + x.width) xs ++ unfit_words layout based n ys) (let e : from + x.width + width_of xs ≡ from + (x.width + width_of xs) = omega arith in e))
    ∙ sym (append_assoc here (unfit_words layout based (from + x.width) xs) (unfit_words layout based (from + (x.width + width_of xs)) ys))

-- known bits fit
pub unfit-known : (layout : Layout) (based : Based) (from bits : ℕ) (item : Item) → item.content ≡ Known bits → unfit_words layout based from (item ∷ []) ≡ []
unfit-known layout based from bits item e =
    ap (λ (content : Content). let one : Item = record { width = item.width; content = content; letters = item.letters } in unfit_words layout based from (one ∷ [])) e

-- a field more
pub together-behind : (fields : List Item) (item : Item) (width bits more : ℕ) → AreTogether fields width bits → item.content ≡ Known more →
    AreTogether (fields ++ item ∷ []) (width + item.width) (bits * 2 ^ item.width + more)
together-behind fields item width bits more h e = record {
  wide = width-append fields (item ∷ []) ∙ ap (λ n. n + (item.width + 0)) h.wide ∙ omega arith;
  same = λ linking. joined-append linking fields (item ∷ [])
      ∙ ap₂ (λ a b. a * 2 ^ (item.width + 0) + (b * 1 + 0)) (h.same linking) (ap (content_bits linking item.width) e)
      ∙ (let w : item.width + 0 ≡ item.width = omega arith in ap (λ n. bits * 2 ^ n + (more * 1 + 0)) w ∙ omega arith);
  fitting = λ layout based from. unfit-append layout based from fields (item ∷ [])
      ∙ ap₂ (λ (a b : List ℕ). a ++ b) (h.fitting layout based from) (unfit-known layout based (from + width_of fields) more item e);
}

-- bits behind bits have room
pub behind-room : (a b v w : ℕ) → a < 2 ^ v → b < 2 ^ w → a * 2 ^ w + b < 2 ^ (v + w)
behind-room a b v w h k =
    let together : 2 ^ (v + w) ≡ 2 ^ v * 2 ^ w = pow-add 2 v w in
    let below = mul-add-lt a (2 ^ w) b (2 ^ v) h k in
    let turned : 2 ^ w * 2 ^ v ≡ 2 ^ v * 2 ^ w = omega arith in
    omega (arith, together, below, turned)

-- 60 bits have room in a word of 64
pub room-word : (n w : ℕ) → n < 2 ^ w → w ≤ 60 → n < 2 ^ 60
room-word n w h short = let wide : 2 ^ w ≤ 2 ^ 60 = pow-le-pow_right {n = 2} (omega arith) short in omega (arith, h, wide)

-- the same width and number
pub together-same : (fields : List Item) (v w a b : ℕ) → w ≡ v → b ≡ a → AreTogether fields v a → AreTogether fields w b
together-same fields v w a b e f h = subst (λ n. AreTogether fields n b) (sym e) (subst (λ n. AreTogether fields v n) (sym f) h)

-- together they are one number
pub number-of : (fields : List Item) (width bits : ℕ) → AreTogether fields width bits → bits < 2 ^ width → width ≤ 60 → IsNumber fields bits
number-of fields width bits h room short = record {
  together = subst (λ w. AreTogether fields w bits) (sym h.wide) h;
  room = subst (λ w. bits < 2 ^ w) (sym h.wide) room;
  short = subst (λ w. w ≤ 60) (sym h.wide) short;
}
