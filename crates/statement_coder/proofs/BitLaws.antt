-- The fields of a VFD, one after the other.
use Rattle.std.proofs.{Common.{◌≡◌, ◌∙◌, ℕ, ◌+◌, ◌%◌, ◌-◌, List, [], ◌∷◌, ◌++◌, map, ap, sym, arith, append_assoc}, Math.Nat.mod-add-mod}
use Rattle.definitions.specs.{Kinds.word_bits, Operands.BitField, Settled.Settled, Sizes.bits_of, StatementItems.{Item, Context, known, vfd_value, zeros_to_word}}

-- these fields behind so many bits, and the zeros behind them
abbrev pub bits_behind : Context → Settled → ℕ → List BitField → List Item
bits_behind context statement filled fields =
    map (λ (field : BitField). vfd_value context statement field.width field.value) fields ++ zeros_to_word (word_bits context.kind) (filled + bits_of fields) ∷ []

-- only the rest of a word counts
zeros-rest : (word filled width bits : ℕ) → zeros_to_word word ((filled + width) % word + bits) ≡ zeros_to_word word (filled + (width + bits))
zeros-rest word filled width bits =
    ap (λ n. known ((word - n) % word) 0) (mod-add-mod (filled + width) word bits ∙ ap (λ n. n % word) (let e : filled + width + bits ≡ filled + (width + bits) = omega arith in e))

-- one field more
pub one_field_more : (context : Context) (statement : Settled) (now after all : List Item) (item : Item) (word width filled : ℕ) (field : BitField) (old rest : List BitField) →
    word ≡ word_bits context.kind → width ≡ field.width → old ≡ field ∷ rest → item ≡ vfd_value context statement width field.value → after ≡ now ++ item ∷ [] →
    now ++ bits_behind context statement filled old ≡ all →
    after ++ bits_behind context statement ((filled + width) % word) rest ≡ all
one_field_more context statement now after all item word width filled field old rest w v o i a h =
    let word' = word_bits context.kind in
    let values : List Item = map (λ (field : BitField). vfd_value context statement field.width field.value) rest in
    ap (λ l. l ++ bits_behind context statement ((filled + width) % word) rest) a
    ∙ append_assoc now (item ∷ []) (bits_behind context statement ((filled + width) % word) rest)
    ∙ ap (λ (n : ℕ). now ++ item ∷ (values ++ zeros_to_word word' ((filled + width) % n + bits_of rest) ∷ [])) w
    ∙ ap (λ (z : Item). now ++ item ∷ (values ++ z ∷ [])) (zeros-rest word' filled width (bits_of rest))
    ∙ ap (λ (x : Item). now ++ x ∷ (values ++ zeros_to_word word' (filled + (width + bits_of rest)) ∷ [])) i
    ∙ ap (λ (n : ℕ). now ++ vfd_value context statement n field.value ∷ (values ++ zeros_to_word word' (filled + (n + bits_of rest)) ∷ [])) v
    ∙ ap (λ (l : List BitField). now ++ bits_behind context statement filled l) (sym o)
    ∙ h
