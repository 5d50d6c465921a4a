-- The steps of a filter; what it leaves as it is.
use Rattle.std.{proofs.Common.{ℕ, ◌≡◌, ◌<◌, ◌-◌, ◌+◌, List, [], ◌∷◌, ◌++◌, Bool, true, false, not, Option, Some, length, replicate, take, refl, ap, subst, ◌∙◌, arith, slice_set, if◌then◌else◌, nat_le, nat_lt}, proofs.lemmas.Bool.{and_parts, false≢true, lt-ltb}, specs.Prelude.{◌==◌, ◌&&◌, min}, specs.List.list_all, specs.Io.KnownBytes.Consumes}
use Rattle.definitions.specs.Characters.{blank}
use Rattle.text_ports.specs.Lines.{line_feed}
use Rattle.asm_main.specs.{declared.filtered.Filter.Filter, Joins.Filters.{NextIs, columns_behind, columns_with, end_of, filtered, folded, is_filled, is_open, is_plain, tab, tab_blanks}}

-- the first item that is set is the first that is taken
pub take-set : (buf : List ℕ) (b : ℕ) → 0 < length buf → take 1 (slice_set buf 0 b) ≡ b ∷ []
take-set [] b h = absurd (omega (arith, h))
take-set (x ∷ buf) b h = refl

-- the byte that was the next
pub given-one : (old new : Option (List ℕ)) (next : Option ℕ) (byte : ℕ) → NextIs old new next → next ≡ Some byte → Consumes old new (byte ∷ [])
given-one old new next byte h is = subst (NextIs old new) is h

-- a test of two parts fails where its second does
and-false : (s t : Bool) → t ≡ false → (s && t) ≡ false
and-false true t e = e
and-false false t e = refl

-- what a plain byte is not
plain-parts : (s t : Bool) → (not s && not t) ≡ true → (s ≡ false) × (t ≡ false)
plain-parts true t e = absurd (false≢true e)
plain-parts false true e = absurd (false≢true e)
plain-parts false false e = (refl, refl)

-- a plain byte in front
plain-step : (f : Filter) (columns b : ℕ) (bytes : List ℕ) → is_plain b ≡ true → filtered f columns (b ∷ bytes) ≡ b ∷ filtered f (columns_behind columns b) bytes
plain-step f columns b bytes plain =
    let parts = plain-parts (b == tab) (nat_le 97 b && nat_le b 122) plain in
    let kept : is_filled f b ≡ false = and-false f.tabs (b == tab) parts.0 in
    let same : folded f b ≡ b = ap (λ (t : Bool). if t then b - 32 else b) (and-false f.fold_case (nat_le 97 b && nat_le b 122) parts.1) in
    ap (λ (t : Bool). if t then replicate (tab_blanks columns) blank ++ filtered f (columns_with columns (tab_blanks columns)) bytes else folded f b ∷ filtered f (columns_behind columns b) bytes) kept
    ∙ ap (λ (c : ℕ). c ∷ filtered f (columns_behind columns b) bytes) same

-- columns are counted where a line is open
open-columns : (t : Bool) (columns : ℕ) → nat_lt 0 (if t then 0 else columns_with columns 1) ≡ not t
open-columns true columns = refl
open-columns false columns = lt-ltb 0 (min (columns + 1) 256) (omega arith)

-- no line is open at the end
ended : (f : Filter) (columns : ℕ) → nat_lt 0 columns ≡ false → end_of f columns ≡ []
ended f columns e = ap (λ (t : Bool). if t then line_feed ∷ [] else []) (and-false f.last_line (nat_lt 0 columns) e)

stays : (f : Filter) (columns : ℕ) (bytes : List ℕ) → list_all is_plain bytes ≡ true → is_open (nat_lt 0 columns) bytes ≡ false → filtered f columns bytes ≡ bytes
stays f columns [] plain closed = ended f columns closed
stays f columns (b ∷ bytes) plain closed =
    let parts = and_parts (is_plain b) (list_all is_plain bytes) plain in
    plain-step f columns b bytes parts.0
    ∙ ap (λ (l : List ℕ). b ∷ l) (stays f (columns_behind columns b) bytes parts.1
    (ap (λ (o : Bool). is_open o bytes) (open-columns (b == line_feed) columns) ∙ closed))

-- input without tabs and small letters, whose last line has its line feed
pub plain-stays : (f : Filter) (bytes : List ℕ) → list_all is_plain bytes ≡ true → is_open false bytes ≡ false → filtered f 0 bytes ≡ bytes
plain-stays f bytes plain closed = stays f 0 bytes plain closed
