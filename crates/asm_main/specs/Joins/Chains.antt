-- Readers one after the other, and where a line of them stands (ours).
use Rattle.std.specs.{Prelude.{ℕ, ◌≡◌, ◌<◌, ◌≤◌, ◌+◌, ◌-◌, ◌^◌, ◌==◌, length, List, [], ◌∷◌, Bool, not, nat_le, Option, None, Some, Result, Ok, Err, min, take, drop, if◌then◌else◌}, Io.KnownBytes.{prepend_known, Consumes, Keeps}}
use Rattle.text_ports.specs.Lines.{line_feed}
use Rattle.asm_main.specs.declared.chained.{Part.Part, Chained.Chained, LinePlace.LinePlace, Turn.Turn, Turn.TheVariants.{Read, Ended}}

-- whether a line is begun and not ended behind these bytes, which stand behind an open line or not
abbrev pub is_open_behind : Bool → List ℕ → Bool
is_open_behind was_open [] = was_open
is_open_behind was_open (b ∷ bytes) = is_open_behind (not (b == line_feed)) bytes

-- one more; the count stays at its greatest value
abbrev pub one_more : ℕ → ℕ
one_more count = min (count + 1) (2 ^ 64 - 1)

-- the count of line feeds behind these bytes
abbrev pub ends_behind : ℕ → List ℕ → ℕ
ends_behind count [] = count
ends_behind count (b ∷ bytes) = ends_behind (if b == line_feed then one_more count else count) bytes

-- the bytes of a part and of those behind it, where they are known: one that ends within a line is the last
abbrev pub joined_with : Bool → Option (List ℕ) → Option (List ℕ) → Option (List ℕ)
joined_with was_open None rest = None
joined_with was_open (Some bytes) rest = if is_open_behind was_open bytes then Some bytes else prepend_known bytes rest

-- the bytes of parts one after the other, where they are known
abbrev pub joined : {R : Type 0} → (R → Option (List ℕ)) → List (Part R) → Option (List ℕ)
joined bytes [] = Some []
joined bytes (part ∷ parts) = joined_with part.is_open (bytes part.reader) (joined bytes parts)

-- what is left of a chain
abbrev pub left_of : {R : Type 0} → (R → Option (List ℕ)) → Chained R → Option (List ℕ)
left_of bytes chain = joined bytes (drop chain.next chain.parts.items)

-- the bytes that a read gave
abbrev pub given_in : {E : Type 0} → Result ℕ E → List ℕ → List ℕ
given_in (Ok count) buf = take count buf
given_in (Err e) buf = []

-- which part is next behind one that ended: none where it ended within a line
abbrev pub next_after : Bool → ℕ → ℕ → ℕ
next_after is_open next count = if is_open then count else next + 1

-- what a turn took: the bytes that it gave, or none where the part had no more or failed
abbrev pub TurnReads : {E : Type 0} → Option (List ℕ) → Option (List ℕ) → Result Turn E → List ℕ → Type 0
TurnReads old new (Ok (Read count)) buf = Consumes old new (take count buf) × (0 < length buf → 0 < count) × (count ≤ length buf)
TurnReads old new (Ok Ended) buf = Consumes old new []
TurnReads old new (Err e) buf = Keeps old new

-- the part that was asked last ended: next is the one behind it, or none
abbrev pub HasEnded : {R : Type 0} → Chained R → Type 0
HasEnded chain = (is_open : Bool) × (chain.next ≡ next_after is_open chain.asked (length chain.parts.items))

-- all parts are read: the one that was asked last ended, if one was asked
abbrev pub IsAskedToEnd : {R : Type 0} → Chained R → Chained R → Type 0
IsAskedToEnd old new = (old.next < length old.parts.items → HasEnded new) × (length old.parts.items ≤ old.next → new.asked ≡ old.asked)

-- behind a turn the part that was asked is next still, unless it ended
abbrev pub IsBehindTurn : {R E : Type 0} → Chained R → Result Turn E → Type 0
IsBehindTurn chain (Ok (Read count)) = chain.next ≡ chain.asked
IsBehindTurn chain (Ok Ended) = HasEnded chain
IsBehindTurn chain (Err e) = chain.next ≡ chain.asked

-- behind a read the part that failed or gave bytes was asked last, and is next still; where there were no more, the one
-- that was asked last ended, if one was asked
abbrev pub IsBehindRead : {R E : Type 0} → Chained R → Chained R → Result ℕ E → List ℕ → Type 0
IsBehindRead old new (Ok count) buf = (0 < count → new.next ≡ new.asked) × (count ≡ 0 → 0 < length buf → IsAskedToEnd old new)
IsBehindRead old new (Err e) buf = new.next ≡ new.asked

-- how many lines these parts gave, counted on from a number that stays at its greatest value
abbrev pub lines_given : {R : Type 0} → ℕ → List (Part R) → ℕ
lines_given count [] = count
lines_given count (part ∷ parts) = lines_given (min (count + part.lines) (2 ^ 64 - 1)) parts

-- where a line stands: in the first of these parts that has so many, or behind them; parts are counted on from a number
abbrev pub place_in : {R : Type 0} → List (Part R) → ℕ → ℕ → LinePlace
place_in [] number line = record { part = number; line = line }
place_in (part ∷ parts) number line = if nat_le line part.lines then record { part = number; line = line } else place_in parts (number + 1) (line - part.lines)
