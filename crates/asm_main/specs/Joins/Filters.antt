-- Old decks as people have them, made into cards: a filter in front of the input (ours).
use Rattle.std.specs.{Prelude.{ℕ, ◌≡◌, ◌+◌, ◌-◌, ◌%◌, ◌==◌, ◌&&◌, List, [], ◌∷◌, ◌++◌, Bool, Option, None, Some, Result, Ok, Err, if◌then◌else◌, min, nat_le, nat_lt, not, replicate}, Io.KnownBytes.{Consumes, IsAtEnd, Keeps}}
use Rattle.definitions.specs.Characters.{blank}
use Rattle.text_ports.specs.Lines.{line_feed}
use Rattle.asm_main.specs.declared.filtered.{Filter.Filter, Filtered.Filtered}

abbrev pub tab : ℕ
tab = 9

-- a small letter as its capital, where letters are folded
abbrev pub folded : Filter → ℕ → ℕ
folded filter b = if filter.fold_case && (nat_le 97 b && nat_le b 122) then b - 32 else b

-- how many blanks stand for a tab behind so many columns of its line: up to columns 11, 18 and 30, and then to the next eighth
abbrev pub tab_blanks : ℕ → ℕ
tab_blanks columns =
    if nat_lt columns 10 then 10 - columns
    else if nat_lt columns 17 then 17 - columns
    else if nat_lt columns 29 then 29 - columns
    else 8 - columns % 8

-- so many columns more; no more than 256 are counted
abbrev pub columns_with : ℕ → ℕ → ℕ
columns_with columns more = min (columns + more) 256

-- how many columns of its line stand behind a byte
abbrev pub columns_behind : ℕ → ℕ → ℕ
columns_behind columns b = if b == line_feed then 0 else columns_with columns 1

-- whether a byte is a tab that is filled
abbrev pub is_filled : Filter → ℕ → Bool
is_filled filter b = filter.tabs && (b == tab)

-- the line feed behind an open last line, where one is put there
abbrev pub end_of : Filter → ℕ → List ℕ
end_of filter columns = if filter.last_line && nat_lt 0 columns then line_feed ∷ [] else []

-- what the rest of an input becomes, which stands behind so many columns of its line
abbrev pub filtered : Filter → ℕ → List ℕ → List ℕ
filtered filter columns [] = end_of filter columns
filtered filter columns (b ∷ bytes) =
    if is_filled filter b then replicate (tab_blanks columns) blank ++ filtered filter (columns_with columns (tab_blanks columns)) bytes
    else folded filter b ∷ filtered filter (columns_behind columns b) bytes

-- what is left of a filtered input, where the rest of its reader is known
abbrev pub left_behind : Filter → ℕ → ℕ → Option (List ℕ) → Option (List ℕ)
left_behind filter columns blanks None = None
left_behind filter columns blanks (Some bytes) = Some (replicate blanks blank ++ filtered filter columns bytes)

-- what is left of a filtered input
abbrev pub filtered_left : {R : Type 0} → (R → Option (List ℕ)) → Filtered R → Option (List ℕ)
filtered_left bytes f = left_behind f.filter f.columns f.blanks (bytes f.reader)

-- the next byte was taken, or there was none
abbrev pub NextIs : Option (List ℕ) → Option (List ℕ) → Option ℕ → Type 0
NextIs old new (Some byte) = Consumes old new (byte ∷ [])
NextIs old new None = Consumes old new [] × IsAtEnd new

-- the same, or a fault, by which nothing was taken
abbrev pub GivesNext : {E : Type 0} → Option (List ℕ) → Option (List ℕ) → Result (Option ℕ) E → Type 0
GivesNext old new (Ok next) = NextIs old new next
GivesNext old new (Err e) = Keeps old new

-- the byte with which an end begins, and what is left of it
abbrev pub EndGives : Option ℕ → List ℕ → List ℕ → Type 0
EndGives None old new = (old ≡ []) × (new ≡ [])
EndGives (Some byte) old new = old ≡ byte ∷ new

-- whether a byte is never changed: it is no tab and no small letter
abbrev pub is_plain : ℕ → Bool
is_plain b = not (b == tab) && not (nat_le 97 b && nat_le b 122)

-- whether a line is open behind these bytes, which stand behind an open line or not
abbrev pub is_open : Bool → List ℕ → Bool
is_open was_open [] = was_open
is_open was_open (b ∷ bytes) = is_open (not (b == line_feed)) bytes
