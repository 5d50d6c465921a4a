-- How far a journal is kept (ours): so many bytes, and the check sum of them.
use Rattle.std.specs.{Prelude.{ℕ, ◌≡◌, ◌+◌, ◌==◌, ◌≤◌, ◌⊎◌, Bool, false, ◌&&◌, List, length, Option, Some, None, nat_lt, nat_le, if◌then◌else◌}, Io.KnownBytes.{Consumes, IsAtEnd}}
use Rattle.journal.specs.{declared.marks.Mark.Mark, declared.places.Ending.Ending, declared.places.Ending.TheVariants.{Whole, Cut, Faulty}, CheckSums.{first_sum, sum_over}}

-- the mark of no bytes
abbrev pub first_mark : Mark
first_mark = record { length = 0; sum = first_sum }

-- the mark with more bytes behind those that it is of
abbrev pub mark_behind : Mark → List ℕ → Mark
mark_behind mark bytes = record { length = mark.length + length bytes; sum = sum_over mark.sum bytes }

-- the mark of some bytes
abbrev pub mark_of : List ℕ → Mark
mark_of bytes = mark_behind first_mark bytes

-- the reader lost bytes of this mark and no others, at most so many
pub record IsRead (old new : Option (List ℕ)) (most : ℕ) (mark : Mark) : Type 0 where
  pub taken : List ℕ
  pub consumed : Consumes old new taken
  pub mark_is : mark ≡ mark_of taken
  pub most_is : length taken ≤ most

-- these are so many, or all that it had, where it had fewer
pub record IsFront (old new : Option (List ℕ)) (most : ℕ) (mark : Mark) : Type 0 where
  pub read : IsRead old new most mark
  pub all : (mark.length ≡ most) ⊎ IsAtEnd new

-- one mark is the other
abbrev pub is_same_mark : Mark → Mark → Bool
is_same_mark one two = (one.length == two.length) && (one.sum == two.sum)

-- a journal of so many bytes has all that is noted, as many at least, and the record that begins at a byte is one of those
abbrev pub is_noted : ℕ → ℕ → Option Mark → Bool
is_noted begin length None = false
is_noted begin length (Some mark) = nat_lt begin mark.length && nat_le mark.length length

-- all that is noted stands in front of a byte
abbrev pub is_behind : ℕ → Option Mark → Bool
is_behind begin None = false
is_behind begin (Some mark) = nat_le mark.length begin

-- how many bytes stay of a journal of so many that ends like this, by what is noted of it and whether it holds that; none where nothing may be cut off. A last record that is cut or damaged goes, unless it is noted; what else is no record goes with all behind it, where the journal holds what is noted, and that stands in front
abbrev pub kept_length : Ending → ℕ → Option Mark → Bool → Option ℕ
kept_length Whole length noted held = Some length
kept_length (Cut begin) length noted held = if is_noted begin length noted then None else Some begin
kept_length (Faulty number begin) length noted held = if held && is_behind begin noted then Some begin else None
