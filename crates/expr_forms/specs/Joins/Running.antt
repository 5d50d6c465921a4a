-- A sum while it goes on, in the words of the definitions.
use Rattle.std.specs.Prelude.{ℕ, ◌≡◌, ◌≤◌, ℤ, pos, negsuc, unsigned_abs, List, [], ◌∷◌, Bool, not, map, take, Result, Ok, Err, Option, Some, None, ⊤}
use Rattle.definitions.specs.{Forms.{Relocation, Part, Added, Subtracted, Running, same_relocation}, declared.letter.Letter.Letter}
use Rattle.expr_forms.specs.Joins.FormsAs.{relocation_as}
use Rattle.expr_forms.specs.declared.running.Base as bases
use Rattle.expr_forms.specs.declared.running.RunningSum as sums
use Rattle.expr_forms.specs.declared.running.Added as codes
use Rattle.expr_forms.specs.declared.running.Added.TheVariants as added

-- a base, with what it is multiplied by
abbrev pub base_as : bases.Base → Relocation × ℤ
base_as base = (relocation_as base.relocation, base.times)

-- the bases that stand in a room
abbrev pub bases_as : ℕ → List bases.Base → List (Relocation × ℤ)
bases_as len room = map base_as (take len room)

-- the sum whose bases stand in a room
abbrev pub running_as : sums.RunningSum → List bases.Base → Running
running_as sum room = record { number = sum.number; relocations = bases_as sum.bases room }

-- a base that is another
abbrev pub is_other : Relocation → bases.Base → Bool
is_other relocation base = not (same_relocation relocation (relocation_as base.relocation))

-- nothing is multiplied by more than this
abbrev pub AreSmall : ℕ → List (Relocation × ℤ) → Type 0
AreSmall most [] = Unit {0}
AreSmall most (relocation ∷ relocations) = (unsigned_abs relocation.1 ≤ most) × AreSmall most relocations

-- 1 of what is added, -1 of what is subtracted
abbrev pub part_times : Part → ℤ
part_times (Added relocation) = pos 1
part_times (Subtracted relocation) = negsuc 0

-- what is added or subtracted
abbrev pub part_relocation : Part → Relocation
part_relocation (Added relocation) = relocation
part_relocation (Subtracted relocation) = relocation

-- what came is the sum, or its letter
abbrev pub AddsUp : Result Running Letter → codes.Added → List bases.Base → Type 0
AddsUp running (added.Sum sum) room = running ≡ Ok (running_as sum room)
AddsUp running (added.Fault letter) room = running ≡ Err letter
AddsUp running added.Full room = ⊤

-- a fact on a sum, if one came
abbrev pub ForSum : codes.Added → (sums.RunningSum → Type 0) → Type 0
ForSum (added.Sum sum) P = P sum
ForSum (added.Fault letter) P = ⊤
ForSum added.Full P = ⊤

-- a fact where there was no room
abbrev pub ForFull : codes.Added → Type 0 → Type 0
ForFull (added.Sum sum) P = ⊤
ForFull (added.Fault letter) P = ⊤
ForFull added.Full P = P

-- the base that is left so far, if one is
abbrev pub left_list : Option bases.Base → List (Relocation × ℤ)
left_list None = []
left_list (Some base) = base_as base ∷ []
