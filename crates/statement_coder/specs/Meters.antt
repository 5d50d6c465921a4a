-- How often statements were sized or coded (ours).
use Rattle.std.specs.Prelude.{ℕ, ◌≡◌, ◌+◌, ◌^◌, ◌<◌, ◌≤◌}
pub use Rattle.work_meter.specs.Counts.{Counts}

-- a count rose by exactly so many, unless that is beyond its greatest value
abbrev pub RisesBy : ℕ → ℕ → ℕ → Type 0
RisesBy count old new = old + count < 2 ^ 64 → new ≡ old + count

-- neither count fell, and neither rose by more than so many
pub record CountsAtMost (most : ℕ) (old new : Counts) : Type 0 where
  pub sized_rises : old.sized ≤ new.sized
  pub sized_few : new.sized ≤ old.sized + most
  pub coded_rises : old.coded ≤ new.coded
  pub coded_few : new.coded ≤ old.coded + most
