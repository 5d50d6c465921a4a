-- How often statements were sized and coded (ours).
use Rattle.std.specs.Prelude.{ℕ}

pub record Counts : Type 0 where
  pub sized : ℕ
  pub coded : ℕ
