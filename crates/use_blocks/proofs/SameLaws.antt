-- What the tests of names and relocations show.
use Rattle.std.{proofs.Common.{◌≡◌, ℕ, List, ap}, specs.Bool.Decides}
use Rattle.definitions.specs.Forms.{Relocation, Block, External, same_relocation}
use Rattle.expr_forms.proofs.NameLaws.{same_text-Decides}

-- the test of two relocations
pub same_relocation-Decides : (r s : Relocation) → Decides (same_relocation r s) (r ≡ s)
same_relocation-Decides (Block a) (Block b) = let h = same_text-Decides a b in (λ e. ap (λ (n : List ℕ). Block n) (h.0 e), λ e. h.1 (cc))
same_relocation-Decides (Block a) (External b) = (λ e. cc, λ e. cc)
same_relocation-Decides (External a) (Block b) = (λ e. cc, λ e. cc)
same_relocation-Decides (External a) (External b) = let h = same_text-Decides a b in (λ e. ap (λ (n : List ℕ). External n) (h.0 e), λ e. h.1 (cc))
