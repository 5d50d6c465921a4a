-- The steps of writing bytes piece by piece.
use Rattle.std.{proofs.Common.{ℕ, ◌+◌, List, take, drop, subst, sym, Option}, proofs.Math.Seq.take-add, specs.Io.KnownBytes.Appends, proofs.KnownBytes.Appends-trans}

-- the first bytes went out, and then the first of the rest
pub Appends-more : (old new next : Option (List ℕ)) (bytes : List ℕ) (sent more : ℕ) → Appends old new (take sent bytes) → Appends new next (take more (drop sent bytes)) → Appends old next (take (sent + more) bytes)
Appends-more old new next bytes sent more first second =
    subst (λ l. Appends old next l) (sym (take-add sent more bytes)) (Appends-trans old new next (take sent bytes) (take more (drop sent bytes)) first second)
