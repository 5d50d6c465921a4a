-- Steps of reading the first bytes of a journal: their mark goes on.
use Rattle.std.{proofs.Common.{ℕ, ◌≡◌, ◌+◌, ◌-◌, ◌≤◌, List, [], ◌++◌, length, Option, sym, ap, ◌∙◌, arith, length-append}, proofs.lemmas.Grind.fold-append, proofs.KnownBytes.Consumes-trans, specs.Io.KnownBytes.Consumes}
use Rattle.journal.specs.{declared.marks.Mark.Mark, Marks.{first_mark, mark_behind, IsRead}, CheckSums.{sum_over, sum_after}}

pub mark-none : (mark : Mark) → mark ≡ mark_behind mark []
mark-none mark = let same : mark.length ≡ mark.length + 0 = omega arith in ap (λ (n : ℕ). record mark { length = n }) same

pub mark-more : (mark : Mark) (text more : List ℕ) → mark_behind (mark_behind mark text) more ≡ mark_behind mark (text ++ more)
mark-more mark text more =
    let both : length (text ++ more) ≡ length text + length more = length-append text more in
    let size : mark.length + length text + length more ≡ mark.length + length (text ++ more) = omega (arith, both) in
    let sums : sum_over (sum_over mark.sum text) more ≡ sum_over mark.sum (text ++ more) = sym (fold-append sum_after mark.sum text more) in
    ap (λ (n : ℕ). record mark { length = n; sum = sum_over (sum_over mark.sum text) more }) size
    ∙ ap (λ (n : ℕ). record mark { length = mark.length + length (text ++ more); sum = n }) sums

pub read-more : (old middle new : Option (List ℕ)) (most : ℕ) (mark next : Mark) (bytes : List ℕ) → IsRead old middle most mark → Consumes middle new bytes → length bytes ≤ most - mark.length → next ≡ mark_behind mark bytes → IsRead old new most next
read-more old middle new most mark next bytes read consumed room is =
    let with_none : mark.length ≡ 0 + length read.taken = ap (λ (m : Mark). m.length) read.mark_is in
    let sum : mark.length ≡ length read.taken = omega (arith, with_none) in
    let both : length (read.taken ++ bytes) ≡ length read.taken + length bytes = length-append read.taken bytes in
    record {
      taken = read.taken ++ bytes;
      consumed = Consumes-trans old middle new read.taken bytes read.consumed consumed;
      mark_is = is ∙ (ap (λ (m : Mark). mark_behind m bytes) read.mark_is ∙ mark-more first_mark read.taken bytes);
      most_is = omega (arith, sum, both, room, read.most_is);
    }
