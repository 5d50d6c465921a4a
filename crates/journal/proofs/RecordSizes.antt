-- How long the texts of short records are.
use Rattle.std.{proofs.Common.{ℕ, ◌≡◌, ◌+◌, ◌<◌, ◌≤◌, ◌^◌, List, [], ◌∷◌, ◌++◌, length, ap, subst, ◌∙◌, arith, length-append, codes}, specs.Prelude.{decimal, Result, Ok, Err, OnErr}, proofs.lemmas.Fmt.length-decimal-le}
use Rattle.definitions.specs.Characters.{line_feed}
use Rattle.session_commands.specs.Lines.{behind_a_blank}
use Rattle.desk_core.specs.declared.calls.Change.TheVariants.{DropDeck}
use Rattle.journal.{specs.CheckSums.check_sum, specs.Records.{ended, sum_line, line_of_change, text_behind_version, text_with_version}, specs.RecordTexts.{IsLarge, IsLong}, proofs.PlainTexts.decimal-short, proofs.RecordChains.sum-told}

digits : (n : ℕ) → n < 2 ^ 64 → length (decimal n) ≤ 20
digits n within = length-decimal-le 20 n (omega arith) (omega (arith, within)) (omega (arith, within))

-- a text that is large with its version and its check sum is long without
pub large-long : (version : ℕ) (behind old text : List ℕ) → version + 1 < 2 ^ 64 → old ≡ [] → text ≡ old ++ text_with_version version behind → IsLarge text → IsLong behind
large-long version behind old text within none is large =
    let number : List ℕ = behind_a_blank (decimal version) in
    let front : List ℕ = codes "RECORD" ++ (number ++ behind) in
    let sum : ℕ = check_sum front in
    let many : 256 < length (text_with_version version behind) = subst (λ (t : List ℕ). IsLarge t) (is ∙ ap (λ (t : List ℕ). t ++ text_with_version version behind) none) large in
    let below : version < 2 ^ 64 = omega (arith, within) in
    omega (
      arith,
      many,
      digits version below,
      decimal-short sum (sum-told front),
      length-append (codes "RECORD") (number ++ behind),
      length-append number behind,
      length-append (codes " ") (decimal version),
      length-append front (ended (sum_line sum)),
      length-append (sum_line sum) (line_feed ∷ []),
      length-append (codes "SUM") (behind_a_blank (decimal sum ++ [])),
      length-append (codes " ") (decimal sum ++ []),
      length-append (decimal sum) [],
    )

pub on-err : {T E : Type 0} (result : Result T E) (P : Type 0) → P → OnErr result P
on-err (Ok value) P p = tt
on-err (Err fault) P p = p

-- the record of a drop is not long
pub drop-short : (moment by name : List ℕ) (seen : ℕ) → length moment ≡ 20 → length by ≤ 7 → length name ≤ 7 → seen < 2 ^ 64 → IsLong (text_behind_version moment by (DropDeck name seen)) → ⊥
drop-short moment by name seen of_moment of_by of_name within long =
    let number : List ℕ = decimal seen ++ [] in
    let named : List ℕ = name ++ behind_a_blank number in
    let line : List ℕ = codes "DROP" ++ behind_a_blank named in
    let rest : List ℕ = codes " " ++ (line ++ line_feed ∷ []) in
    omega (
      arith,
      long,
      of_moment,
      of_by,
      of_name,
      digits seen within,
      length-append (behind_a_blank moment) (behind_a_blank by ++ rest),
      length-append (codes " ") moment,
      length-append (behind_a_blank by) rest,
      length-append (codes " ") by,
      length-append (codes " ") (line ++ line_feed ∷ []),
      length-append line (line_feed ∷ []),
      length-append (codes "DROP") (behind_a_blank named),
      length-append (codes " ") named,
      length-append name (behind_a_blank number),
      length-append (codes " ") number,
      length-append (decimal seen) [],
    )
