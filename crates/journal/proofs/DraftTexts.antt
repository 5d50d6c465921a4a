-- The text of a draft with its version, as the lines of a record.
use Rattle.std.proofs.Common.{ℕ, ◌≡◌, List, [], ◌∷◌, ◌++◌, codes, sym, ap, ◌∙◌, append_assoc}
use Rattle.definitions.specs.Characters.{line_feed}
use Rattle.session_commands.specs.Lines.{behind_a_blank}
use Rattle.journal.specs.Records.{ended}

-- one part behind the other, as a first line and what stands behind it
pub as-line : (number moment by line behind : List ℕ) →
    codes "RECORD" ++ (behind_a_blank number ++ (behind_a_blank moment ++ (behind_a_blank by ++ (codes " " ++ (line ++ (line_feed ∷ [] ++ behind)))))) ≡
    ended (codes "RECORD" ++ behind_a_blank (number ++ behind_a_blank (moment ++ behind_a_blank (by ++ behind_a_blank line)))) ++ behind
as-line number moment by line behind =
    let rest : List ℕ = line_feed ∷ behind in
    let asked : List ℕ = behind_a_blank line in
    let named : List ℕ = behind_a_blank (by ++ asked) in
    let timed : List ℕ = behind_a_blank (moment ++ named) in
    let all : (number ++ timed) ++ rest ≡ number ++ behind_a_blank (moment ++ behind_a_blank (by ++ (asked ++ rest))) =
    append_assoc number timed rest ∙ ap (λ (t : List ℕ). number ++ behind_a_blank t) (append_assoc moment named rest ∙ ap (λ (t : List ℕ). moment ++ behind_a_blank t) (append_assoc by asked rest)) in
    sym (append_assoc (codes "RECORD" ++ behind_a_blank (number ++ timed)) (line_feed ∷ []) behind ∙ ap (λ (t : List ℕ). codes "RECORD" ++ behind_a_blank t) all)
