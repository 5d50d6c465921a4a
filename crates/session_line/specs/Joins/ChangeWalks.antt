-- The changes of edits that are kept, one after the other (ours).
use Rattle.std.specs.{Prelude.{ℕ, suc, ◌==◌, List, [], ◌∷◌, flat_map, map}, List.prefix_len}
use Rattle.desk_core.specs.declared.past.KeptEdit.{KeptEdit}
use Rattle.session_commands.specs.Lines.{line_in_batch}
use Rattle.session_line.specs.{ChangeLines.{change_with, lines_of_change}, Replies.line_of}

-- how many of the first edits made this version
abbrev pub run_len : ℕ → List KeptEdit → ℕ
run_len version kept = prefix_len (λ (one : KeptEdit). one.version == version) kept

-- how many edits the first change has
abbrev pub first_len : List KeptEdit → ℕ
first_len [] = 0
first_len (one ∷ later) = suc (run_len one.version later)

-- the lines of edits of one change
abbrev pub lines_of_one : List KeptEdit → List (List ℕ)
lines_of_one [] = []
lines_of_one (one ∷ later) = lines_of_change (change_with one (map (λ (kept : KeptEdit). kept.edit) later))

-- the lines of edits alone
abbrev pub edits_text : List KeptEdit → List ℕ
edits_text kept = flat_map (λ (one : KeptEdit). line_of (line_in_batch one.edit)) kept
