-- The lines that CHANGES shows: one for each change of a deck, and behind it its edits as lines of a batch (ours).
use Rattle.std.specs.Prelude.{ℕ, ◌==◌, List, [], ◌∷◌, ◌++◌, length, map, flat_map, codes, decimal, if◌then◌else◌}
use Rattle.cards.specs.declared.edits.Edit.{Edit}
use Rattle.desk_core.specs.declared.past.KeptEdit.{KeptEdit}
use Rattle.session_commands.specs.Lines.{line_in_batch}

-- a change: the version that it made, the name of who asked for it, and its edits
pub record ShownChange : Type 0 where
  pub version : ℕ
  pub by : List ℕ
  pub edits : List Edit

-- a change with this edit, and with others behind it
abbrev pub change_with : KeptEdit → List Edit → ShownChange
change_with kept edits = record { version = kept.version; by = kept.by; edits = kept.edit ∷ edits }

-- an edit in front of changes: it belongs to the first where that made the same version
abbrev pub onto_change : KeptEdit → List ShownChange → List ShownChange
onto_change kept [] = change_with kept [] ∷ []
onto_change kept (change ∷ changes) = if change.version == kept.version then change_with kept change.edits ∷ changes else change_with kept [] ∷ change ∷ changes

-- the changes of edits that are kept
abbrev pub changes_of : List KeptEdit → List ShownChange
changes_of [] = []
changes_of (kept ∷ later) = onto_change kept (changes_of later)

-- the line of a change: its version, who asked for it, and how many edits it has
abbrev pub change_line : ℕ → List ℕ → ℕ → List ℕ
change_line version by count = codes "CHANGE " ++ (decimal version ++ (codes " " ++ (by ++ (codes " " ++ decimal count))))

-- that line, and its edits as lines of a batch
abbrev pub lines_of_change : ShownChange → List (List ℕ)
lines_of_change change = change_line change.version change.by (length change.edits) ∷ map line_in_batch change.edits

-- the lines of the changes of edits
abbrev pub change_lines : List KeptEdit → List (List ℕ)
change_lines kept = flat_map lines_of_change (changes_of kept)
