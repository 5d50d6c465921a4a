-- What a session may do (ours): one that may only ask is refused whatever changes a deck or a file, behind what its lines are refused for, and nothing is called.
use Rattle.std.specs.Prelude.{Bool, true, false, if◌then◌else◌}
use Rattle.session_commands.specs.declared.refusals.Refusal.TheVariants.{ReadOnly}
use Rattle.session_line.specs.declared.{rights.Rights.Rights, rights.Rights.TheVariants.{Edits, Reads}, tasks.Task.Task, tasks.Task.TheVariants.{Make, LoadDeck, LoadAll, ReloadDeck, SaveDeck, SaveAll, Refuse}}

-- whether a task changes a deck or a file
abbrev pub changes : Task → Bool
changes (Make change) = true
changes (LoadDeck name) = true
changes (LoadAll name) = true
changes (ReloadDeck name) = true
changes (SaveDeck name over) = true
changes SaveAll = true
changes _ = false

-- what is done of a task, by what the session may do
abbrev pub allowed : Rights → Task → Task
allowed Edits task = task
allowed Reads task = if changes task then Refuse ReadOnly else task
