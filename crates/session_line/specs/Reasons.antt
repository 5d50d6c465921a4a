-- How a session is shown why the desk or the shelf refuses (ours).
use Rattle.desk_core.specs.declared.replies.Refusal.{Refusal as DeskRefusal}
use Rattle.desk_core.specs.declared.replies.Refusal.TheVariants as desk
use Rattle.deck_cuts.specs.declared.cut_fault.CutFault.{CutFault}
use Rattle.deck_cuts.specs.declared.cut_fault.CutFault.TheVariants as cut
use Rattle.deck_files.specs.declared.{load_fault.LoadFault.LoadFault, deck_shelf.ShelfLoadFault.ShelfLoadFault, deck_shelf.ShelfSaveFault.ShelfSaveFault}
use Rattle.deck_files.specs.declared.load_fault.LoadFault.TheVariants as load
use Rattle.deck_files.specs.declared.deck_shelf.ShelfLoadFault.TheVariants as shelf_load
use Rattle.deck_files.specs.declared.deck_shelf.ShelfSaveFault.TheVariants as shelf_save
use Rattle.session_commands.specs.declared.refusals.Refusal.{Refusal}
use Rattle.session_commands.specs.declared.refusals.Refusal.TheVariants as refusal

-- a refusal of the desk
abbrev pub desk_reason : DeskRefusal → Refusal
desk_reason desk.OutOfMemory = refusal.OutOfMemory
desk_reason desk.NoSuchCard = refusal.NoSuchCard
desk_reason desk.DeckFull = refusal.DeckFull
desk_reason desk.NameTaken = refusal.NameTaken
desk_reason desk.NoDeck = refusal.NoDeck
desk_reason (desk.OldVersion current) = refusal.OldVersion current
desk_reason desk.TooManyDecks = refusal.TooManyDecks
desk_reason desk.UnknownJob = refusal.UnknownJob
desk_reason (desk.Stale current) = refusal.Stale current
desk_reason desk.Foreign = refusal.Foreign
desk_reason desk.NoPublication = refusal.NoPublication
desk_reason desk.VersionsSpent = refusal.VersionsSpent
desk_reason (desk.BadEdit number fault) = refusal.BadEdit number fault
desk_reason desk.BatchSize = refusal.BatchSize
desk_reason desk.NotKept = refusal.NotKept
desk_reason (desk.Forgotten oldest) = refusal.Forgotten oldest
desk_reason (desk.TouchedCard card version) = refusal.Touched card version
desk_reason desk.NoChange = refusal.NoChange

-- a fault of a file
abbrev pub file_reason : LoadFault → Refusal
file_reason load.ReadFault = refusal.ReadFault
file_reason (load.BadLine line fault) = refusal.BadLine line fault
file_reason load.LastLineCut = refusal.LastLineCut
file_reason load.DeckFull = refusal.DeckFull
file_reason load.OutOfMemory = refusal.OutOfMemory

-- a fault of cards that are no decks
abbrev pub cut_reason : CutFault → Refusal
cut_reason cut.OutOfMemory = refusal.OutOfMemory
cut_reason cut.DeckFull = refusal.DeckFull
cut_reason cut.NameTaken = refusal.NameTaken
cut_reason cut.TooManyDecks = refusal.TooManyDecks
cut_reason (cut.BadName number) = refusal.BadName

-- a fault of the shelf in loading
abbrev pub load_reason : ShelfLoadFault → Refusal
load_reason shelf_load.CannotOpen = refusal.CannotOpen
load_reason (shelf_load.BadFile fault) = file_reason fault

-- a fault of the shelf in saving
abbrev pub save_reason : ShelfSaveFault → Refusal
save_reason shelf_save.CannotOpen = refusal.CannotOpen
save_reason shelf_save.FileExists = refusal.FileExists
save_reason (shelf_save.WriteFault sent) = refusal.WriteFault sent
save_reason shelf_save.OutOfMemory = refusal.OutOfMemory
