-- Records of changes whose versions are not known yet (ours).
use Rattle.std.specs.Prelude.{ℕ, Bool, true, false, not, ◌&&◌, is_none, List, [], Option, Some, None}
use Rattle.cards.specs.declared.edits.Edit.{Edit}
use Rattle.session_commands.specs.declared.words.Seen.TheVariants.{Exactly, Since}
use Rattle.desk_core.specs.declared.calls.{Change.Change, Change.TheVariants.{AddDeck, PutDeck, DropDeck, EditDeck, Undo}, Edits.TheVariants.Batch}
use Rattle.journal.specs.{declared.drafts.Stamp.Stamp, declared.drafts.Form.Form, declared.drafts.Form.TheVariants.{Written, Told, Nothing}, Records.text_behind_version}

-- the text of the record of a change that is asked for so, from behind its version
abbrev pub stamped_text : Stamp → Change → List ℕ
stamped_text stamp change = text_behind_version stamp.moment stamp.by change

-- the text of a record from behind its version
abbrev pub form_text : Form → List ℕ
form_text (Written text) = text
form_text (Told stamp change) = stamped_text stamp change
form_text Nothing = []

-- the change that is made of one that is carried: its edits as the desk made them, by who has seen the version before
abbrev pub change_carried : List ℕ → ℕ → List Edit → Change
change_carried name seen edits = EditDeck name (Exactly seen) (Batch edits)

-- the deck of a change that is carried: its edits are known once the desk has made it
abbrev pub carried_deck : Change → Option (List ℕ)
carried_deck (AddDeck deck) = None
carried_deck (PutDeck deck seen) = None
carried_deck (DropDeck name seen) = None
carried_deck (EditDeck name (Exactly seen) edits) = None
carried_deck (EditDeck name (Since seen) edits) = Some name
carried_deck (Undo name version) = Some name

-- whether a deck is dropped
abbrev pub is_dropped : Change → Bool
is_dropped (AddDeck deck) = false
is_dropped (PutDeck deck seen) = false
is_dropped (DropDeck name seen) = true
is_dropped (EditDeck name seen edits) = false
is_dropped (Undo name version) = false

-- whether what is known before takes memory: the record of a drop does not
abbrev pub takes_memory : Change → Bool
takes_memory change = is_none (carried_deck change) && not (is_dropped change)
