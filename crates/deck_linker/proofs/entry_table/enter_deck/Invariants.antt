-- What is entered with the entries that are left.
use Rattle.std.{proofs.Common.{ℕ, ◌≡◌, List, drop}, specs.Option.option_or}
use Rattle.indexmap.specs.IndexMap.{get}
use Rattle.definitions.specs.{Characters.same_text, LinkValues.entered_in}
use Rattle.deck_linker.proofs.entry_table.enter_deck.Given as goal

abbrev pub invariant-loop-entry : goal.invariant-loop-entry
invariant-loop-entry l = (name : List ℕ) →
    option_or (get same_text l.table name) (entered_in name l.commons l.based (drop l.entry-index l.entries))
    ≡ option_or (get same_text l.fn.table name) (entered_in name l.commons l.based l.entries)
