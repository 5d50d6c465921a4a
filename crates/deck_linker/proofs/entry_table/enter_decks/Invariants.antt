-- What is entered with the entries of the decks that are left.
use Rattle.std.{proofs.Common.{ℕ, ◌≡◌, List, drop}, specs.Option.option_or}
use Rattle.indexmap.specs.IndexMap.{get}
use Rattle.definitions.specs.{Characters.same_text, LinkValues.entered}
use Rattle.deck_linker.proofs.entry_table.enter_decks.Given as goal

abbrev pub invariant-loop-based : goal.invariant-loop-based
invariant-loop-based l = (name : List ℕ) →
    option_or (get same_text l.table name) (entered name l.commons (drop l.based-index l.decks)) ≡ entered name l.commons l.decks
