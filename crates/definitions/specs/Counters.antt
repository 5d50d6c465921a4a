-- The two counters: `*O` is the word of a statement's place, `*` the same until LOC sets it (COMPASS 60492600, LOC, ORG).
use Rattle.std.specs.Prelude.{ℕ, ◌/◌, List, [], ◌∷◌, Option, Some, None, pos, ◌+ℤ◌, ◌-ℤ◌, if◌then◌else◌}
use Rattle.definitions.specs.{Characters.same_text, Symbols.is_nominal, Forms.{Form, absolute, Added, Block}, Kinds.units, Settled.{Settled, Counting, Unchanged, Counts, Ended}, declared.deck_kind.DeckKind.DeckKind, declared.deck_kind.DeckKind.TheVariants.Rel}

-- the word of a block in which a place lies
abbrev pub word_of_place : DeckKind → ℕ → ℕ
word_of_place kind place = place / units kind

-- a word of a block; in the nominal block of an absolute or peripheral deck it is a number
abbrev pub word_form : DeckKind → List ℕ → ℕ → Form
word_form Rel block word = record { number = pos word; part = Some (Added (Block block)) }
word_form kind block word = if is_nominal block then absolute (pos word) else record { number = pos word; part = Some (Added (Block block)) }

-- the form that is so many words further
abbrev pub moved : Form → ℕ → ℕ → Form
moved form word from = record form { number = form.number +ℤ (pos word -ℤ pos from) }

-- the LOC in force in a block: the latest one that no ORG of the block has ended
abbrev pub counting_in : List ℕ → List Settled → Option Counting
counting_in block [] = None
counting_in block (settled ∷ earlier) =
    elim settled.setting [
      | Unchanged ↦ counting_in block earlier
      | Counts counting ↦ if same_text settled.block block then Some counting else counting_in block earlier
      | Ended ↦ if same_text settled.block block then None else counting_in block earlier
    ]

-- the value of `*` at a word: counted on from the LOC in force, or that of `*O` where there is none
abbrev pub location_from : DeckKind → Form → ℕ → Option Counting → Form
location_from kind origin word None = origin
location_from kind origin word (Some counting) = moved counting.form word (word_of_place kind counting.place)

-- the two counters of a statement
pub record Counters : Type 0 where
  pub location : Form
  pub origin : Form

-- the counters of a statement at this place of its block
abbrev pub counters_at : DeckKind → List ℕ → ℕ → Option Counting → Counters
counters_at kind block place counting =
    let word = word_of_place kind place in
    let origin = word_form kind block word in
    record { location = location_from kind origin word counting; origin = origin }
