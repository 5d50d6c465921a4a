-- How far the statements of a block have come, and that each begins behind those before it.
-- Lists of statements are read newest first.
use Rattle.std.specs.Prelude.{ℕ, ◌≡◌, ◌*◌, ◌%◌, ◌<◌, ◌≤◌, ⊤, List, [], ◌∷◌, Bool, true, false, map}
use Rattle.definitions.specs.{Characters.same_text, Kinds.{units, word_bits, most_words}, Objects.coded_of, Places.position_in, Settled.Settled, StatementItems.{Context, Item, items_of}, Words.Coded, declared.deck_kind.DeckKind.DeckKind, Laws.Filling.{DoFill, DoFit, AreLongWhole}}
use Rattle.definitions.specs.Operations as op

-- a run that begins has reached nothing; fields reach to the end of their statement
abbrev pub end_behind : Bool → ℕ → List Item → ℕ → ℕ
end_behind true end fields before = 0
end_behind false end [] before = before
end_behind false end (item ∷ fields) before = end

-- how far a run has come behind a statement, where that is one of its block
abbrev pub end_with : Bool → Coded → ℕ → ℕ
end_with false coded before = before
end_with true coded before = end_behind coded.settled.begins_run coded.settled.end coded.fields before

-- the end of the latest statement with fields in the latest run of a block, or 0
abbrev pub run_end : List ℕ → List Coded → ℕ
run_end block [] = 0
run_end block (coded ∷ earlier) = end_with (same_text coded.settled.block block) coded (run_end block earlier)

-- how a statement stands in its block: its place, its end and its fields
pub record IsLaidOut (kind : DeckKind) (coded : Coded) (earlier : List Coded) : Type 0 where
  -- it begins where the run of its block has come to, or behind that
  pub behind : run_end coded.settled.block earlier ≤ coded.settled.place
  -- it does not end before its place, and its block ends behind both
  pub ordered : coded.settled.begins_run ≡ false → coded.settled.place ≤ coded.settled.end
  pub place_within : coded.settled.place ≤ units kind * most_words kind
  pub end_within : coded.settled.end ≤ units kind * most_words kind
  -- an ORG that begins a run goes to a word of the block, which may lie before its place; it has no fields
  pub at_word : coded.settled.begins_run ≡ true → coded.settled.end % units kind ≡ 0
  pub in_block : coded.settled.begins_run ≡ true → coded.settled.end < units kind * most_words kind
  pub bare : coded.settled.begins_run ≡ true → coded.fields ≡ []
  -- its fields reach from its place to its end, have room, and are whole words where they are long
  pub filled : DoFill kind coded.settled.place coded.settled.end coded.fields
  pub fitting : DoFit coded.fields
  pub long : AreLongWhole (word_bits kind) coded.fields

-- each of these statements stands so behind those before it
abbrev pub AreLaidOut : DeckKind → List Coded → Type 0
AreLaidOut kind [] = ⊤
AreLaidOut kind (coded ∷ earlier) = IsLaidOut kind coded earlier × AreLaidOut kind earlier

-- a statement stands at or behind the end of its block
abbrev pub StandsBehind : List Settled → Settled → Type 0
StandsBehind earlier settled = (position_in settled.block earlier).end ≤ settled.place

-- it ends at or behind its place, unless it begins a run
abbrev pub EndsBehind : Settled → Type 0
EndsBehind settled = settled.begins_run ≡ false → settled.place ≤ settled.end

-- one that begins a run is an ORG, which goes to a word of the block and has no fields
abbrev pub IsOrigin : DeckKind → Context → Settled → Type 0
IsOrigin kind context settled = settled.begins_run ≡ true →
    (settled.read.operation ≡ op.Org) × (settled.end % units kind ≡ 0) × (settled.end < units kind * most_words kind)
    × (items_of context settled settled.read.operation ≡ [])

-- its place is within the block
abbrev pub StandsWithin : DeckKind → Settled → Type 0
StandsWithin kind settled = settled.place ≤ units kind * most_words kind

-- and so is its end
abbrev pub EndsWithin : DeckKind → Settled → Type 0
EndsWithin kind settled = settled.end ≤ units kind * most_words kind

-- the fields of a run end within what its block has come to
abbrev pub RunsEndWithin : Context → List ℕ → List Settled → Type 0
RunsEndWithin context block settled = run_end block (map (coded_of context) settled) ≤ (position_in block settled).end
