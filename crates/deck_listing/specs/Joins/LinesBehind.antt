-- Decks that begin behind the END of another, from the lines of its object (ours).
use Rattle.std.specs.Prelude.{ℕ, ◌+◌, Bool, ◌&&◌, is_none, List, [], ◌∷◌, drop, take, if◌then◌else◌}
use Rattle.definitions.specs.{Cards.Card, Objects.Shown}
use Rattle.deck_objects.specs.declared.lines.Line.{Line}
use Rattle.deck_cuts.specs.Cuts.{begins_deck}
use Rattle.deck_listing.specs.DecksBehind.{do_begin}

-- whether a statement stands behind END and begins another deck
abbrev pub begins_behind : Shown → Bool
begins_behind shown = is_none shown.coded && do_begin shown.statement.cards

-- how many begin with a statement of these cards, which stands behind END or not
abbrev pub begun_by : List Card → Bool → ℕ
begun_by [] is_behind = 0
begun_by (card ∷ cards) is_behind = if is_behind && begins_deck card then 1 else 0

-- how many begin with statements that have these cards
abbrev pub begun_in : List Card → List Line → ℕ
begun_in cards [] = 0
begun_in cards (shown ∷ lines) = begun_by (take shown.cards cards) (is_none shown.coded) + begun_in (drop shown.cards cards) lines
