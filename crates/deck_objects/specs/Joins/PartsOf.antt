-- The parts of an object, and the object of the definitions that they are.
use Rattle.std.specs.Prelude.{◌≡◌, ◌≤◌, List, length, reverse}
use Rattle.definitions.specs.{Cards.Card, Objects.Object, Laws.Reaching.DoReach, Laws.Rising.AreLaidOut}
use Rattle.deck_objects.specs.{Joins.CodedLines.{AreShown, AreCoded}, declared.object.ObjectParts.ObjectParts}

-- these are the parts of the object of a deck with these cards
pub record ArePartsOf (cards : List Card) (parts : ObjectParts) (object : Object) : Type 0 where
  pub kind : parts.kind ≡ object.kind
  pub rows : parts.bases ≡ object.rows
  pub literals : parts.literals.items ≡ object.literals
  pub entries : parts.entries.items ≡ object.entries
  pub externals : parts.externals.items ≡ object.externals
  -- the lines in the order of the deck; those up to END once more
  pub shown : AreShown parts.kind parts.bases parts.fields 0 cards parts.lines.items (reverse object.shown)
  pub coded : AreCoded parts.kind parts.bases parts.fields parts.lines.items (reverse object.coded)
  -- where its statements stand
  pub laid : AreLaidOut object.kind object.coded
  pub reach : DoReach object.kind object.coded
  pub few : length cards ≤ 20000
