-- Common blocks in a set: two are equal where their names are, and then they are hashed alike.
use Rattle.std.specs.{Prelude.{ℕ, ◌≡◌, List, Bool, true}, Cmp.{IsEquivalence, on_equiv}}
use Rattle.definitions.specs.{Characters.same_text, Layout.Common}
use Rattle.use_blocks.specs.Joins.NameKeys.{alone, alone_same, same_text_equivalence}

-- the name of a common block
abbrev pub name_of : Common → List ℕ
name_of common = common.name

-- whether two have the same name
abbrev pub are_named_alike : Common → Common → Bool
are_named_alike common other = same_text (name_of common) (name_of other)

-- this test is an equivalence
pub are_named_alike_equivalence : IsEquivalence are_named_alike
are_named_alike_equivalence = on_equiv name_of same_text_equivalence

-- two of one name are hashed alike
pub alone_of_alike : (common other : Common) → are_named_alike common other ≡ true → alone (name_of common) ≡ alone (name_of other)
alone_of_alike common other same = alone_same (name_of common) (name_of other) same
