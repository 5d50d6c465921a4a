-- A deck that stands alone is linked as one without other decks and common blocks.
use Rattle.std.proofs.Common.{◌≡◌, ℕ, List, [], false, ap}
use Rattle.definitions.specs.{Lengths.BlockRow, Layout.{Based, Layout}, LinkValues.linking_of, Objects.Object}
use Rattle.deck_listing.specs.Joins.Alone.{alone_linking}

-- no other decks and no common blocks
abbrev pub nothing : Layout
nothing = record { decks = []; commons = [] }

-- an object at a base
abbrev pub placed : Object → ℕ → Based
placed object base = record { object = object; base = base; is_past = false }

pub alone-linked : (object : Object) (rows : List BlockRow) (base : ℕ) → rows ≡ object.rows → alone_linking rows base ≡ linking_of nothing (placed object base)
alone-linked object rows base e = ap (λ rs. alone_linking rs base) e
