-- What stands before a card, in the words of the definitions.
use Rattle.std.specs.Prelude.{◌+◌, List, not, ◌&&◌, Bool, nat_le, if◌then◌else◌}
use Rattle.definitions.specs.{Cards.{Card, is_comma_card, is_comment}, Statements.{comma_cards, has_owner}}
use Rattle.cards.specs.declared.statement_list.Before.{Before}

-- what stands before a card that comes behind these, newest first
abbrev pub before_of : List Card → Before
before_of earlier = record { comma_cards = comma_cards earlier; has_owner = has_owner earlier }

-- whether a card belongs to the statement of what stands before it
abbrev pub is_continued_by : Before → Card → Bool
is_continued_by before card = is_comma_card card && before.has_owner && nat_le before.comma_cards 8

-- what stands before the next card
abbrev pub with_card : Card → Before → Before
with_card card before =
    if is_comma_card card then record before { comma_cards = before.comma_cards + 1 }
    else record { comma_cards = 0; has_owner = not (is_comment card) }
