-- Counted items as a program finds them in a text, in the words of the definitions (ours).
use Rattle.definitions.specs.CountedItems.{CountedItem, CountedSpan}
use Rattle.definitions.specs.declared.item_text.ItemText as items
use Rattle.definitions.specs.declared.item_text.ItemSpan as spans

-- the item
abbrev pub item_as : items.ItemText → CountedItem
item_as item = record { letter = item.letter; characters = item.characters.now }

-- the item and how many characters it takes
abbrev pub span_as : spans.ItemSpan → CountedSpan
span_as span = record { item = item_as span.item; taken = span.taken }
