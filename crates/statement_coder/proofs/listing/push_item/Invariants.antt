use Rattle.std.proofs.Common.{◌≡◌, ◌*◌, ◌++◌, map, take}
use Rattle.definitions.specs.{Coding.{counted_item_bits, words_needed}, Kinds.word_bits, Words.cut}
use Rattle.statement_coder.specs.Joins.{Items.item_as, CodedItems.IsKept, WordItems.known_words}
use Rattle.statement_coder.proofs.listing.push_item.Given as goal

-- the words so far stand behind the list
abbrev pub invariant-loop-index : goal.invariant-loop-index
invariant-loop-index l =
    let word = word_bits l.kind in
    let words = words_needed word l.item in
    record {
      kept : IsKept l.initial.list.items l.list.items;
      told : map item_as l.list.items ≡ map item_as l.initial.list.items ++ known_words word (take l.index (cut word words (counted_item_bits (words * word) l.item)));
    }
