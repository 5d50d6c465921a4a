use Rattle.std.proofs.Common.{◌≡◌, ◌++◌, map, take}
use Rattle.definitions.specs.{Forms.characters_number, Kinds.word_bits, Words.cut}
use Rattle.statement_coder.specs.Joins.{Items.item_as, CodedItems.IsKept, WordItems.known_words}
use Rattle.statement_coder.proofs.listing.push_text.Given as goal

-- the words so far stand behind the list
abbrev pub invariant-loop-index : goal.invariant-loop-index
invariant-loop-index l =
    let word = word_bits l.kind in
    record {
      kept : IsKept l.initial.list.items l.list.items;
      told : map item_as l.list.items ≡ map item_as l.initial.list.items ++ known_words word (take l.index (cut word l.text.words (characters_number l.text.characters)));
    }
