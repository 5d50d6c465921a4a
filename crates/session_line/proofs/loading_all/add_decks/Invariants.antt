use Rattle.std.{proofs.Common.{◌≡◌, drop, length, take}, specs.Prelude.vec_capacity, specs.Vec.Iter.into_iter_items}
use Rattle.session_line.specs.LoadingAll.{AddsDecks}
use Rattle.session_line.proofs.loading_all.add_decks.Given as goal

-- the first decks were added, the others are left, and there is room for a line of each
abbrev pub invariant-loop-deck : goal.invariant-loop-deck
invariant-loop-deck g l = record {
  added : AddsDecks g.C.Calls.relations l.fn.desk (take (length l.lines.items) l.fn.decks.items) l.lines.items l.desk;
  left : into_iter_items l.deck-iterator ≡ drop (length l.lines.items) l.fn.decks.items;
  room : vec_capacity l.lines ≡ length l.fn.decks.items;
}
