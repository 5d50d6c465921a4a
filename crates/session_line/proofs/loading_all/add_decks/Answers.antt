use Rattle.std.{proofs.Common.{◌≡◌, ◌∷◌, List, drop, length, ap, sym, ◌∙◌}, specs.Prelude.vec_capacity, specs.Vec.Iter.into_iter_items}
use Rattle.session_line.{specs.declared.told_decks.ToldDeck.ToldDeck, proofs.AddSteps.{adds-more, adds-none, behind-left}}
use Rattle.session_line.proofs.loading_all.add_decks.Goals as goal

pub loop-deck-init : goal.loop-deck-init
loop-deck-init g c =
    let all : into_iter_items c.into_iter-deck-iterator.result ≡ c.args.decks.items = c.into_iter-deck-iterator.ensures.into_iter_gives.0 in
    let none : drop (length c.in_ok-lines.lines.items) c.args.decks.items ≡ c.args.decks.items = ap (λ (lines : List ToldDeck). drop (length lines) c.args.decks.items) c.in_ok-lines.ensures.items in
    let exact : vec_capacity c.in_ok-lines.lines ≡ c.len.result = c.in_ok-lines.ensures.exact in
    let room : vec_capacity c.in_ok-lines.lines ≡ length c.args.decks.items = exact ∙ c.len.ensures ∙ c.args.decks.ok.0 in
    record {
      added = adds-none g.C.Calls.relations c.args.desk.now c.args.decks.items c.in_ok-lines.lines.items c.in_ok-lines.ensures.items;
      left = all ∙ sym none;
      room = room;
    }

pub loop-deck-preserved : goal.loop-deck-preserved
loop-deck-preserved g c =
    let next : into_iter_items c.loop-deck.deck-iterator ≡ c.in-Some.deck ∷ into_iter_items c.next.new.self = c.in-Some.ensures.steps.0 in
    let left : c.in-Some.deck ∷ into_iter_items c.next.new.self ≡ drop (length c.loop-deck.lines.items) c.args.decks.items = sym next ∙ c.loop-deck.invariant.left in
    let capacity : vec_capacity c.push_reserved.new.self ≡ vec_capacity c.loop-deck.lines = c.push_reserved.ensures.capacity in
    record {
      added = adds-more g.C.Calls.relations c.args.desk.now c.loop-deck.desk c.add_deck.new.desk c.args.decks.items c.loop-deck.lines.items c.push_reserved.new.self.items c.in-Some.deck (into_iter_items c.next.new.self) c.add_deck.result
          c.loop-deck.invariant.added c.add_deck.ensures left c.push_reserved.ensures.items;
      left = behind-left c.args.decks.items c.loop-deck.lines.items c.push_reserved.new.self.items c.add_deck.result c.in-Some.deck (into_iter_items c.next.new.self) left c.push_reserved.ensures.items;
      room = capacity ∙ c.loop-deck.invariant.room;
    }
