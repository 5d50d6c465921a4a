use Rattle.std.proofs.{Common.{rules, arith, ◌≡◌, ℕ, ◌<◌, [], length, sym, ap, ◌∙◌}, lemmas.List.FromFn.length-map-range_with_len}
use Rattle.turn_office.{specs.Rule.{at_rest, seen_of}, specs.Seats.new_seats, proofs.Dealing.{dealt_next, dealt_rest, dealt_more}, proofs.Seating.deals}
use Rattle.turn_office.proofs.office.Office.deal.Goals as goal

pub split_seat-place-requires : goal.split_seat-place-requires
split_seat-place-requires g c = (search rules, search rules, deals g.O.Sequential.allowed _ _ _ _ (ap (λ m. m.0.stage) c.loop-number.invariant.rest))

pub invariant_of-push_reserved : goal.invariant_of-push_reserved
invariant_of-push_reserved g c = let n : ℕ = c.loop-number.number in let near : n < c.args.self.now.seats = search rules in
    let is = dealt_next n _ _ _ near c.loop-number.invariant.rest c.split_seat-place.ensures.4 in is ∙ ap (λ m. (at_rest n (seen_of m.0), [])) (sym is)

pub push_reserved-requires : goal.push_reserved-requires
push_reserved-requires g c = let n : ℕ = c.loop-number.number in let list = c.loop-number.list in let long : length list.items ≡ n = ap length c.loop-number.invariant.dealt ∙ length-map-range_with_len _ 0 n in
    let near : n < c.args.self.now.seats = search rules in omega (arith, list.ok.0, c.loop-number.invariant.room, c.requires.room.1)

pub loop-number-preserved : goal.loop-number-preserved
loop-number-preserved g c = let n : ℕ = c.loop-number.number in let near : n < c.args.self.now.seats = search rules in let dealer = c.loop-number.invariant in
    let is = dealt_next n _ _ _ near dealer.rest c.split_seat-place.ensures.4 in record {
      own = c.split_seat-place.ensures.0 ∙ dealer.own;
      rest = dealt_rest n _ _ _ near dealer.rest c.split_seat-place.ensures.2;
      dealt = dealt_more _ n c.loop-number.list.items c.push_reserved.new.self.items c.split_seat-place.result (c.split_seat-place.ensures.3 ∙ (dealer.own ∙ c.requires.own)) is dealer.dealt c.push_reserved.ensures.items;
      room = c.push_reserved.ensures.capacity ∙ dealer.room;
    }

pub returns : goal.returns
returns g c = let same : c.self.inside.board.shared.key.seats ≡ c.args.self.now.seats = ap (λ o. o.seats) c.self.view_is in let whole : c.loop-number.number ≡ c.args.self.now.seats = omega arith in
    c.loop-number.invariant.dealt ∙ ap (new_seats c.args.self.now.id) whole
