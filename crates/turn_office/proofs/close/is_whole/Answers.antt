use Rattle.std.{proofs.Common.{rules, arith, tests, ◌≡◌, ℕ, ◌&&◌, ◌==◌, Bool, refl, sym, ap, ◌∙◌, eq-eqb, length}, specs.List.{list_all, list_any, range_with_len}, proofs.lemmas.Iterator.YieldsList-from_range, proofs.lemmas.Iterator.Search.all_from_yields_List}
use Rattle.turn_office.proofs.close.is_whole.Goals as goal

pub returns-then-list-seats : goal.returns-then-list-seats
returns-then-list-seats g c = let list = c.args.list.now in let test = λ (n : ℕ). list_any (λ seat. seat.number == n) list in
    let all : c.all.result ≡ list_all test (range_with_len 0 c.args.seats) = all_from_yields_List test _ _ c.all.result c.all.ensures.ran (YieldsList-from_range 0 c.args.seats c.args.seats refl (omega arith)) (λ x b q k. search (rules, tests)) in
    all ∙ ap (λ (b : Bool). b && list_all test (range_with_len 0 c.args.seats)) (sym (eq-eqb (length list) c.args.seats c.if-list-seats.true))
