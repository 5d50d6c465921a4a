use Rattle.std.proofs.Common.{◌≡◌, ◌+◌, ap, ◌∙◌, arith, length, length-append}
use Rattle.desk_service.{specs.Seating.{page_threads, session_count, IsPlaceOf}, proofs.PlaceSteps.{numbers-more-from, all-more}}
use Rattle.desk_service.proofs.pages.page_places.Goals as goal

pub loop-turn-preserved : goal.loop-turn-preserved
loop-turn-preserved g c =
    let pushed = c.in_ok-push.ensures.items in
    let before = c.loop-turn.invariant in
    let seated = c.door_and_shelf-desk.ensures in
    let site = c.args.site.now in
    let four : page_threads site.door ≡ 4 = ap page_threads c.in-Some.is in
    let page = c.new-page.ensures ∙ ap (λ lines. (c.in-Some.door.port, lines)) c.new-lines.ensures in
    record {
      own = seated.own;
      left = omega (arith, seated.left, before.left, c.loop-turn-test.true, c.requires.enough, four);
      all = ap length pushed ∙ (length-append c.loop-turn.places.items _ ∙ ap (λ n. n + 1) before.all);
      number = numbers-more-from (session_count site.settings.now) _ _ _ _ _ before.number pushed (ap (λ p. p.1.1.number) page ∙ seated.session.1);
      ends = numbers-more-from (session_count site.settings.now) _ _ _ _ _ before.ends pushed (ap (λ p. p.1.0.1.session) page ∙ seated.session.0);
      served = all-more (λ place. IsPlaceOf site.settings.now site.office.now.id place.page.1.1.folder place.page.1.0.0.seat.office) _ _ _ before.served pushed
          (ap (λ p. p.1.1.folder) page ∙ seated.door.0, ap (λ p. p.1.0.0.seat.office) page ∙ seated.door.1);
      port = all-more (λ place. place.page.0 ≡ c.in-Some.door.port) _ _ _ before.port pushed (ap (λ p. p.0) page);
    }
