use Rattle.std.proofs.Common.{◌≡◌, ◌+◌, ap, ◌∙◌, refl, arith, length, length-append}
use Rattle.desk_service.{specs.Connections.rights_of, specs.Seating.IsServedFor, proofs.PlaceSteps.{numbers-more, all-more}}
use Rattle.desk_service.proofs.places.session_places.Goals as goal

pub loop-number-preserved : goal.loop-number-preserved
loop-number-preserved g c =
    let pushed = c.in_ok-push.ensures.items in
    let before = c.loop-number.invariant in
    let seated = c.door_and_shelf-desk.ensures in
    let site = c.args.site.now in
    record {
      own = seated.own;
      left = omega (arith, seated.left, before.left, c.loop-number-test.true, c.requires.enough);
      all = ap length pushed ∙ (length-append c.loop-number.places.items _ ∙ ap (λ n. n + 1) before.all);
      numbers = (
        numbers-more _ _ _ _ _ before.numbers.0 pushed seated.session.1,
        numbers-more _ _ _ _ _ before.numbers.1 pushed refl,
        numbers-more _ _ _ _ _ before.numbers.2 pushed seated.session.0,
      );
      served = all-more (λ place. IsServedFor site.settings.now place.serving.session place.serving.rights place.serving.once place.shelf.folder) _ _ _ before.served pushed (c.rights_at-rights.ensures, refl, seated.door.0);
      clients = all-more (λ place. rights_of place.clients ≡ place.serving.rights) _ _ _ before.clients pushed c.in_ok-clients.ensures;
      office = all-more (λ place. place.desk.0.seat.office ≡ site.office.now.id) _ _ _ before.office pushed seated.door.1;
    }
