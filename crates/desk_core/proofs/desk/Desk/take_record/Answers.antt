use Rattle.std.{proofs.Common.{◌≡◌, ◌∙◌, true, sym, ap}, specs.Prelude.slice_get, proofs.lemmas.Bool.and_parts}
use Rattle.desk_core.{specs.Desks.{Desk, deck_of}, specs.Delivering.same_deck, proofs.Same.equal_decks}
use Rattle.desk_core.proofs.desk.Desk.take_record.Goals as goal

pub store_at-requires-clause-object : goal.store_at-requires-clause-object
store_at-requires-clause-object c = λ x e.
    let sound : c.is_sound.result ≡ true = cc in
    equal_decks c.args.object (deck_of x) (and_parts _ (same_deck c.args.object (deck_of x)) (sym (c.is_sound.ensures x (ap (λ (d : Desk). slice_get d.decks c.args.place) (sym c.self.view_is) ∙ e)) ∙ sound)).1
