use Rattle.std.proofs.Common.{◌≡◌, ◌∙◌, Bool, ap, sym}
use Rattle.definitions.specs.{DeckInput.Deck, Layout.{Based, has_beyond}, Objects.object_of}
use Rattle.deck_linker.proofs.PlaceLaws.{placed-absolute}
use Rattle.deck_linker.proofs.based.place_absolute.Goals as goal

pub returns : goal.returns
returns c base =
    let object = object_of c.args.object in
    let past : c.has_beyond-is_past.result ≡ has_beyond object = c.has_beyond-is_past.ensures ∙ ap (λ (deck : Deck). has_beyond (object_of deck)) c.object.ensures in
    let B : Bool → Based = λ t. record { object = object; base = 0; is_past = t } in
    ap B past ∙ sym (placed-absolute base object c.requires)
