use Rattle.std.proofs.Common.{ℕ, ◌≡◌, ◌∙◌, List, [], ap, ap₂, map}
use Rattle.definitions.specs.{Layout.{Based, Common, Layout, based_from, commons_from, common_lengths, end_of_decks, first_base}, Objects.{Object, object_of}}
use Rattle.deck_linker.proofs.PlaceLaws.{objects-based}
use Rattle.deck_linker.proofs.layout.Layout.new.Goals as goal

pub returns : goal.returns
returns c =
    let objects = map object_of c.args.objects.items in
    let decks : c.in_ok-decks.decks.items ≡ based_from first_base objects = c.in_ok-decks.ensures.decks in
    let end : c.in_ok-decks.end ≡ end_of_decks first_base objects = c.in_ok-decks.ensures.end in
    let same : map (λ (based : Based). based.object) c.as_slice.result.now ≡ objects =
    ap (λ (all : List Based). map (λ (based : Based). based.object) all) (c.as_slice.ensures.value ∙ decks) ∙ objects-based first_base objects in
    let commons : c.in_ok-commons.commons ≡ commons_from (end_of_decks first_base objects) (common_lengths objects []) =
    c.in_ok-commons.ensures ∙ ap₂ (λ (n : ℕ) (all : List Object). commons_from n (common_lengths all [])) end same in
    let both : List Based → List Common → Layout = λ d k. record { decks = d; commons = k } in
    ap₂ both decks commons
