-- The section of a deck, its first line and its words.
use Rattle.std.proofs.Common.{◌≡◌, ℕ, List, ◌++◌, sym, ap, ◌∙◌, append_assoc}
use Rattle.definitions.specs.{Image.section, Layout.{Based, Layout, object_words}, LinkValues.linking_of, Objects.Object, declared.deck_kind.DeckKind.DeckKind}
use Rattle.deck_listing.specs.Joins.ImageWordLines.{lines_of, section_head}

-- the first line and the words of a deck that stands there are its section
pub section_put : (layout : Layout) (based : Based) (object : Object) (base : ℕ) (name : List ℕ) (kind : DeckKind) (start headed after : List ℕ) →
    based.object ≡ object → based.base ≡ base → name ≡ object.name → kind ≡ object.kind → headed ≡ start ++ section_head name kind base →
    after ≡ headed ++ lines_of object.kind (object_words (linking_of layout based) object base) → after ≡ start ++ section layout based
section_put layout based object base name kind start headed after same placed named kinded h a =
    let words : Object → ℕ → List ℕ = λ o n. lines_of o.kind (object_words (linking_of layout based) o n) in
    a ∙ ap (λ (t : List ℕ). t ++ words object base) h
    ∙ append_assoc start (section_head name kind base) (words object base)
    ∙ ap (λ (t : List ℕ). start ++ t)
    (ap (λ (n : List ℕ). section_head n kind base ++ words object base) named
    ∙ ap (λ (k : DeckKind). section_head object.name k base ++ words object base) kinded
    ∙ ap (λ (o : Object). section_head o.name o.kind base ++ words o base) (sym same)
    ∙ ap (λ (n : ℕ). section_head based.object.name based.object.kind n ++ words based.object n) (sym placed))
