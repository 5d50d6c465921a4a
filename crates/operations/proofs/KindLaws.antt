-- The kind that is found statement by statement is the kind of the deck.
use Rattle.std.{proofs.Common.{◌≡◌, List, [], ◌∷◌, ◌++◌, Bool, true, false, Option, Some, None, reverse, refl, sym, ap, ◌∙◌, append_assoc, append-nil}, specs.Prelude.if◌then◌else◌, proofs.lemmas.Grind.reverse_onto}
use Rattle.definitions.specs.{Fields.Fields, Operations.{pseudo_instructions, pseudo_among, is_neutral}, DeckKinds.{kind_made, kind_of}, declared.deck_kind.DeckKind.DeckKind}
use Rattle.operations.specs.Joins.KindsFound.{or_kind, kind_found}

-- the kind that is found, or else that of later statements
abbrev behind : Option DeckKind → List Fields → DeckKind
behind None later = kind_of later
behind (Some kind) later = kind

behind-if : (neutral : Bool) (made : DeckKind) (later : List Fields) →
    (if neutral then kind_of later else made) ≡ behind (if neutral then None else Some made) later
behind-if true made later = refl
behind-if false made later = refl

-- one statement more
behind-step : (found : Option DeckKind) (fields : Fields) (later : List Fields) →
    behind found (fields ∷ later) ≡ behind (or_kind found (pseudo_among fields.operation pseudo_instructions)) later
behind-step (Some kind) fields later = refl
behind-step None fields later =
    let operation = pseudo_among fields.operation pseudo_instructions in
    behind-if (is_neutral operation) (kind_made operation) later

-- statements and those behind them
behind-found : (earlier later : List Fields) → kind_of (reverse earlier ++ later) ≡ behind (kind_found earlier) later
behind-found [] later = refl
behind-found (fields ∷ earlier) later =
    ap (λ l. kind_of (l ++ later)) (reverse_onto earlier fields [])
    ∙ ap kind_of (append_assoc (reverse earlier) (fields ∷ []) later)
    ∙ behind-found earlier (fields ∷ later)
    ∙ behind-step (kind_found earlier) fields later

-- the kind of all statements
pub kind_of-behind : (earlier : List Fields) (found : Option DeckKind) → found ≡ kind_found earlier → behind found [] ≡ kind_of (reverse earlier)
kind_of-behind earlier found is = ap (λ f. behind f []) is ∙ sym (behind-found earlier []) ∙ ap kind_of (append-nil (reverse earlier))
