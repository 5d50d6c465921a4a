use Rattle.std.proofs.{Common.{◌≡◌, ℕ, List, [], ◌∷◌, ◌++◌, length, take, refl, ap, sym, ◌∙◌, arith}, lemmas.List.take_at}
use Rattle.definitions.specs.{Cards.padded, Fields.fields_of}
use Rattle.cards.{specs.Joins.CardParts.parts_as, specs.Joins.Columns.IsPadded, specs.Joins.FieldParts.fields_at, proofs.ColumnSteps.{IsPadded-copied, padded-shorter}}
use Rattle.cards.proofs.card.Card.of_columns.Goals as goal

-- the columns copied are the card
kept : (text front back : List ℕ) → front ≡ text → take (length text) (front ++ back) ≡ text
kept text front back is = ap (λ (l : List ℕ). take (length text) (l ++ back)) is ∙ take_at text back (length text) refl

-- and its first 72 are those that are read
read : (text columns : List ℕ) → IsPadded (length text) columns → take (length text) columns ≡ text → take 72 columns ≡ padded 72 text
read text columns padded' same =
    ap (take 72) padded'.blank_behind ∙ (padded-shorter 72 80 (take (length text) columns) (omega arith) ∙ ap (padded 72) same)

pub parts_on-parts-requires-clause-read : goal.parts_on-parts-requires-clause-read
parts_on-parts-requires-clause-read c =
    let text = c.args.text.now in
    c.split_at.ensures.front
    ∙ read text _ (IsPadded-copied text _ _ c.requires c.copy_from_slice.ensures.after c.split_at_mut.ensures.back) (kept text _ _ c.copy_from_slice.ensures.after)

pub invariant_of-result : goal.invariant_of-result
invariant_of-result c =
    let text = c.args.text.now in
    record {
      padded = IsPadded-copied text _ _ c.requires c.copy_from_slice.ensures.after c.split_at_mut.ensures.back;
      within = c.parts_on-parts.ensures.within;
      fields =
          ap (λ (t : List ℕ). fields_at t (parts_as c.parts_on-parts.result)) (sym c.split_at.ensures.front)
          ∙ (c.parts_on-parts.ensures.fields ∙ ap (λ (card : List ℕ). fields_of (card ∷ [])) (sym (kept text _ _ c.copy_from_slice.ensures.after)));
    }
