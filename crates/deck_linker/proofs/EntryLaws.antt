-- Names with the values that decks enter, a step at a time.
use Rattle.std.{proofs.Common.{ℕ, ◌≡◌, Bool, true, false, true≢false, cond, List, [], ◌∷◌, Option, Some, None, is_some, ◌||◌, refl, sym, ap, ap₂, ◌∙◌, ℤ}, specs.Prelude.if◌then◌else◌, specs.Map.update, proofs.lemmas.List.Folds.list_any-append, specs.Option.option_or}
use Rattle.definitions.{specs.Characters.same_text, specs.Settled.Definition, specs.Blocks.is_named, specs.Layout.{Based, Common}, specs.LinkValues.{entered, entered_in, entry_names, entry_value, names_of}, proofs.TestLaws.option_or-none}
use Rattle.use_blocks.specs.Joins.NameKeys.{same_text_equivalence}
use Rattle.deck_linker.specs.Joins.Placing.{entry_alone}
use Rattle.expr_forms.proofs.NameLaws.{same_text-Decides}

-- a value under a name that has none
pub entered-new : (found : List ℕ → Option ℤ) (name : List ℕ) (value : ℤ) (other : List ℕ) → found name ≡ None →
    update same_text found name (Some value) other ≡ option_or (found other) (entry_alone other name value)
entered-new found name value other none = by_test (same_text name other) refl
  where
    by_test : (t : Bool) → same_text name other ≡ t → update same_text found name (Some value) other ≡ option_or (found other) (entry_alone other name value)
    by_test true e =
        let same : name ≡ other = (same_text-Decides name other).0 e in
        ap (λ (b : Bool). cond b (Some value) (found other)) e
        ∙ sym (ap (λ (o : Option ℤ). option_or o (entry_alone other name value)) (ap found (sym same) ∙ none)
        ∙ ap (λ (b : Bool). if b then Some value else None) (same_text_equivalence.symm other name ∙ e))
    by_test false e =
        ap (λ (b : Bool). cond b (Some value) (found other)) e
        ∙ sym (ap (λ (b : Bool). option_or (found other) (if b then Some value else None)) (same_text_equivalence.symm other name ∙ e)
        ∙ option_or-none (found other) None refl)

-- a value under a name that has one already
pub entered-again : (found : List ℕ → Option ℤ) (name : List ℕ) (value : ℤ) (other : List ℕ) → is_some (found name) ≡ true →
    found other ≡ option_or (found other) (entry_alone other name value)
entered-again found name value other some = by_test (same_text other name) refl
  where
    first : (o : Option ℤ) → is_some o ≡ true → (b : Option ℤ) → o ≡ option_or o b
    first None h b = absurd (true≢false (sym h))
    first (Some n) h b = refl

    by_test : (t : Bool) → same_text other name ≡ t → found other ≡ option_or (found other) (entry_alone other name value)
    by_test true e =
        let same : other ≡ name = (same_text-Decides other name).0 e in
        first (found other) (ap (λ (n : List ℕ). is_some (found n)) same ∙ some) (entry_alone other name value)
    by_test false e =
        sym (ap (λ (b : Bool). option_or (found other) (if b then Some value else None)) e ∙ option_or-none (found other) None refl)

-- one of two values is there where one of them is
some-or : (a b : Option ℤ) → is_some (option_or a b) ≡ (is_some a || is_some b)
some-or None b = refl
some-or (Some n) b = refl

-- a deck has a value for a name where one of its entries has it
entered-names : (name : List ℕ) (commons : List Common) (based : Based) (entries : List Definition) → is_some (entered_in name commons based entries) ≡ is_named name (names_of entries)
entered-names name commons based [] = refl
entered-names name commons based (entry ∷ entries) = by_test (same_text name entry.name) (entered-names name commons based entries)
  where
    by_test : (t : Bool) → is_some (entered_in name commons based entries) ≡ is_named name (names_of entries) →
        is_some (if t then Some (entry_value commons based entry) else entered_in name commons based entries) ≡ (t || is_named name (names_of entries))
    by_test true rest = refl
    by_test false rest = rest

-- decks have a value for a name where one of them enters it
pub entered-named : (name : List ℕ) (commons : List Common) (decks : List Based) → is_some (entered name commons decks) ≡ is_named name (entry_names decks)
entered-named name commons [] = refl
entered-named name commons (based ∷ others) =
    some-or (entered_in name commons based based.object.entries) (entered name commons others)
    ∙ ap₂ (λ (a b : Bool). a || b) (entered-names name commons based based.object.entries) (entered-named name commons others)
    ∙ sym (list_any-append (same_text name) (names_of based.object.entries) (entry_names others))

-- a name that is not in a map
pub none-is : (o : Option ℤ) → is_some o ≡ false → o ≡ None
none-is None h = refl
none-is (Some n) h = absurd (true≢false h)
