-- The LINK lines of decks, from a set of the names that earlier decks enter.
use Rattle.std.{proofs.Common.{◌≡◌, ℕ, ◌+◌, ◌<◌, List, [], ◌∷◌, ◌++◌, length, drop, get_or, refl, sym, ap, ap₂, ◌∙◌}, specs.Prelude.{flat_map, reverse}, proofs.lemmas.List.at_drop_more}
use Rattle.definitions.specs.{Settled.Definition, Layout.{Layout, Based, Common}, LinkValues.{names_of, entry_names}, LinkLines.{missing_lines, unfit_addresses, past_lines, deck_lines, lines_from, link_lines}}
use Rattle.deck_linker.{specs.Joins.Names.{with_entries, HaveNames}, specs.Joins.DeckLines.{lines_of_deck, lines_of_decks, lines_of_common}, specs.Joins.Lines.{Written, with_lines}, proofs.LineLaws.lines_joined, proofs.NameLaws.{have-entries, doubled-same}}

-- the lines of a deck more are written
pub decks-step : (layout : Layout) (earlier more : List (List ℕ)) (decks : List Based) (i : ℕ) (based : Based) (entries : List Definition) → i < length decks → based ≡ get_or decks i based →
    (old new all : Written) → with_lines old (lines_of_decks layout earlier (drop i decks)) ≡ all → new ≡ with_lines old (lines_of_deck layout earlier based) →
    entries ≡ based.object.entries → more ≡ with_entries entries earlier → with_lines new (lines_of_decks layout more (drop (i + 1) decks)) ≡ all
decks-step layout earlier more decks i based entries inside is old new all h e same grown =
    let left = drop (i + 1) decks in
    let behind : List (List ℕ) → List (List ℕ) = λ names. lines_of_decks layout names left in
    ap₂ (λ (w : Written) (names : List (List ℕ)). with_lines w (behind names)) e (grown ∙ ap (λ (l : List Definition). with_entries l earlier) same)
    ∙ sym (lines_joined old (lines_of_deck layout earlier based) (behind (with_entries based.object.entries earlier)))
    ∙ ap (with_lines old) (sym (at_drop_more (lines_of_decks layout earlier) decks i based inside ∙ ap (λ (y : Based). lines_of_decks layout earlier (y ∷ left)) (sym is)))
    ∙ h

-- the lines of a deck from a set that has the names
deck-same : (layout : Layout) (earlier names : List (List ℕ)) (based : Based) → HaveNames earlier names → lines_of_deck layout earlier based ≡ deck_lines layout names based
deck-same layout earlier names based h =
    ap (λ (a : List (List ℕ)). a ++ (missing_lines (entry_names layout.decks) based.object.name based.object.externals ++ (flat_map (unfit_addresses layout based) (reverse based.object.coded) ++ past_lines based.is_past based.object.name)))
    (doubled-same earlier names based.object.name based.object.entries h)

-- and those of decks
decks-same : (layout : Layout) (earlier names : List (List ℕ)) (decks : List Based) → HaveNames earlier names → lines_of_decks layout earlier decks ≡ lines_from layout names decks
decks-same layout earlier names [] h = refl
decks-same layout earlier names (based ∷ others) h =
    ap₂ (λ (a b : List (List ℕ)). a ++ b) (deck-same layout earlier names based h)
    (decks-same layout (with_entries based.object.entries earlier) (names ++ names_of based.object.entries) others (have-entries based.object.entries earlier names h))

-- the lines of decks, and then those of common blocks, are all
pub all-lines : (layout : Layout) (old decked : Written) (earlier : List (List ℕ)) (decks : List Based) (commons : List Common) →
    earlier ≡ [] → decks ≡ layout.decks → commons ≡ layout.commons → decked ≡ with_lines old (lines_of_decks layout earlier decks) →
    with_lines decked (flat_map lines_of_common commons) ≡ with_lines old (link_lines layout)
all-lines layout old decked earlier decks commons none g k h =
    let lines : lines_of_decks layout earlier decks ≡ lines_from layout [] layout.decks =
    ap₂ (lines_of_decks layout) none g ∙ decks-same layout [] [] layout.decks (λ other. refl)
    in
    ap₂ (λ (w : Written) (l : List Common). with_lines w (flat_map lines_of_common l)) (h ∙ ap (with_lines old) lines) k
    ∙ sym (lines_joined old (lines_from layout [] layout.decks) (flat_map lines_of_common layout.commons))
