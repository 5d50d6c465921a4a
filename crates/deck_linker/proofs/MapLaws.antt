-- The map of a link, from sets of names.
use Rattle.std.{proofs.Common.{◌≡◌, ℕ, ◌+◌, ◌<◌, List, [], ◌∷◌, ◌++◌, length, drop, get_or, refl, sym, ap, ap₂, ◌∙◌, append_assoc, arith}, specs.Prelude.{codes, flat_map, unwrap_or}, proofs.lemmas.List.at_drop_more}
use Rattle.definitions.specs.{Settled.Definition, Characters.line_feed, Coding.coded_in, Kinds.kind_text, Numerals.octal_of, Listing.line, Layout.{Layout, Based, Common, deck_length}, LinkValues.{entry_value, names_of}, LinkLines.link_lines, Map.{deck_line, common_line, entry_line, entry_lines, all_entry_lines, map_text}}
use Rattle.deck_linker.{specs.Joins.Names.{with_entries, HaveNames}, specs.Joins.Lines.{Written, with_lines}, specs.Joins.MapLines.{entries_of_decks, map_front, shown_place, shown_value}, proofs.LineLaws.{with_lines-text, with_lines-count}, proofs.TextLaws.{two-pieces, two-ended, four-pieces, four-ended}, proofs.NameLaws.{have-entries, entry_lines-same}}

-- a base and a length are written
pub place-written : (t u v w x : List ℕ) (base words : ℕ) → u ≡ t ++ codes " " → v ≡ u ++ octal_of 6 base → w ≡ v ++ codes " " → x ≡ w ++ octal_of 8 words → x ++ line_feed ∷ [] ≡ t ++ line (shown_place base words)
unfolding shown_place
place-written t u v w x base words h k l m = four-ended t u v w x (codes " ") (octal_of 6 base) (codes " ") (octal_of 8 words) (line_feed ∷ []) h k l m

-- a value is written
pub value-written : (t u v : List ℕ) (bits : ℕ) → u ≡ t ++ codes " " → v ≡ u ++ octal_of 20 bits → v ++ line_feed ∷ [] ≡ t ++ line (shown_value bits)
unfolding shown_value
value-written t u v bits h k = two-ended t u v (codes " ") (octal_of 20 bits) (line_feed ∷ []) h k

-- a deck is written
pub deck-written : (old t u v w name kind : List ℕ) (base words : ℕ) (based : Based) → t ≡ old ++ codes "DECK " → u ≡ t ++ name → v ≡ u ++ codes " " → w ≡ v ++ kind →
    name ≡ based.object.name → kind ≡ kind_text based.object.kind → base ≡ based.base → words ≡ deck_length based.object → w ++ line (shown_place base words) ≡ old ++ deck_line based
unfolding shown_place
deck-written old t u v w name kind base words based h k l m named kinds bases lengths =
    four-pieces old t u v w (codes "DECK ") name (codes " ") kind (shown_place base words) (line_feed ∷ []) h k l m
    ∙ ap₂ (λ (a b : List ℕ). old ++ line (codes "DECK " ++ (a ++ (codes " " ++ (b ++ shown_place base words))))) named kinds
    ∙ ap₂ (λ (a b : ℕ). old ++ line (codes "DECK " ++ (based.object.name ++ (codes " " ++ (kind_text based.object.kind ++ shown_place a b))))) bases lengths

-- a common block is written
pub common-written : (old t u name : List ℕ) (base words : ℕ) (common : Common) → t ≡ old ++ codes "COMMON " → u ≡ t ++ name → name ≡ common.name → base ≡ common.base → words ≡ common.words →
    u ++ line (shown_place base words) ≡ old ++ common_line common
unfolding shown_place
common-written old t u name base words common h k named bases lengths =
    two-pieces old t u (codes "COMMON ") name (shown_place base words) (line_feed ∷ []) h k
    ∙ ap (λ (a : List ℕ). old ++ line (codes "COMMON " ++ (a ++ shown_place base words))) named
    ∙ ap₂ (λ (a b : ℕ). old ++ line (codes "COMMON " ++ (common.name ++ shown_place a b))) bases lengths

-- an entry is written
pub entry-written : (old t u v w name deck : List ℕ) (bits : ℕ) (commons : List Common) (based : Based) (entry : Definition) → t ≡ old ++ codes "ENTRY " → u ≡ t ++ name → v ≡ u ++ codes " " → w ≡ v ++ deck →
    name ≡ entry.name → deck ≡ based.object.name → bits ≡ unwrap_or (coded_in 60 (entry_value commons based entry)) 0 → w ++ line (shown_value bits) ≡ old ++ entry_line commons based entry
unfolding shown_value
entry-written old t u v w name deck bits commons based entry h k l m named decks valued =
    four-pieces old t u v w (codes "ENTRY ") name (codes " ") deck (shown_value bits) (line_feed ∷ []) h k l m
    ∙ ap₂ (λ (a b : List ℕ). old ++ line (codes "ENTRY " ++ (a ++ (codes " " ++ (b ++ shown_value bits))))) named decks
    ∙ ap (λ (a : ℕ). old ++ line (codes "ENTRY " ++ (entry.name ++ (codes " " ++ (based.object.name ++ shown_value a))))) valued

-- the entries of a deck more are written
pub entries-step : (commons : List Common) (earlier more : List (List ℕ)) (decks : List Based) (i : ℕ) (based : Based) (told entries : List Definition) → i < length decks → based ≡ get_or decks i based →
    (old new all : List ℕ) → old ++ entries_of_decks commons earlier (drop i decks) ≡ all → new ≡ old ++ entry_lines commons earlier based told → told ≡ based.object.entries →
    entries ≡ based.object.entries → more ≡ with_entries entries earlier → new ++ entries_of_decks commons more (drop (i + 1) decks) ≡ all
entries-step commons earlier more decks i based told entries inside is old new all h e shown same grown =
    let left = drop (i + 1) decks in
    let behind : List (List ℕ) → List ℕ = λ names. entries_of_decks commons names left in
    ap₂ (λ (t : List ℕ) (names : List (List ℕ)). t ++ behind names) (e ∙ ap (λ (l : List Definition). old ++ entry_lines commons earlier based l) shown) (grown ∙ ap (λ (l : List Definition). with_entries l earlier) same)
    ∙ append_assoc old (entry_lines commons earlier based based.object.entries) (behind (with_entries based.object.entries earlier))
    ∙ ap (λ (t : List ℕ). old ++ t) (sym (at_drop_more (entries_of_decks commons earlier) decks i based inside ∙ ap (λ (y : Based). entries_of_decks commons earlier (y ∷ left)) (sym is)))
    ∙ h

-- the entries of decks from a set that has the names
entries-same : (commons : List Common) (set names : List (List ℕ)) (decks : List Based) → HaveNames set names → entries_of_decks commons set decks ≡ all_entry_lines commons names decks
entries-same commons set names [] h = refl
entries-same commons set names (based ∷ others) h =
    ap₂ (λ (a b : List ℕ). a ++ b) (entry_lines-same commons set names based based.object.entries h)
    (entries-same commons (with_entries based.object.entries set) (names ++ names_of based.object.entries) others (have-entries based.object.entries set names h))

-- four texts in front of others
four-fronts : (old a b c d e f : List ℕ) → ((old ++ (a ++ (b ++ (c ++ d)))) ++ e) ++ f ≡ old ++ (a ++ (b ++ (c ++ (d ++ (e ++ f)))))
four-fronts old a b c d e f = simp append_assoc refl

-- the map is its front, its LINK lines and its end
pub map-whole : (layout : Layout) (old text ended : List ℕ) (lined : Written) → text ≡ old ++ map_front layout → lined ≡ with_lines (record { text = text; lines = 0 }) (link_lines layout) →
    ended ≡ lined.text ++ line (codes "END") → ended ≡ old ++ map_text layout
map-whole layout old text ended lined e f g =
    let start : Written = record { text = text; lines = 0 } in
    g
    ∙ ap (λ (w : Written). w.text ++ line (codes "END")) f
    ∙ ap (λ (t : List ℕ). t ++ line (codes "END")) (with_lines-text start (link_lines layout) ∙ ap (λ (t : List ℕ). t ++ flat_map (λ x. x) (link_lines layout)) e)
    ∙ four-fronts old (line (codes "MAP")) (flat_map deck_line layout.decks) (flat_map common_line layout.commons) (entries_of_decks layout.commons [] layout.decks) (flat_map (λ x. x) (link_lines layout)) (line (codes "END"))
    ∙ ap (λ (t : List ℕ). old ++ (line (codes "MAP") ++ (flat_map deck_line layout.decks ++ (flat_map common_line layout.commons ++ (t ++ (flat_map (λ x. x) (link_lines layout) ++ line (codes "END")))))))
    (entries-same layout.commons [] [] layout.decks (λ other. refl))

-- its LINK lines are counted
pub links-counted : (layout : Layout) (text : List ℕ) (lined : Written) → lined ≡ with_lines (record { text = text; lines = 0 }) (link_lines layout) → lined.lines ≡ length (link_lines layout)
links-counted layout text lined e = let counted = with_lines-count (record { text = text; lines = 0 }) (link_lines layout) in ap (λ (w : Written). w.lines) e ∙ omega (arith, counted)
