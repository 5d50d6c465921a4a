-- Columns with blanks behind them, and the text of cards.
use Rattle.std.{proofs.Common.{ℕ, ◌≡◌, ◌+◌, ◌<◌, List, [], ◌∷◌, ◌++◌, length, drop, get_or, replicate, sym, ◌∙◌, ap, arith, length-append, append_assoc}, proofs.lemmas.List.{length-replicate, length-take-le, at_drop_more}, specs.List.flat_map}
use Rattle.definitions.specs.{Characters.blank, Cards.padded, Statements.text_of}

-- as many columns as are asked for
pub length-padded : (width : ℕ) (card : List ℕ) → length (padded width card) ≡ width
length-padded width card =
    length-take-le width (card ++ replicate width blank)
    (omega (arith, length-append card (replicate width blank), length-replicate width blank))

-- the columns of a comma card that are read
abbrev pub comma_columns : List ℕ → List ℕ
comma_columns card = drop 1 (padded 72 card)

-- the columns of the first card begin the text
pub text_of-first : (cards others : List (List ℕ)) (first text none columns : List ℕ) → cards ≡ first ∷ others → none ≡ [] →
    columns ≡ padded 72 first → text ≡ none ++ columns → text ++ flat_map comma_columns others ≡ text_of cards
text_of-first cards others first text none columns e n c t =
    ap (λ (l : List ℕ). l ++ flat_map comma_columns others) (t ∙ ap (λ (l : List ℕ). l ++ columns) n ∙ c) ∙ sym (ap text_of e)

-- one comma card more
pub flat_map-next : (text after columns whole : List ℕ) (others : List (List ℕ)) (i : ℕ) → i < length others → after ≡ text ++ columns →
    columns ≡ comma_columns (get_or others i []) → text ++ flat_map comma_columns (drop i others) ≡ whole →
    after ++ flat_map comma_columns (drop (i + 1) others) ≡ whole
flat_map-next text after columns whole others i h a c e =
    ap (λ (l : List ℕ). l ++ flat_map comma_columns (drop (i + 1) others)) (a ∙ ap (λ (l : List ℕ). text ++ l) c)
    ∙ append_assoc text (comma_columns (get_or others i [])) (flat_map comma_columns (drop (i + 1) others))
    ∙ ap (λ (l : List ℕ). text ++ l) (sym (at_drop_more (flat_map comma_columns) others i [] h))
    ∙ e
