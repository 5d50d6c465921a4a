-- A field is cut into its first subfield and those behind its comma.
use Rattle.std.{proofs.Common.{◌≡◌, ℕ, zero, suc, ◌+◌, ◌-◌, ◌<◌, ◌≤◌, List, [], ◌∷◌, Bool, true, false, cond, ◌==◌, if◌then◌else◌, Option, Some, None, take, drop, refl, sym, ◌∙◌, ap, ap₂, subst, arith, drop-drop}, specs.Prelude.is_none, specs.List.{prefix_len, onto_first}}
use Rattle.definitions.specs.{Characters.equals, CountedItems.{CountedSpan, counted_item_at}, Pieces.{Mark, Comma, Plus, Minus, Star, Slash, Equals, Spot, AtStart, AtEquals, Inside, Begun, ByMark, ByCountedItem, ByOther, Piece, IsMark, IsCountedItem, Plain, mark_of, begun_by, begun_by_counted_item, begun_at, spot_behind, left_of, onto_plain, pieces_at, pieces_of, subfields_of}}
use Rattle.expr_forms.{specs.Joins.Subfields.{ends_subfield, subfield_len, len_to_mark, text_behind, subfields_left}, proofs.ItemFrontLaws.{IsWithin, item-front}, proofs.PieceLaws.{is_of_run, pieces_begun}, proofs.ParseLaws.mark_by}

-- how long a subfield is that goes on with what began
abbrev len_begun : Begun → List ℕ → ℕ
len_begun begun cs = if ends_subfield begun then 0 else suc (subfield_len (spot_behind begun) (left_of begun) cs)

-- what is left of an item belongs to the subfield
len-left : (spot : Spot) (left : ℕ) (text : List ℕ) → subfield_len spot left text ≡ left + subfield_len spot 0 (drop left text)
len-left spot zero text = omega arith
len-left spot (suc left) [] = omega arith
len-left spot (suc left) (c ∷ cs) = omega (arith, len-left spot left cs)

-- an item
pub len-item : (text : List ℕ) (counted : CountedSpan) → counted_item_at text ≡ Some counted → 0 < counted.taken →
    subfield_len AtEquals 0 text ≡ counted.taken + subfield_len Inside 0 (drop counted.taken text)
len-item [] counted e some = cc
len-item (c ∷ cs) counted e some =
    let taken : counted.taken ≡ suc (counted.taken - 1) = omega arith in
    let behind : drop (counted.taken - 1) cs ≡ drop counted.taken (c ∷ cs) = ap (λ (n : ℕ). drop n (c ∷ cs)) (sym taken) in
    ap (λ (o : Option CountedSpan). len_begun (begun_by_counted_item c o) cs) e
    ∙ omega (arith, len-left Inside (counted.taken - 1) cs, ap (subfield_len Inside 0) behind)

-- a mark
len-mark : (c : ℕ) (cs : List ℕ) → is_of_run c ≡ false → len_begun (begun_by c (mark_of c)) cs ≡ len_to_mark (c ∷ cs)
len-mark c cs e = by (c == 44) (c == 43) (c == 45) (c == 42) (c == 47) e
  where
    by : (comma plus minus star slash : Bool) → is_none (mark_by comma plus minus star slash) ≡ false →
        len_begun (begun_by c (mark_by comma plus minus star slash)) cs ≡ (if comma then 0 else suc (subfield_len AtStart 0 cs))
    by true plus minus star slash e = refl
    by false true minus star slash e = refl
    by false false true star slash e = refl
    by false false false true slash e = refl
    by false false false false true e = refl
    by false false false false false e = cc

-- a run
len-run : (text : List ℕ) → subfield_len Inside 0 text ≡ prefix_len is_of_run text + len_to_mark (drop (prefix_len is_of_run text) text)
len-run [] = refl
len-run (c ∷ cs) = by (mark_of c) refl (len-run cs)
  where
    whole : ℕ → ℕ
    whole n = n + len_to_mark (drop n (c ∷ cs))

    by : (m : Option Mark) → mark_of c ≡ m → subfield_len Inside 0 cs ≡ prefix_len is_of_run cs + len_to_mark (drop (prefix_len is_of_run cs) cs) →
        subfield_len Inside 0 (c ∷ cs) ≡ whole (cond (is_of_run c) (1 + prefix_len is_of_run cs) 0)
    by None e before =
        let more : suc (prefix_len is_of_run cs) ≡ 1 + prefix_len is_of_run cs = omega arith in
        let behind : drop (suc (prefix_len is_of_run cs)) (c ∷ cs) ≡ drop (1 + prefix_len is_of_run cs) (c ∷ cs) = ap (λ (n : ℕ). drop n (c ∷ cs)) more in
        ap (λ (o : Option Mark). len_begun (begun_by c o) cs) e
        ∙ omega (arith, before, ap len_to_mark behind)
        ∙ ap (λ (o : Option Mark). whole (cond (is_none o) (1 + prefix_len is_of_run cs) 0)) (sym e)
    by (Some mark) e before =
        len-mark c cs (ap is_none e)
        ∙ omega arith
        ∙ ap (λ (o : Option Mark). whole (cond (is_none o) (1 + prefix_len is_of_run cs) 0)) (sym e)

-- an item and a run
pub len-unmarked : (text behind : List ℕ) (taken run : ℕ) → subfield_len AtEquals 0 text ≡ taken + subfield_len Inside 0 (drop taken text) →
    behind ≡ drop taken text → run ≡ prefix_len is_of_run behind → subfield_len AtEquals 0 text ≡ (taken + run) + len_to_mark (drop (taken + run) text)
len-unmarked text behind taken run e b r =
    let inner : subfield_len Inside 0 (drop taken text) ≡ run + len_to_mark (drop run (drop taken text)) =
    subst (λ t. subfield_len Inside 0 t ≡ run + len_to_mark (drop run t)) b
    (len-run behind ∙ ap (λ (n : ℕ). n + len_to_mark (drop n behind)) (sym r)) in
    omega (arith, inner, ap len_to_mark (drop-drop run taken text))

-- a character in front of the first subfield
abbrev plain_onto_first : ℕ → List (List Piece) → List (List Piece)
plain_onto_first c [] = []
plain_onto_first c (first ∷ others) = onto_plain c first ∷ others

-- a character in front of a run of the first subfield, or in front of another piece
run-onto_first : (c : ℕ) (cs : List ℕ) (subfields : List (List Piece)) → onto_first (Plain (c ∷ cs)) subfields ≡ plain_onto_first c (onto_first (Plain cs) subfields)
run-onto_first c cs [] = refl
run-onto_first c cs (first ∷ others) = refl

mark-onto_first : (c : ℕ) (mark : Mark) (subfields : List (List Piece)) →
    onto_first (Plain (c ∷ [])) (onto_first (IsMark mark) subfields) ≡ plain_onto_first c (onto_first (IsMark mark) subfields)
mark-onto_first c mark [] = refl
mark-onto_first c mark (first ∷ others) = refl

-- a character in front of the pieces is in front of the first subfield
subfields-plain : (c : ℕ) (pieces : List Piece) → subfields_of (onto_plain c pieces) ≡ plain_onto_first c (subfields_of pieces)
subfields-plain c [] = refl
subfields-plain c (Plain cs ∷ pieces) = run-onto_first c cs (subfields_of pieces)
subfields-plain c (IsCountedItem item ∷ pieces) = item-onto_first (subfields_of pieces)
  where
    item-onto_first : (subfields : List (List Piece)) →
        onto_first (Plain (c ∷ [])) (onto_first (IsCountedItem item) subfields) ≡ plain_onto_first c (onto_first (IsCountedItem item) subfields)
    item-onto_first [] = refl
    item-onto_first (first ∷ others) = refl
subfields-plain c (IsMark Comma ∷ pieces) = refl
subfields-plain c (IsMark Plus ∷ pieces) = mark-onto_first c Plus (subfields_of pieces)
subfields-plain c (IsMark Minus ∷ pieces) = mark-onto_first c Minus (subfields_of pieces)
subfields-plain c (IsMark Star ∷ pieces) = mark-onto_first c Star (subfields_of pieces)
subfields-plain c (IsMark Slash ∷ pieces) = mark-onto_first c Slash (subfields_of pieces)
subfields-plain c (IsMark Equals ∷ pieces) = mark-onto_first c Equals (subfields_of pieces)

-- what is left of an item belongs to the subfield, so that it is at least that long
left-within : (spot : Spot) (left : ℕ) (text : List ℕ) → left ≤ subfield_len spot left text
left-within spot left text = omega (arith, len-left spot left text)

-- the item that begins a text, by how much of it is left behind its first character
within-by : (c n : ℕ) (found : Option CountedSpan) → left_of (begun_by_counted_item c found) ≤ n → IsWithin found (suc n)
within-by c n None h = tt
within-by c n (Some counted) h = omega arith

-- what begins at a character begins there in each front that holds it
begun-front : (spot : Spot) (c : ℕ) (cs : List ℕ) (n : ℕ) → left_of (begun_at spot c cs) ≤ n → begun_at spot c (take n cs) ≡ begun_at spot c cs
begun-front Inside c cs n h = refl
begun-front AtEquals c cs n h = ap (begun_by_counted_item c) (item-front (suc n) (c ∷ cs) (within-by c n (counted_item_at (c ∷ cs)) h))
begun-front AtStart c cs n h = by (c == equals) h
  where
    by : (b : Bool) → left_of (if b then ByMark Equals else begun_by_counted_item c (counted_item_at (c ∷ cs))) ≤ n →
        (if b then ByMark Equals else begun_by_counted_item c (counted_item_at (c ∷ take n cs)))
        ≡ (if b then ByMark Equals else begun_by_counted_item c (counted_item_at (c ∷ cs)))
    by true h = refl
    by false h = ap (begun_by_counted_item c) (item-front (suc n) (c ∷ cs) (within-by c n (counted_item_at (c ∷ cs)) h))

-- the first subfield of these pieces, and the others behind the comma that begins this text
abbrev IsCut : List Piece → List Piece → List ℕ → Type 0
IsCut pieces first rest = subfields_of pieces ≡ first ∷ subfields_left (text_behind rest)

-- the first subfield that begins with what began, where so many characters behind it belong to the subfield
abbrev first_begun : Begun → ℕ → List ℕ → List Piece
first_begun begun n cs = if ends_subfield begun then [] else pieces_begun begun (take n cs)

-- a text is cut where the text behind what began is
cut-begun : (begun : Begun) (c : ℕ) (cs : List ℕ) (n : ℕ) →
    IsCut (pieces_at (spot_behind begun) (left_of begun) cs) (pieces_at (spot_behind begun) (left_of begun) (take n cs)) (drop n cs) →
    IsCut (pieces_begun begun cs) (first_begun begun n cs) (drop (if ends_subfield begun then 0 else suc n) (c ∷ cs))
cut-begun (ByMark Comma) c cs n h = refl
cut-begun (ByMark Plus) c cs n h = ap (onto_first (IsMark Plus)) h
cut-begun (ByMark Minus) c cs n h = ap (onto_first (IsMark Minus)) h
cut-begun (ByMark Star) c cs n h = ap (onto_first (IsMark Star)) h
cut-begun (ByMark Slash) c cs n h = ap (onto_first (IsMark Slash)) h
cut-begun (ByMark Equals) c cs n h = ap (onto_first (IsMark Equals)) h
cut-begun (ByCountedItem counted) c cs n h = ap (onto_first (IsCountedItem counted.item)) h
cut-begun (ByOther d) c cs n h = subfields-plain d (pieces_at Inside 0 cs) ∙ ap (plain_onto_first d) h

-- the first subfield has its pieces alone too
first-begun : (spot : Spot) (c : ℕ) (cs : List ℕ) (n : ℕ) → left_of (begun_at spot c cs) ≤ n →
    pieces_at spot 0 (take (if ends_subfield (begun_at spot c cs) then 0 else suc n) (c ∷ cs)) ≡ first_begun (begun_at spot c cs) n cs
first-begun spot c cs n h = by (ends_subfield (begun_at spot c cs))
  where
    by : (b : Bool) → pieces_at spot 0 (take (if b then 0 else suc n) (c ∷ cs)) ≡ (if b then [] else pieces_begun (begun_at spot c cs) (take n cs))
    by true = refl
    by false = ap (λ (begun : Begun). pieces_begun begun (take n cs)) (begun-front spot c cs n h)

-- a text is cut into its first subfield and those behind the comma that ends it
cut_subfields : (spot : Spot) (left : ℕ) (text : List ℕ) →
    IsCut (pieces_at spot left text) (pieces_at spot left (take (subfield_len spot left text) text)) (drop (subfield_len spot left text) text)
cut_subfields spot zero [] = refl
cut_subfields spot (suc left) [] = refl
cut_subfields spot (suc left) (c ∷ cs) = cut_subfields spot left cs
cut_subfields spot zero (c ∷ cs) =
    let begun : Begun = begun_at spot c cs in
    let n : ℕ = subfield_len (spot_behind begun) (left_of begun) cs in
    cut-begun begun c cs n (cut_subfields (spot_behind begun) (left_of begun) cs)
    ∙ ap (λ (first : List Piece). first ∷ subfields_left (text_behind (drop (len_begun begun cs) (c ∷ cs))))
    (sym (first-begun spot c cs n (left-within (spot_behind begun) (left_of begun) cs)))

-- a field is cut at the comma that ends its first subfield
pub field-cut : (text first behind : List ℕ) (n : ℕ) (rest : Option (List ℕ)) → n ≡ subfield_len AtStart 0 text → first ≡ take n text → behind ≡ drop n text →
    rest ≡ text_behind behind → subfields_of (pieces_of text) ≡ pieces_of first ∷ subfields_left rest
field-cut text first behind n rest len f b r =
    cut_subfields AtStart 0 text
    ∙ ap₂ (λ (t : List ℕ) (o : Option (List ℕ)). pieces_of t ∷ subfields_left o)
    (ap (λ (m : ℕ). take m text) (sym len) ∙ sym f)
    (ap (λ (m : ℕ). text_behind (drop m text)) (sym len) ∙ (ap text_behind (sym b) ∙ sym r))
