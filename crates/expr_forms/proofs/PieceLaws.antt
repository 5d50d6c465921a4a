-- The pieces of a text by what begins it.
use Rattle.std.{proofs.Common.{◌≡◌, ℕ, zero, suc, ◌+◌, ◌-◌, ◌<◌, List, [], ◌∷◌, Bool, cond, Option, Some, None, length, take, drop, refl, sym, ◌∙◌, ap, arith}, specs.Prelude.{is_none, slice_index}, specs.List.prefix_len}
use Rattle.definitions.specs.{CountedItems.{CountedSpan, counted_item_at}, Pieces.{Mark, Spot, AtEquals, Inside, Begun, ByMark, Piece, IsMark, IsCountedItem, Plain, mark_of, begun_by, begun_by_counted_item, spot_behind, left_of, onto_plain, onto_pieces, pieces_at}}

-- whether a character belongs to a run
abbrev pub is_of_run : ℕ → Bool
is_of_run c = is_none (mark_of c)

-- the characters that belong to what began are passed over
pub pieces_at-left : (spot : Spot) (left : ℕ) (text : List ℕ) → pieces_at spot left text ≡ pieces_at spot 0 (drop left text)
pieces_at-left spot zero text = refl
pieces_at-left spot (suc left) [] = refl
pieces_at-left spot (suc left) (c ∷ cs) = pieces_at-left spot left cs

-- the pieces that begin with what began
abbrev pub pieces_begun : Begun → List ℕ → List Piece
pieces_begun begun cs = onto_pieces begun (pieces_at (spot_behind begun) (left_of begun) cs)

-- an item
pub pieces-item : (text : List ℕ) (counted : CountedSpan) → counted_item_at text ≡ Some counted → 0 < counted.taken →
    pieces_at AtEquals 0 text ≡ IsCountedItem counted.item ∷ pieces_at Inside 0 (drop counted.taken text)
pieces-item [] counted e some = cc
pieces-item (c ∷ cs) counted e some =
    let taken : counted.taken ≡ suc (counted.taken - 1) = omega arith in
    ap (λ (o : Option CountedSpan). pieces_begun (begun_by_counted_item c o) cs) e
    ∙ ap (λ (p : List Piece). IsCountedItem counted.item ∷ p) (pieces_at-left Inside (counted.taken - 1) cs ∙ ap (λ (n : ℕ). pieces_at Inside 0 (drop n (c ∷ cs))) (sym taken))

-- inside, a character that is no mark joins the run behind it
pieces_at-other : (c : ℕ) (cs : List ℕ) → mark_of c ≡ None → pieces_at Inside 0 (c ∷ cs) ≡ onto_plain c (pieces_at Inside 0 cs)
pieces_at-other c cs m = ap (λ (o : Option Mark). pieces_begun (begun_by c o) cs) m

-- a character in front of the run that begins a text
abbrev JoinsRun : ℕ → List ℕ → Type 0
JoinsRun c cs = onto_plain c (pieces_at Inside 0 cs) ≡ Plain (c ∷ take (prefix_len is_of_run cs) cs) ∷ pieces_at Inside 0 (drop (prefix_len is_of_run cs) cs)

-- a run goes on
joins-other : (c d : ℕ) (ds : List ℕ) → mark_of d ≡ None → JoinsRun d ds → JoinsRun c (d ∷ ds)
joins-other c d ds m h =
    let len : prefix_len is_of_run (d ∷ ds) ≡ suc (prefix_len is_of_run ds) = ap (λ (o : Option Mark). cond (is_none o) (1 + prefix_len is_of_run ds) 0) m ∙ omega arith in
    ap (onto_plain c) (pieces_at-other d ds m ∙ h)
    ∙ ap (λ (n : ℕ). Plain (c ∷ take n (d ∷ ds)) ∷ pieces_at Inside 0 (drop n (d ∷ ds))) (sym len)

-- a run ends before a mark
joins-mark : (c d : ℕ) (ds : List ℕ) (mark : Mark) → mark_of d ≡ Some mark → JoinsRun c (d ∷ ds)
joins-mark c d ds mark m =
    let len : prefix_len is_of_run (d ∷ ds) ≡ 0 = ap (λ (o : Option Mark). cond (is_none o) (1 + prefix_len is_of_run ds) 0) m in
    let here : pieces_at Inside 0 (d ∷ ds) ≡ IsMark mark ∷ pieces_at (spot_behind (ByMark mark)) 0 ds = ap (λ (o : Option Mark). pieces_begun (begun_by d o) ds) m in
    ap (onto_plain c) here
    ∙ ap (λ (p : List Piece). Plain (c ∷ []) ∷ p) (sym here)
    ∙ ap (λ (n : ℕ). Plain (c ∷ take n (d ∷ ds)) ∷ pieces_at Inside 0 (drop n (d ∷ ds))) (sym len)

joins-by : (c d : ℕ) (ds : List ℕ) (o : Option Mark) → mark_of d ≡ o → JoinsRun d ds → JoinsRun c (d ∷ ds)
joins-by c d ds None m h = joins-other c d ds m h
joins-by c d ds (Some mark) m h = joins-mark c d ds mark m

-- a character joins the characters behind it that are no marks
joins_run : (c : ℕ) (cs : List ℕ) → JoinsRun c cs
joins_run c [] = refl
joins_run c (d ∷ ds) = joins-by c d ds (mark_of d) refl (joins_run d ds)

-- a run
pub pieces-run : (text : List ℕ) (n : ℕ) → 0 < length text → counted_item_at text ≡ None → mark_of (slice_index text 0) ≡ None →
    n ≡ prefix_len is_of_run (drop 1 text) → pieces_at AtEquals 0 text ≡ Plain (take (1 + n) text) ∷ pieces_at Inside 0 (drop (1 + n) text)
pieces-run [] n some e m same = absurd (omega arith)
pieces-run (c ∷ cs) n some e m same =
    let more : 1 + n ≡ suc n = omega arith in
    ap (λ (o : Option CountedSpan). pieces_begun (begun_by_counted_item c o) cs) e
    ∙ ap (λ (o : Option Mark). pieces_begun (begun_by c o) cs) m
    ∙ joins_run c cs
    ∙ ap (λ (k : ℕ). Plain (c ∷ take k cs) ∷ pieces_at Inside 0 (drop k cs)) (sym same)
    ∙ ap (λ (k : ℕ). Plain (take k (c ∷ cs)) ∷ pieces_at Inside 0 (drop k (c ∷ cs))) (sym more)
