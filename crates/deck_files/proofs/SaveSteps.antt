-- The steps of saving cards: the lines of the first cards went out.
use Rattle.std.{proofs.Common.{ℕ, ◌≡◌, ◌+◌, ◌<◌, ◌≤◌, List, [], ◌++◌, Option, length, take, drop, get_or, refl, sym, ap, subst, ◌∙◌, arith, length-append, take-append-drop}, specs.Io.KnownBytes.Appends, proofs.KnownBytes.Appends-trans, proofs.lemmas.Grind.flat_map-append, proofs.lemmas.List.{at_drop_more, take-append-le, take_at, drop_at}, proofs.Math.Seq.take-add}
use Rattle.definitions.specs.Cards.{Card}
use Rattle.deck_files.specs.DeckFiles.{line_of_card, file_of}

-- the file is the lines so far, this line, and the lines behind it
file_of-split : (cards : List Card) (i : ℕ) → i < length cards →
    file_of cards ≡ file_of (take i cards) ++ (line_of_card (get_or cards i []) ++ file_of (drop (i + 1) cards))
file_of-split cards i within =
    ap file_of (sym (take-append-drop i cards))
    ∙ flat_map-append line_of_card (take i cards) (drop i cards)
    ∙ ap (λ (l : List ℕ). file_of (take i cards) ++ l) (at_drop_more file_of cards i [] within)

-- the first bytes of two texts
take-into : (front line behind : List ℕ) (k : ℕ) → k ≤ length line → take (length front + k) (front ++ (line ++ behind)) ≡ front ++ take k line
take-into front line behind k within =
    take-add (length front) k (front ++ (line ++ behind))
    ∙ ap (λ (l : List ℕ). l ++ take k (drop (length front) (front ++ (line ++ behind)))) (take_at front (line ++ behind) (length front) refl)
    ∙ ap (λ (l : List ℕ). front ++ take k l) (drop_at front (line ++ behind) (length front) refl)
    ∙ ap (λ (l : List ℕ). front ++ l) (take-append-le k line behind within)

-- a line of which a part went out
pub Appends-part : (old mid new : Option (List ℕ)) (cards : List Card) (i sent more : ℕ) (line : List ℕ) → i < length cards → line ≡ line_of_card (get_or cards i []) →
    sent ≡ length (file_of (take i cards)) → Appends old mid (file_of (take i cards)) → more < length line → Appends mid new (take more line) →
    (sent + more < length (file_of cards)) × Appends old new (take (sent + more) (file_of cards))
Appends-part old mid new cards i sent more line within is count first few second =
    let front = file_of (take i cards) in
    let behind = file_of (drop (i + 1) cards) in
    let whole : file_of cards ≡ front ++ (line ++ behind) = file_of-split cards i within ∙ ap (λ (l : List ℕ). front ++ (l ++ behind)) (sym is) in
    let cut : take (sent + more) (file_of cards) ≡ front ++ take more line =
    ap (take (sent + more)) whole ∙ ap (λ (n : ℕ). take (n + more) (front ++ (line ++ behind))) count ∙ take-into front line behind more (omega arith) in (
      omega (arith, ap length whole, length-append front (line ++ behind), length-append line behind),
      subst (λ l. Appends old new l) (sym cut) (Appends-trans old mid new front (take more line) first second),
    )
