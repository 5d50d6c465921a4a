-- The steps of loading a file: the lines so far show these cards, whatever follows.
use Rattle.std.{proofs.Common.{ℕ, ◌≡◌, ◌+◌, ◌*◌, ◌≤◌, List, [], ◌∷◌, ◌++◌, Option, Result, Ok, Err, IsOk, length, refl, sym, ap, subst, ◌∙◌, arith, append_assoc, append-nil, length-append}, specs.Io.KnownBytes.Consumes, proofs.KnownBytes.{Consumes-trans}}
use Rattle.definitions.specs.{Cards.Card, InputLines.{InputLine, Line, TooLong, lines_of, without_cr}}
use Rattle.text_ports.{specs.Lines.{ReadsLine, ReadsWholeLine}, proofs.LineLaws.{lines_of-taken, lines_of-cut, lines_of-few, lines_of-long}}
use Rattle.text_ports.specs.declared.lines.LineIs.TheVariants as is
use Rattle.cards.specs.declared.card.CardFault.TheVariants as card
use Rattle.deck_files.specs.{declared.load_fault.LoadFault.LoadFault, declared.load_fault.LoadFault.TheVariants.{ReadFault, BadLine, LastLineCut, DeckFull, OutOfMemory}, DeckFiles.{card_in, in_front, with_first, cards_behind, cards_of_file}, declared.file_sums.FileSum.FileSum, declared.file_sums.Summing.Summing, FileSums.{Sums, sum_of}, Loads.{GaveFault, LoadsFault, LoadsSummed, IsFaultOf}}

-- cards in front of a card
in_front-more : (cards : List Card) (columns : Card) (read : Result (List Card) LoadFault) → in_front cards (in_front (columns ∷ []) read) ≡ in_front (cards ++ columns ∷ []) read
in_front-more cards columns (Ok others) = ap Ok (sym (append_assoc cards (columns ∷ []) others))
in_front-more cards columns (Err fault) = refl

-- a line with all that stands in front of its line feed, as the line that it shows
pub shown-line : (old new : Option (List ℕ)) (line : List ℕ) → ReadsWholeLine old new is.Line line → ReadsLine old new is.Line (without_cr line)
shown-line old new line read = (read.0, read.1, (line, read.2.0, read.2.1, read.2.2, refl), read.3)

-- the reader lost whole lines that show these cards, whatever follows, and this is their sum so far
pub record IsLoaded (old new : Option (List ℕ)) (cards : List Card) (summing : Summing) : Type 0 where
  pub taken : List ℕ
  pub consumed : Consumes old new taken
  pub sums : Sums summing taken
  pub short : summing.length ≤ 257 * length cards
  pub whole : (rest : List ℕ) → cards_of_file (taken ++ rest) ≡ in_front cards (cards_behind (length cards) (lines_of rest))

-- the file is the lines so far, and what begins with more bytes
file-behind : (taken more rest : List ℕ) (cards : List Card) (line : InputLine) (later : List InputLine) →
    ((rest : List ℕ) → cards_of_file (taken ++ rest) ≡ in_front cards (cards_behind (length cards) (lines_of rest))) → lines_of (more ++ rest) ≡ line ∷ later →
    cards_of_file (taken ++ more ++ rest) ≡ in_front cards (with_first (card_in (length cards + 1) line) (cards_behind (length cards + 1) later))
file-behind taken more rest cards line later whole e =
    ap cards_of_file (append_assoc taken more rest) ∙ whole (more ++ rest) ∙ ap (λ (l : List InputLine). in_front cards (cards_behind (length cards) l)) e

-- a line that shows a card
pub IsLoaded-more : (old new next : Option (List ℕ)) (cards after : List Card) (summing summed : Summing) (columns : Card) (line text : List ℕ) → IsLoaded old new cards summing →
    ReadsWholeLine new next is.Line line → text ≡ line → card_in (length cards + 1) (Line (without_cr text)) ≡ Ok columns → after ≡ cards ++ columns ∷ [] →
    ((bytes : List ℕ) → Sums summing bytes → Sums summed (bytes ++ (text ++ 10 ∷ []))) → summed.length ≤ summing.length + 257 → IsLoaded old next after summed
IsLoaded-more old new next cards after summing summed columns line text loaded read same shows more adds longer =
    let P : List Card → Type 0 = λ (c : List Card). IsLoaded old next c summed in
    let count : length cards + 1 ≡ length (cards ++ columns ∷ []) = omega (arith, length-append cards (columns ∷ [])) in
    let taken : text ++ 10 ∷ [] ≡ read.0 = ap (λ (t : List ℕ). t ++ 10 ∷ []) same ∙ sym read.2.0 in
    subst P (sym more) (record {
      taken = loaded.taken ++ read.0;
      consumed = Consumes-trans old new next loaded.taken read.0 loaded.consumed read.1;
      sums = subst (λ (t : List ℕ). Sums summed (loaded.taken ++ t)) taken (adds loaded.taken loaded.sums);
      short = omega (arith, longer, loaded.short, count);
      whole = λ rest.
          file-behind loaded.taken read.0 rest cards (Line (without_cr line)) (lines_of rest) loaded.whole (lines_of-taken read.0 (without_cr line) rest (line, read.2.0, read.2.1, read.2.2, refl))
          ∙ ap (λ (r : Result Card LoadFault). in_front cards (with_first r (cards_behind (length cards + 1) (lines_of rest))))
          (ap (λ (t : List ℕ). card_in (length cards + 1) (Line (without_cr t))) (sym same) ∙ shows)
          ∙ in_front-more cards columns (cards_behind (length cards + 1) (lines_of rest))
          ∙ ap (λ (n : ℕ). in_front (cards ++ columns ∷ []) (cards_behind n (lines_of rest))) count;
    })

-- the lines so far have these cards
cards-so_far : (taken : List ℕ) (cards : List Card) → ((rest : List ℕ) → cards_of_file (taken ++ rest) ≡ in_front cards (cards_behind (length cards) (lines_of rest))) →
    cards_of_file taken ≡ Ok cards
cards-so_far taken cards whole = ap cards_of_file (sym (append-nil taken)) ∙ whole [] ∙ ap Ok (append-nil cards)

-- the end of the file
pub LoadsSummed-end : (old new next : Option (List ℕ)) (cards : List Card) {summing : Summing} (sum : FileSum) (line : List ℕ) → IsLoaded old new cards summing → ReadsLine new next is.End line →
    ((bytes : List ℕ) → Sums summing bytes → sum ≡ sum_of bytes) → LoadsSummed old next cards sum
LoadsSummed-end old new next cards sum line loaded read told = (
  loaded.taken ++ read.0,
  Consumes-trans old new next loaded.taken read.0 loaded.consumed read.1,
  read.3,
  ap (λ (l : List ℕ). cards_of_file (loaded.taken ++ l)) read.2.0 ∙ whole-end,
  told loaded.taken loaded.sums ∙ ap sum_of (sym (ap (λ (l : List ℕ). loaded.taken ++ l) read.2.0 ∙ append-nil loaded.taken)),
)
  where
    whole-end : cards_of_file (loaded.taken ++ []) ≡ Ok cards
    whole-end = ap cards_of_file (append-nil loaded.taken) ∙ cards-so_far loaded.taken cards loaded.whole

-- a last line that no line feed ends
pub LoadsFault-cut : (old new next : Option (List ℕ)) (cards : List Card) {summing : Summing} (line : List ℕ) → IsLoaded old new cards summing → ReadsLine new next is.Cut line → LoadsFault LastLineCut old next
LoadsFault-cut old new next cards line loaded read = (
  loaded.taken ++ read.0,
  Consumes-trans old new next loaded.taken read.0 loaded.consumed read.1,
  read.3,
  loaded.whole read.0 ∙ ap (λ (l : List InputLine). in_front cards (cards_behind (length cards) l)) (lines_of-cut read.0 read.2.2 read.2.0 read.2.1),
)

-- a line that is too long
pub LoadsFault-long : (old new next : Option (List ℕ)) (cards : List Card) {summing : Summing} (line : List ℕ) (fault : LoadFault) → IsLoaded old new cards summing → ReadsLine new next is.TooLong line →
    fault ≡ BadLine (length cards + 1) card.TooWide → LoadsFault fault old next
LoadsFault-long old new next cards line fault loaded read is_wide =
    let P : LoadFault → Type 0 = λ (f : LoadFault). LoadsFault f old next in
    subst P (sym is_wide) (
      loaded.taken ++ read.0,
      Consumes-trans old new next loaded.taken read.0 loaded.consumed read.1,
      λ rest.
          let long = lines_of-long read.0 rest read.2.1 (omega (arith, read.2.0)) in
          file-behind loaded.taken read.0 rest cards TooLong long.0 loaded.whole long.1,
    )

-- a fault of the reader
pub LoadsFault-read : (old new next : Option (List ℕ)) (cards : List Card) {summing : Summing} (line : List ℕ) → IsLoaded old new cards summing → ReadsLine new next is.Fault line → LoadsFault ReadFault old next
LoadsFault-read old new next cards line loaded read = record {
  front = loaded.taken;
  line = read.0;
  consumed = Consumes-trans old new next loaded.taken read.0 loaded.consumed read.1;
  cards = let P : Result (List Card) LoadFault → Type 0 = λ (r : Result (List Card) LoadFault). IsOk r in
      subst P (sym (cards-so_far loaded.taken cards loaded.whole)) refl;
  one = lines_of-few read.0 read.2.1;
}

-- the file has the fault of this line
GaveFault-line : (old new next : Option (List ℕ)) (cards : List Card) {summing : Summing} (line : List ℕ) (fault : LoadFault) → IsLoaded old new cards summing → ReadsLine new next is.Line line →
    card_in (length cards + 1) (Line line) ≡ Err fault → GaveFault old next fault
GaveFault-line old new next cards line fault loaded read shows = (
  loaded.taken ++ read.0,
  Consumes-trans old new next loaded.taken read.0 loaded.consumed read.1,
  λ rest.
      file-behind loaded.taken read.0 rest cards (Line line) (lines_of rest) loaded.whole (lines_of-taken read.0 line rest read.2)
      ∙ ap (λ (r : Result Card LoadFault). in_front cards (with_first r (cards_behind (length cards + 1) (lines_of rest)))) shows,
)

in_front-Ok : (cards : List Card) (first : Result Card LoadFault) → IsOk first → IsOk (in_front cards (with_first first (Ok [])))
in_front-Ok cards (Ok columns) h = refl
in_front-Ok cards (Err fault) h = cc

-- a line that was read whole, and whose card was not added
LoadsFault-whole : (old new next : Option (List ℕ)) (cards : List Card) {summing : Summing} (line : List ℕ) (fault : LoadFault) → IsLoaded old new cards summing → ReadsLine new next is.Line line →
    IsFaultOf fault (card_in (length cards + 1) (Line line)) → LoadsFault fault old next
LoadsFault-whole old new next cards line ReadFault loaded read h = absurd h
LoadsFault-whole old new next cards line (BadLine number fault) loaded read h = GaveFault-line old new next cards line (BadLine number fault) loaded read h
LoadsFault-whole old new next cards line LastLineCut loaded read h = absurd h
LoadsFault-whole old new next cards line DeckFull loaded read h = GaveFault-line old new next cards line DeckFull loaded read h
LoadsFault-whole old new next cards line OutOfMemory loaded read h = (
  loaded.taken ++ read.0,
  Consumes-trans old new next loaded.taken read.0 loaded.consumed read.1,
  (
      let P : Result (List Card) LoadFault → Type 0 = λ (r : Result (List Card) LoadFault). IsOk r in
      let all = ap cards_of_file (sym (append-nil (loaded.taken ++ read.0))) ∙ file-behind loaded.taken read.0 [] cards (Line line) [] loaded.whole (lines_of-taken read.0 line [] read.2) in
      subst P (sym all) (in_front-Ok cards (card_in (length cards + 1) (Line line)) h)
      ),
)

pub LoadsFault-line : (old new next : Option (List ℕ)) (cards : List Card) {summing : Summing} (line text : List ℕ) (fault : LoadFault) → IsLoaded old new cards summing → ReadsLine new next is.Line line →
    text ≡ line → IsFaultOf fault (card_in (length cards + 1) (Line text)) → LoadsFault fault old next
LoadsFault-line old new next cards line text fault loaded read same h =
    let P : List ℕ → Type 0 = λ (t : List ℕ). IsFaultOf fault (card_in (length cards + 1) (Line t)) in
    LoadsFault-whole old new next cards line fault loaded read (subst P same h)
