-- Lines that lead from one open record to the next: their journal, and that of a text that ends among them.
use Rattle.std.proofs.{Common.{ℕ, ◌≡◌, ◌≢◌, ◌+◌, ◌-◌, ◌<◌, ◌≤◌, List, [], ◌∷◌, ◌++◌, Option, None, Some, length, take, drop, refl, sym, ap, subst, ◌∙◌, inl, inr, arith, length-append, append_assoc, append-nil}, lemmas.Bool.Decides.leb_tells, lemmas.List.{length-take-le, take-append-le, take_at, drop_at}, lemmas.List.Elements.All-take, Math.Seq.take-add}
use Rattle.text_ports.{specs.Lines.{line_feed, IsUnbroken}, proofs.LineLaws.pieces_of}
use Rattle.journal.{specs.declared.beginning.Open.Open, specs.declared.places.Place.Place, specs.declared.steps.Step.Step, specs.declared.steps.Step.TheVariants.Goes, specs.Places.{advanced, capped}, specs.Records.{ended, text_of_lines}, specs.Steps.line_step, specs.Journals.{ends, cut_at, journal_from}, proofs.JournalSteps.{stepped, journal-line, journal-open, journal-cut}}

-- a line: no line feed is among its bytes, which are at most 256
pub record IsLine (line : List ℕ) : Type 0 where
  pub unbroken : IsUnbroken line
  pub short : length line ≤ 256

-- lines lead from a record that is open or not to an open one
abbrev pub IsChain : Option Open → List (List ℕ) → Open → Type 0
IsChain current [] final = current ≡ Some final
IsChain current (line ∷ lines) final = IsLine line × ((next : Open) × ((line_step current line ≡ Goes next) × IsChain (Some next) lines final))

-- bytes that are read in two parts
pub advanced-twice : (a b : ℕ) (place : Place) → advanced b (advanced a place) ≡ advanced (a + b) place
advanced-twice a b place =
    let e : capped (capped (place.bytes + a) + b) ≡ capped (place.bytes + (a + b)) = omega arith in
    ap (λ (n : ℕ). record { records = place.records; begin = place.begin; bytes = n }) e

-- a line that goes on
pub journal-goes : (current : Option Open) (place : Place) (line rest : List ℕ) (next : Open) → IsLine line → line_step current line ≡ Goes next →
    journal_from current place (ended line ++ rest) ≡ journal_from (Some next) (advanced (length line + 1) place) rest
journal-goes current place line rest next is goes =
    ap (journal_from current place) (append_assoc line (line_feed ∷ []) rest)
    ∙ journal-line current place line rest is.unbroken is.short
    ∙ ap (λ (s : Step). stepped s place (length line + 1) (pieces_of rest)) goes

pub length-ended : (line : List ℕ) → length (ended line) ≡ length line + 1
length-ended line = length-append line (line_feed ∷ [])

-- the journal behind lines, of which there is one at least
pub chain-journal : (current : Option Open) (line : List ℕ) (lines : List (List ℕ)) (final : Open) (place : Place) (rest : List ℕ) → IsChain current (line ∷ lines) final →
    journal_from current place (text_of_lines (line ∷ lines) ++ rest) ≡ journal_from (Some final) (advanced (length (text_of_lines (line ∷ lines))) place) rest
chain-journal current line [] final place rest chain =
    let n : length line + 1 ≡ length (ended line ++ []) = sym (ap length (append-nil (ended line)) ∙ length-ended line) in
    ap (λ (t : List ℕ). journal_from current place (t ++ rest)) (append-nil (ended line))
    ∙ journal-goes current place line rest chain.1.0 chain.0 chain.1.1.0
    ∙ ap (λ (o : Option Open). journal_from o (advanced (length line + 1) place) rest) chain.1.1.1
    ∙ ap (λ (k : ℕ). journal_from (Some final) (advanced k place) rest) n
chain-journal current line (more ∷ lines) final place rest chain =
    let behind = text_of_lines (more ∷ lines) in
    let n : (length line + 1) + length behind ≡ length (ended line ++ behind) = ap (λ (k : ℕ). k + length behind) (sym (length-ended line)) ∙ sym (length-append (ended line) behind) in
    ap (journal_from current place) (append_assoc (ended line) behind rest)
    ∙ journal-goes current place line (behind ++ rest) chain.1.0 chain.0 chain.1.1.0
    ∙ chain-journal (Some chain.1.0) more lines final (advanced (length line + 1) place) rest chain.1.1.1
    ∙ ap (λ (p : Place). journal_from (Some final) p rest) (advanced-twice (length line + 1) (length behind) place)
    ∙ ap (λ (k : ℕ). journal_from (Some final) (advanced k place) rest) n

-- something was begun: a record is open, or some bytes are there
abbrev pub IsBegun : Option Open → ℕ → Type 0
IsBegun None count = 0 < count
IsBegun (Some current) count = 0 ≤ count

-- a part of a line behind which nothing stands
part-cut : (current : Option Open) (place : Place) (part : List ℕ) → IsUnbroken part → length part ≤ 256 → IsBegun current (length part) → journal_from current place part ≡ ends (cut_at place)
part-cut None place part unbroken short begun = journal-cut None place part unbroken begun short
part-cut (Some current) place [] unbroken short begun = journal-open current place
part-cut (Some current) place (b ∷ bs) unbroken short begun = journal-cut (Some current) place (b ∷ bs) unbroken (omega arith) short

line-cut : (current : Option Open) (place : Place) (line more : List ℕ) (count : ℕ) → IsLine line → count ≤ length line → IsBegun current count →
    journal_from current place (take count (line ++ more)) ≡ ends (cut_at place)
line-cut current place line more count is within begun =
    let n : length (take count line) ≡ count = length-take-le count line within in
    let P : ℕ → Type 0 = λ k. IsBegun current k in
    ap (journal_from current place) (take-append-le count line more within)
    ∙ part-cut current place (take count line) (All-take (λ b. b ≢ line_feed) count line is.unbroken)
    (let s : length line ≤ 256 = is.short in omega (arith, n, within, s))
    (subst P (sym n) begun)

-- the first bytes of a line and more
take-behind : (line more : List ℕ) (count : ℕ) → length line + 1 ≤ count → take count (ended line ++ more) ≡ ended line ++ take (count - (length line + 1)) more
take-behind line more count least =
    let n : length line + 1 ≡ length (ended line) = sym (length-ended line) in
    let e : count ≡ length (ended line) + (count - (length line + 1)) = omega (arith, n, least) in
    ap (λ (k : ℕ). take k (ended line ++ more)) e
    ∙ take-add (length (ended line)) (count - (length line + 1)) (ended line ++ more)
    ∙ ap (λ (t : List ℕ). t ++ take (count - (length line + 1)) (drop (length (ended line)) (ended line ++ more))) (take_at (ended line) more (length (ended line)) refl)
    ∙ ap (λ (t : List ℕ). ended line ++ take (count - (length line + 1)) t) (drop_at (ended line) more (length (ended line)) refl)

-- a text of lines that ends among them, or in the line behind them
pub chain-cut : (current : Option Open) (lines : List (List ℕ)) (final : Open) (last : List ℕ) (place : Place) (count : ℕ) → IsChain current lines final → IsLine last → IsBegun current count →
    count < length (text_of_lines lines ++ ended last) → journal_from current place (take count (text_of_lines lines ++ ended last)) ≡ ends (cut_at place)
chain-cut current [] final last place count chain is begun fewer =
    line-cut current place last (line_feed ∷ []) count is (let n = length-ended last in omega (arith, fewer, n)) begun
chain-cut current (line ∷ lines) final last place count chain is begun fewer =
    let more = text_of_lines lines ++ ended last in
    let group : text_of_lines (line ∷ lines) ++ ended last ≡ ended line ++ more = append_assoc (ended line) (text_of_lines lines) (ended last) in
    let size : length (text_of_lines (line ∷ lines) ++ ended last) ≡ (length line + 1) + length more =
    ap length group ∙ length-append (ended line) more ∙ ap (λ (k : ℕ). k + length more) (length-ended line) in
    ap (λ (t : List ℕ). journal_from current place (take count t)) group
    ∙ elim (leb_tells count (length line)) [
      | inl within ↦ ap (λ (t : List ℕ). journal_from current place (take count t)) (append_assoc line (line_feed ∷ []) more) ∙ line-cut current place line (line_feed ∷ more) count chain.0 within.1 begun
      | inr beyond ↦
          let least : length line + 1 ≤ count = omega (arith, beyond.1) in
          let left = count - (length line + 1) in
          let fewer_left : left < length more = omega (arith, fewer, size, least) in
          ap (journal_from current place) (take-behind line more count least)
          ∙ journal-goes current place line (take left more) chain.1.0 chain.0 chain.1.1.0
          ∙ chain-cut (Some chain.1.0) lines final last (advanced (length line + 1) place) left chain.1.1.1 is (omega arith) fewer_left
    ]
