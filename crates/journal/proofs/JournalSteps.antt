-- The journal of bytes that begin with a line, or with none.
use Rattle.std.{proofs.Common.{ℕ, ◌≡◌, ◌+◌, ◌<◌, ◌≤◌, ◌==◌, List, [], ◌∷◌, ◌++◌, Bool, true, false, if◌then◌else◌, Option, None, Some, length, refl, ap, ◌∙◌, inl, inr, arith, length-append, le-ltb, lt-ltb}, specs.List.onto_first, proofs.lemmas.Bool.Decides.eqb_tells, proofs.lemmas.List.Splits.{slice_split_none, slice_split_at, slice_split-cons_no, slice_split-cons_yes}}
use Rattle.text_ports.{specs.Lines.{line_feed, IsUnbroken}, proofs.LineLaws.{pieces_of, passed_over, some_piece, first_piece, pieces_of-behind}}
use Rattle.journal.specs.{declared.beginning.Open.Open, declared.places.Place.Place, declared.places.Ending.TheVariants.Whole, declared.steps.Step.Step, declared.steps.Step.TheVariants.{Goes, Ends, Wrong, Bad}, Places.{advanced, behind_record}, Steps.line_step, Journals.{Journal, ends, in_front, cut_at, faulty_at, last_ending, wrong_ending, read_on, journal_from}}

-- the journal behind a line of so many bytes, which made this step
abbrev pub stepped : Step → Place → ℕ → List (List ℕ) → Journal
stepped (Goes more) place count pieces = read_on (Some more) (advanced count place) pieces
stepped (Ends whole) place count pieces = in_front whole (read_on None (behind_record (advanced count place)) pieces)
stepped Wrong place count pieces = ends (wrong_ending place pieces)
stepped Bad place count pieces = ends (faulty_at place)

stepped-is : (step : Step) (place : Place) (line next : List ℕ) (pieces : List (List ℕ)) → elim step [
  | Goes more ↦ read_on (Some more) (advanced (length line + 1) place) (next ∷ pieces)
  | Ends whole ↦ in_front whole (read_on None (behind_record (advanced (length line + 1) place)) (next ∷ pieces))
  | Wrong ↦ ends (wrong_ending place (next ∷ pieces))
  | Bad ↦ ends (faulty_at place)
] ≡ stepped step place (length line + 1) (next ∷ pieces)
stepped-is (Goes more) place line next pieces = refl
stepped-is (Ends whole) place line next pieces = refl
stepped-is Wrong place line next pieces = refl
stepped-is Bad place line next pieces = refl

read_on-line : (current : Option Open) (place : Place) (line : List ℕ) (pieces : List (List ℕ)) → length line ≤ 256 → 0 < length pieces →
    read_on current place (line ∷ pieces) ≡ stepped (line_step current line) place (length line + 1) pieces
read_on-line current place line [] short some = absurd (omega (arith, some))
read_on-line current place line (next ∷ pieces) short some =
    ap (λ (t : Bool). elim t [
      | true ↦ ends (faulty_at place)
      | false ↦ elim (line_step current line) [
        | Goes more ↦ read_on (Some more) (advanced (length line + 1) place) (next ∷ pieces)
        | Ends whole ↦ in_front whole (read_on None (behind_record (advanced (length line + 1) place)) (next ∷ pieces))
        | Wrong ↦ ends (wrong_ending place (next ∷ pieces))
        | Bad ↦ ends (faulty_at place)
      ]
    ]) (le-ltb 256 (length line) short)
    ∙ stepped-is (line_step current line) place line next pieces

-- a line and its line feed make a step
pub journal-line : (current : Option Open) (place : Place) (line rest : List ℕ) → IsUnbroken line → length line ≤ 256 →
    journal_from current place (line ++ line_feed ∷ rest) ≡ stepped (line_step current line) place (length line + 1) (pieces_of rest)
journal-line current place line rest unbroken short =
    ap (read_on current place) (slice_split_at (λ b. b == 10) line 10 rest (passed_over line unbroken) refl)
    ∙ read_on-line current place line (pieces_of rest) short (some_piece rest)

-- nothing is left where no record is open
pub journal-nothing : (place : Place) → journal_from None place [] ≡ ends Whole
journal-nothing place = refl

-- nothing is left of an open record
pub journal-open : (current : Open) (place : Place) → journal_from (Some current) place [] ≡ ends (cut_at place)
journal-open current place = refl

last-cut : (current : Option Open) (place : Place) (tail : List ℕ) → 0 < length tail → length tail ≤ 256 → last_ending current place tail ≡ cut_at place
last-cut current place [] some short = absurd (omega (arith, some))
last-cut None place (b ∷ bs) some short = ap (λ (t : Bool). if t then faulty_at place else cut_at place) (le-ltb 256 (length (b ∷ bs)) short)
last-cut (Some current) place (b ∷ bs) some short = ap (λ (t : Bool). if t then faulty_at place else cut_at place) (le-ltb 256 (length (b ∷ bs)) short)

-- a line that no line feed ends
pub journal-cut : (current : Option Open) (place : Place) (tail : List ℕ) → IsUnbroken tail → 0 < length tail → length tail ≤ 256 →
    journal_from current place tail ≡ ends (cut_at place)
journal-cut current place tail unbroken some short =
    ap (read_on current place) (slice_split_none (λ b. b == 10) tail (passed_over tail unbroken)) ∙ ap ends (last-cut current place tail some short)

last-long : (current : Option Open) (place : Place) (tail : List ℕ) → 256 < length tail → last_ending current place tail ≡ faulty_at place
last-long current place [] long = absurd (omega (arith, long))
last-long None place (b ∷ bs) long = ap (λ (t : Bool). if t then faulty_at place else cut_at place) (lt-ltb 256 (length (b ∷ bs)) long)
last-long (Some current) place (b ∷ bs) long = ap (λ (t : Bool). if t then faulty_at place else cut_at place) (lt-ltb 256 (length (b ∷ bs)) long)

read_on-long : (current : Option Open) (place : Place) (line : List ℕ) (pieces : List (List ℕ)) → 256 < length line → read_on current place (line ∷ pieces) ≡ ends (faulty_at place)
read_on-long current place line [] long = ap ends (last-long current place line long)
read_on-long current place line (next ∷ pieces) long =
    ap (λ (t : Bool). elim t [
      | true ↦ ends (faulty_at place)
      | false ↦ elim (line_step current line) [
        | Goes more ↦ read_on (Some more) (advanced (length line + 1) place) (next ∷ pieces)
        | Ends whole ↦ in_front whole (read_on None (behind_record (advanced (length line + 1) place)) (next ∷ pieces))
        | Wrong ↦ ends (wrong_ending place (next ∷ pieces))
        | Bad ↦ ends (faulty_at place)
      ]
    ]) (lt-ltb 256 (length line) long)

-- a line that is too long, whatever follows
pub journal-long : (current : Option Open) (place : Place) (taken rest : List ℕ) → IsUnbroken taken → 256 < length taken → journal_from current place (taken ++ rest) ≡ ends (faulty_at place)
journal-long current place taken rest unbroken long =
    let piece = first_piece (pieces_of rest) (some_piece rest) in
    ap (read_on current place) (pieces_of-behind taken rest piece.0 piece.1.0 unbroken piece.1.1)
    ∙ read_on-long current place (taken ++ piece.0) piece.1.0 (omega (arith, length-append taken piece.0))

wrong-more : (place : Place) (pieces : List (List ℕ)) → 0 < length pieces → wrong_ending place ([] ∷ pieces) ≡ faulty_at place
wrong-more place [] some = absurd (omega (arith, some))
wrong-more place (next ∷ pieces) some = refl

wrong-onto : (place : Place) (b : ℕ) (pieces : List (List ℕ)) → 0 < length pieces → wrong_ending place (onto_first b pieces) ≡ faulty_at place
wrong-onto place b [] some = absurd (omega (arith, some))
wrong-onto place b (first ∷ []) some = refl
wrong-onto place b (first ∷ next ∷ pieces) some = refl

-- a damaged record with something behind it
pub wrong-something : (place : Place) (bytes : List ℕ) → 0 < length bytes → wrong_ending place (pieces_of bytes) ≡ faulty_at place
wrong-something place [] some = absurd (omega (arith, some))
wrong-something place (b ∷ bs) some =
    elim (eqb_tells b 10) [
      | inl h ↦ ap (wrong_ending place) (slice_split-cons_yes (λ c. c == 10) b bs h.0) ∙ wrong-more place (pieces_of bs) (some_piece bs)
      | inr h ↦ ap (wrong_ending place) (slice_split-cons_no (λ c. c == 10) b bs h.0) ∙ wrong-onto place b (pieces_of bs) (some_piece bs)
    ]

-- a damaged record with nothing behind it
pub wrong-nothing : (place : Place) → wrong_ending place (pieces_of []) ≡ cut_at place
wrong-nothing place = refl
