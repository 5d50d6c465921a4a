-- The lines of bytes that begin with a line, or with one that is too long, or that no line feed ends.
use Rattle.std.{proofs.Common.{ℕ, ◌≡◌, ◌≢◌, ◌<◌, ◌≤◌, ◌==◌, List, [], ◌∷◌, ◌++◌, Bool, false, if◌then◌else◌, All, length, refl, sym, ap, ◌∙◌, arith, length-append, append_assoc, le-ltb, lt-ltb}, specs.List.{slice_split, onto_first}, proofs.lemmas.Bool.ne_eqb, proofs.lemmas.List.Elements.{All-weaker, All-head, All-tail}, proofs.lemmas.List.Splits.{slice_split_none, slice_split_at, slice_split-cons_no, length-slice_split}}
use Rattle.definitions.specs.InputLines.{InputLine, Line, TooLong, Cut, without_cr, line_of, last_of, lines_of_pieces, lines_of}
use Rattle.text_ports.specs.Lines.{line_feed, IsUnbroken, IsTakenAs}
use Rattle.text_ports.specs.declared.lines.LineIs.TheVariants as is

-- the bytes between line feeds
abbrev pub pieces_of : List ℕ → List (List ℕ)
pieces_of bytes = slice_split (λ b. b == 10) bytes

pub passed_over : (bytes : List ℕ) → IsUnbroken bytes → All (λ b. (b == 10) ≡ false) bytes
passed_over bytes h = All-weaker (λ b. b ≢ line_feed) (λ b. (b == 10) ≡ false) (λ b n. ne_eqb b 10 n) bytes h

pub some_piece : (bytes : List ℕ) → 0 < length (pieces_of bytes)
some_piece bytes = omega (arith, length-slice_split (λ b. b == 10) bytes)

lines_of_pieces-more : (bytes : List ℕ) (pieces : List (List ℕ)) → 0 < length pieces → lines_of_pieces (bytes ∷ pieces) ≡ line_of bytes ∷ lines_of_pieces pieces
lines_of_pieces-more bytes [] h = absurd (omega arith)
lines_of_pieces-more bytes (next ∷ pieces) h = refl

-- bytes that a line feed ends are a line
pub lines_of-line : (body rest : List ℕ) → IsUnbroken body → length body ≤ 256 → lines_of (body ++ line_feed ∷ rest) ≡ Line (without_cr body) ∷ lines_of rest
lines_of-line body rest h short =
    ap lines_of_pieces (slice_split_at (λ b. b == 10) body 10 rest (passed_over body h) refl)
    ∙ lines_of_pieces-more body (pieces_of rest) (some_piece rest)
    ∙ ap (λ (t : Bool). (if t then TooLong else Line (without_cr body)) ∷ lines_of rest) (le-ltb 256 (length body) short)

last_of-cut : (bytes : List ℕ) → 0 < length bytes → length bytes ≤ 256 → last_of bytes ≡ Cut ∷ []
last_of-cut [] some short = absurd (omega arith)
last_of-cut (b ∷ bs) some short = ap (λ (t : Bool). (if t then TooLong else Cut) ∷ []) (le-ltb 256 (length (b ∷ bs)) short)

-- bytes that no line feed ends are a line that may be cut
pub lines_of-cut : (bytes : List ℕ) → IsUnbroken bytes → 0 < length bytes → length bytes ≤ 256 → lines_of bytes ≡ Cut ∷ []
lines_of-cut bytes h some short = ap lines_of_pieces (slice_split_none (λ b. b == 10) bytes (passed_over bytes h)) ∙ last_of-cut bytes some short

last_of-few : (bytes : List ℕ) → length (last_of bytes) ≤ 1
last_of-few [] = omega arith
last_of-few (b ∷ bs) = omega arith

-- bytes without a line feed are no more than one line
pub lines_of-few : (bytes : List ℕ) → IsUnbroken bytes → length (lines_of bytes) ≤ 1
lines_of-few bytes h =
    let e : length (lines_of bytes) ≡ length (last_of bytes) = ap (λ (pieces : List (List ℕ)). length (lines_of_pieces pieces)) (slice_split_none (λ b. b == 10) bytes (passed_over bytes h)) in
    omega (arith, last_of-few bytes)

-- what stands behind bytes without a line feed goes on their piece
pub pieces_of-behind : (bytes rest first : List ℕ) (others : List (List ℕ)) → IsUnbroken bytes → pieces_of rest ≡ first ∷ others → pieces_of (bytes ++ rest) ≡ (bytes ++ first) ∷ others
pieces_of-behind [] rest first others h e = e
pieces_of-behind (b ∷ bs) rest first others h e =
    slice_split-cons_no (λ b. b == 10) b (bs ++ rest) (ne_eqb b 10 (All-head (λ b. b ≢ line_feed) b bs h))
    ∙ ap (onto_first b) (pieces_of-behind bs rest first others (All-tail (λ b. b ≢ line_feed) b bs h) e)

pub first_piece : (pieces : List (List ℕ)) → 0 < length pieces → (first : List ℕ) × ((others : List (List ℕ)) × (pieces ≡ first ∷ others))
first_piece [] h = absurd (omega arith)
first_piece (first ∷ others) h = (first, (others, refl))

lines_of_pieces-long : (bytes : List ℕ) (others : List (List ℕ)) → 256 < length bytes → (later : List InputLine) × (lines_of_pieces (bytes ∷ others) ≡ TooLong ∷ later)
lines_of_pieces-long [] [] long = absurd (omega arith)
lines_of_pieces-long (b ∷ bs) [] long = ([], ap (λ (t : Bool). (if t then TooLong else Cut) ∷ []) (lt-ltb 256 (length (b ∷ bs)) long))
lines_of_pieces-long bytes (next ∷ pieces) long =
    (lines_of_pieces (next ∷ pieces), ap (λ (t : Bool). (if t then TooLong else Line (without_cr bytes)) ∷ lines_of_pieces (next ∷ pieces)) (lt-ltb 256 (length bytes) long))

-- more than 256 bytes without a line feed begin a line that is too long, whatever follows
pub lines_of-long : (bytes rest : List ℕ) → IsUnbroken bytes → 256 < length bytes → (later : List InputLine) × (lines_of (bytes ++ rest) ≡ TooLong ∷ later)
lines_of-long bytes rest h long =
    let piece = first_piece (pieces_of rest) (some_piece rest) in
    let more = lines_of_pieces-long (bytes ++ piece.0) piece.1.0 (omega (arith, length-append bytes piece.0)) in
    (more.0, ap lines_of_pieces (pieces_of-behind bytes rest piece.0 piece.1.0 h piece.1.1) ∙ more.1)

-- what a line took is the first line, whatever follows
pub lines_of-taken : (taken line rest : List ℕ) → IsTakenAs is.Line taken line → lines_of (taken ++ rest) ≡ Line line ∷ lines_of rest
lines_of-taken taken line rest h =
    ap (λ (b : List ℕ). lines_of (b ++ rest)) h.1
    ∙ ap lines_of (append_assoc h.0 (line_feed ∷ []) rest)
    ∙ lines_of-line h.0 rest h.2 h.3
    ∙ ap (λ (l : List ℕ). Line l ∷ lines_of rest) (sym h.4)
