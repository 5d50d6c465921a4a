-- The steps of reading lines: the bytes that were taken are the lines so far, whatever follows.
use Rattle.std.{proofs.Common.{ℕ, ◌≡◌, ◌+◌, ◌<◌, ◌≤◌, List, [], ◌∷◌, ◌++◌, Option, None, Some, length, reverse, refl, sym, ap, subst, ◌∙◌, arith, append_assoc, IfSome}, specs.Prelude.MatchOption, specs.Io.KnownBytes.Consumes, proofs.KnownBytes.{Consumes-nil, Consumes-trans, Consumes-whole}, proofs.lemmas.List.{append-nil, reverse-reverse}, proofs.lemmas.Grind.reverse_onto}
use Rattle.definitions.specs.{DeckInput.{Deck, Input, Decks, Faulty, InputFault, with_line, input_of}, InputLines.{InputLine, Line, TooLong, Cut, lines_of}}
use Rattle.definitions.specs.DeckInput as input
use Rattle.text_ports.{specs.Lines.{line_feed, IsTakenAs, ReadsLine}, specs.declared.lines.LineIs.LineIs, proofs.LineLaws.{lines_of-line, lines_of-cut, lines_of-few, lines_of-long}}
use Rattle.text_ports.specs.declared.lines.LineIs.TheVariants as is
use Rattle.asm_main.{specs.declared.asm_fault.AsmFault.AsmFault, specs.declared.asm_fault.AsmFault.TheVariants.{OutOfMemory, DeckFull, NameTaken, TooManyDecks, ReadFault, BadLine, LastLineCut, WriteFault, BadName}, specs.Inputs.{input_in, AreDecksOf, input_fault, IsFaultOf, TellsFaultOf, ReadsToFault, ReadsSound, IsSoundBefore}, proofs.InputLaws.{input_in-faulty, few_lines, few_decks}}
use Rattle.deck_cuts.{specs.Cuts.{newest_first, IsSound}, proofs.DeckLaws.{in_input_order-newest_first, length-newest_first}}

-- the reader lost the bytes of these lines, newest first
pub record IsReadAs (old new : Option (List ℕ)) (lines : List InputLine) : Type 0 where
  pub taken : List ℕ
  pub consumed : Consumes old new taken
  pub whole : (rest : List ℕ) → lines_of (taken ++ rest) ≡ reverse lines ++ lines_of rest

-- so many lines were read, and they are these decks
pub record IsReadSoFar (old new : Option (List ℕ)) (decks : List Deck) (count : ℕ) : Type 0 where
  pub lines : List InputLine
  pub read : IsReadAs old new lines
  pub input : input_of lines ≡ Decks (newest_first decks)
  pub count_is : length lines ≡ count

-- nothing is read
pub IsReadSoFar-none : (old : Option (List ℕ)) (decks : List Deck) → decks ≡ [] → IsReadSoFar old old decks 0
IsReadSoFar-none old decks none = record {
  lines = [];
  read = record { taken = []; consumed = Consumes-nil old; whole = λ rest. refl };
  input = ap (λ (d : List Deck). Decks (newest_first d)) (sym none);
  count_is = refl;
}

-- a line behind others in order
reverse-onto : (line : InputLine) (lines later : List InputLine) → reverse lines ++ (line ∷ later) ≡ reverse (line ∷ lines) ++ later
reverse-onto line lines later = sym (append_assoc (reverse lines) (line ∷ []) later) ∙ ap (λ (l : List InputLine). l ++ later) (sym (reverse_onto lines line []))

-- the lines of what was read and what a line begins
lines-behind : (taken more rest : List ℕ) (lines later : List InputLine) (line : InputLine) → ((rest : List ℕ) → lines_of (taken ++ rest) ≡ reverse lines ++ lines_of rest) →
    lines_of (more ++ rest) ≡ line ∷ later → lines_of (taken ++ more ++ rest) ≡ reverse (line ∷ lines) ++ later
lines-behind taken more rest lines later line whole e =
    ap lines_of (append_assoc taken more rest) ∙ whole (more ++ rest) ∙ ap (λ (l : List InputLine). reverse lines ++ l) e ∙ reverse-onto line lines later

lines_of-taken : (taken line rest : List ℕ) → IsTakenAs is.Line taken line → lines_of (taken ++ rest) ≡ Line line ∷ lines_of rest
lines_of-taken taken line rest h =
    ap (λ (b : List ℕ). lines_of (b ++ rest)) h.1
    ∙ ap lines_of (append_assoc h.0 (line_feed ∷ []) rest)
    ∙ lines_of-line h.0 rest h.2 h.3
    ∙ ap (λ (l : List ℕ). Line l ∷ lines_of rest) (sym h.4)

-- a line more was read
pub IsReadAs-line : (old new next : Option (List ℕ)) (lines : List InputLine) (line : List ℕ) → IsReadAs old new lines → ReadsLine new next is.Line line → IsReadAs old next (Line line ∷ lines)
IsReadAs-line old new next lines line r q = record {
  taken = r.taken ++ q.0;
  consumed = Consumes-trans old new next r.taken q.0 r.consumed q.1;
  whole = λ rest. lines-behind r.taken q.0 rest lines (lines_of rest) (Line line) r.whole (lines_of-taken q.0 line rest q.2);
}

-- the input with the line
pub input-line : (old new : Option (List ℕ)) (decks : List Deck) (count : ℕ) (s : IsReadSoFar old new decks count) (line : InputLine) → input_of (line ∷ s.lines) ≡ with_line (count + 1) line (Decks (newest_first decks))
input-line old new decks count s line =
    ap (λ (n : ℕ). with_line (n + 1) line (input_of s.lines)) s.count_is ∙ ap (with_line (count + 1) line) s.input

-- a line more, without a fault
pub IsReadSoFar-line : (old new next : Option (List ℕ)) (decks more : List Deck) (count : ℕ) (line : List ℕ) → IsReadSoFar old new decks count → ReadsLine new next is.Line line →
    with_line (count + 1) (Line line) (Decks (newest_first decks)) ≡ Decks (newest_first more) → IsReadSoFar old next more (count + 1)
IsReadSoFar-line old new next decks more count line s q e = record {
  lines = Line line ∷ s.lines;
  read = IsReadAs-line old new next s.lines line s.read q;
  input = input-line old new decks count s (Line line) ∙ e;
  count_is = let n = s.count_is in omega (arith, n);
}

-- no more lines than the cards of full decks
pub IsReadSoFar-few : (old new : Option (List ℕ)) (decks : List Deck) (count : ℕ) → IsReadSoFar old new decks count → count ≤ 1280000
IsReadSoFar-few old new decks count s = let n = s.count_is in omega (arith, n, few_lines s.lines (newest_first decks) s.input)

-- at most 64 decks
pub IsReadSoFar-decks : (old new : Option (List ℕ)) (decks : List Deck) (count : ℕ) → IsReadSoFar old new decks count → length decks ≤ 64
IsReadSoFar-decks old new decks count s =
    let few = few_decks s.lines (newest_first decks) s.input in
    let same = length-newest_first decks in
    omega (arith, few, same)

one_line : (answer : LineIs) (taken line : List ℕ) → IsTakenAs answer taken line → length (lines_of taken) ≤ 1
one_line is.Line taken line h =
    let e : length (lines_of taken) ≡ 1 = ap (λ (b : List ℕ). length (lines_of b)) (sym (append-nil taken)) ∙ ap (λ (l : List InputLine). length l) (lines_of-taken taken line [] h) in
    omega (arith, e)
one_line is.End taken line h = let e : length (lines_of taken) ≡ 0 = ap (λ (b : List ℕ). length (lines_of b)) h.0 in omega (arith, e)
one_line is.Cut taken line h = lines_of-few taken h.2
one_line is.TooLong taken line h = lines_of-few taken h.1
one_line is.Fault taken line h = lines_of-few taken h.1

-- what was read is the input of its lines
input_in-read : (old new : Option (List ℕ)) (lines : List InputLine) (r : IsReadAs old new lines) → input_in r.taken ≡ input_of lines
input_in-read old new lines r =
    ap input_in (sym (append-nil r.taken))
    ∙ ap (λ (l : List InputLine). input_of (reverse l)) (r.whole [] ∙ append-nil (reverse lines))
    ∙ ap input_of (reverse-reverse lines)

-- the lines so far show no fault
input_in-so_far : (old new : Option (List ℕ)) (decks : List Deck) (count : ℕ) (s : IsReadSoFar old new decks count) → input_in s.read.taken ≡ Decks (newest_first decks)
input_in-so_far old new decks count s = input_in-read old new s.lines s.read ∙ s.input

-- what was read when the reading ends
pub ReadsToFault-so_far : (old new next : Option (List ℕ)) (decks : List Deck) (count : ℕ) (answer : LineIs) (line : List ℕ) → IsReadSoFar old new decks count → ReadsLine new next answer line → ReadsToFault old next
ReadsToFault-so_far old new next decks count answer line s q = record {
  front = s.read.taken;
  line = q.0;
  consumed = Consumes-trans old new next s.read.taken q.0 s.read.consumed q.1;
  sound = subst IsSound (sym (input_in-so_far old new decks count s)) tt;
  one = one_line answer q.0 line q.2;
}

-- all was read, and shows no fault
pub ReadsSound-so_far : (old new next : Option (List ℕ)) (decks : List Deck) (count : ℕ) (line : List ℕ) → IsReadSoFar old new decks count → ReadsLine new next is.End line → ReadsSound old next
ReadsSound-so_far old new next decks count line s q = record {
  taken = s.read.taken ++ q.0;
  consumed = Consumes-trans old new next s.read.taken q.0 s.read.consumed q.1;
  sound = subst IsSound (sym (ap (λ (b : List ℕ). input_in (s.read.taken ++ b)) q.2.0 ∙ ap input_in (append-nil s.read.taken) ∙ input_in-so_far old new decks count s)) tt;
}

sound-line : (old new next : Option (List ℕ)) (decks : List Deck) (count : ℕ) (line : List ℕ) → IsReadSoFar old new decks count → ReadsLine new next is.Line line →
    IsSound (with_line (count + 1) (Line line) (Decks (newest_first decks))) → ReadsSound old next
sound-line old new next decks count line s q sound =
    let r = IsReadAs-line old new next s.lines line s.read q in
    record {
      taken = r.taken;
      consumed = r.consumed;
      sound = subst IsSound (sym (input_in-read old next (Line line ∷ s.lines) r ∙ input-line old new decks count s (Line line))) sound;
    }

-- memory that is short once a line was read, and shows no fault
pub IsSoundBefore-line : (old new next : Option (List ℕ)) (decks : List Deck) (count : ℕ) (line : List ℕ) (fault : AsmFault) → IsReadSoFar old new decks count → ReadsLine new next is.Line line →
    IsFaultOf (with_line (count + 1) (Line line) (Decks (newest_first decks))) fault → IsSoundBefore fault old next
IsSoundBefore-line old new next decks count line OutOfMemory s q f = sound-line old new next decks count line s q f.1
IsSoundBefore-line old new next decks count line DeckFull s q f = tt
IsSoundBefore-line old new next decks count line NameTaken s q f = tt
IsSoundBefore-line old new next decks count line TooManyDecks s q f = tt
IsSoundBefore-line old new next decks count line ReadFault s q f = tt
IsSoundBefore-line old new next decks count line (BadLine number fault) s q f = tt
IsSoundBefore-line old new next decks count line LastLineCut s q f = tt
IsSoundBefore-line old new next decks count line (WriteFault sent) s q f = tt
IsSoundBefore-line old new next decks count line (BadName number) s q f = tt

-- all was read, and is these decks
pub AreDecksOf-so_far : (old new next : Option (List ℕ)) (decks : List Deck) (count : ℕ) (line : List ℕ) → IsReadSoFar old new decks count → ReadsLine new next is.End line → IfSome old (λ bytes. AreDecksOf (input_in bytes) decks)
AreDecksOf-so_far old new next decks count line s q =
    Consumes-whole old next (s.read.taken ++ q.0) (λ bytes. AreDecksOf (input_in bytes) decks)
    (Consumes-trans old new next s.read.taken q.0 s.read.consumed q.1) q.3
    (subst (λ (i : Input). AreDecksOf i decks)
    (sym (ap (λ (b : List ℕ). input_in (s.read.taken ++ b)) q.2.0 ∙ ap input_in (append-nil s.read.taken) ∙ input_in-so_far old new decks count s))
    (sym (in_input_order-newest_first decks)))

-- a fault of lines that begin the input, whatever follows them
faulty_front : (old next : Option (List ℕ)) (taken : List ℕ) (lines : List InputLine) (fault : InputFault) → Consumes old next taken →
    ((rest : List ℕ) → (later : List InputLine) × (lines_of (taken ++ rest) ≡ reverse lines ++ later)) → input_of lines ≡ Faulty fault → IfSome old (λ bytes. input_in bytes ≡ Faulty fault)
faulty_front None next taken lines fault c begins f = tt
faulty_front (Some bytes) None taken lines fault c begins f = absurd c
faulty_front (Some bytes) (Some rest) taken lines fault c begins f =
    ap input_in c ∙ input_in-faulty (taken ++ rest) lines (begins rest).0 fault (begins rest).1 f

-- a line that is too long
pub too_long-so_far : (old new next : Option (List ℕ)) (decks : List Deck) (count : ℕ) (line : List ℕ) → IsReadSoFar old new decks count → ReadsLine new next is.TooLong line →
    IfSome old (λ bytes. input_in bytes ≡ Faulty (input.BadLineTooWide (count + 1)))
too_long-so_far old new next decks count line s q =
    faulty_front old next (s.read.taken ++ q.0) (TooLong ∷ s.lines) (input.BadLineTooWide (count + 1))
    (Consumes-trans old new next s.read.taken q.0 s.read.consumed q.1)
    (λ rest.
    let long : 256 < length q.0 = let n = q.2.0 in omega (arith, n) in
    let more = lines_of-long q.0 rest q.2.1 long in
    (more.0, lines-behind s.read.taken q.0 rest s.lines more.0 TooLong s.read.whole more.1))
    (input-line old new decks count s TooLong)

-- a last line that may be cut
pub cut-so_far : (old new next : Option (List ℕ)) (decks : List Deck) (count : ℕ) (line : List ℕ) → IsReadSoFar old new decks count → ReadsLine new next is.Cut line →
    IfSome old (λ bytes. input_in bytes ≡ Faulty input.LastLineCut)
cut-so_far old new next decks count line s q =
    Consumes-whole old next (s.read.taken ++ q.0) (λ bytes. input_in bytes ≡ Faulty input.LastLineCut)
    (Consumes-trans old new next s.read.taken q.0 s.read.consumed q.1) q.3
    (input_in-faulty (s.read.taken ++ q.0) (Cut ∷ s.lines) [] input.LastLineCut
    (s.read.whole q.0 ∙ ap (λ (l : List InputLine). reverse s.lines ++ l) (lines_of-cut q.0 q.2.2 q.2.0 q.2.1) ∙ reverse-onto Cut s.lines [])
    (input-line old new decks count s Cut))

tells-front : (old next : Option (List ℕ)) (taken : List ℕ) (lines : List InputLine) (told : Option InputFault) (P : Type 0) → Consumes old next taken →
    ((rest : List ℕ) → (later : List InputLine) × (lines_of (taken ++ rest) ≡ reverse lines ++ later)) → MatchOption told P (λ fault. input_of lines ≡ Faulty fault) →
    IfSome old (λ bytes. IfSome told (λ fault. input_in bytes ≡ Faulty fault))
tells-front None next taken lines told P c begins f = tt
tells-front (Some bytes) next taken lines None P c begins f = tt
tells-front (Some bytes) next taken lines (Some fault) P c begins f = faulty_front (Some bytes) next taken lines fault c begins f

-- a line whose card is refused
pub refused-so_far : (old new next : Option (List ℕ)) (decks : List Deck) (count : ℕ) (line : List ℕ) (fault : AsmFault) → IsReadSoFar old new decks count → ReadsLine new next is.Line line →
    IsFaultOf (with_line (count + 1) (Line line) (Decks (newest_first decks))) fault → IfSome old (λ bytes. TellsFaultOf (input_in bytes) fault)
refused-so_far old new next decks count line fault s q f =
    let r = IsReadAs-line old new next s.lines line s.read q in
    tells-front old next r.taken (Line line ∷ s.lines) (input_fault fault) _ r.consumed (λ rest. (lines_of rest, r.whole rest))
    (subst (λ (i : Input). IsFaultOf i fault) (sym (input-line old new decks count s (Line line))) f)
