-- The lines of a lawful record lead to that record.
use Rattle.std.{proofs.Common.{ℕ, ◌≡◌, ◌*◌, ◌%◌, ◌<◌, ◌≤◌, ◌==◌, Bool, true, List, [], ◌∷◌, ◌++◌, Option, None, Some, Result, Ok, length, map, drop, refl, sym, ap, subst, ◌∙◌, arith, append_assoc, append-nil, if◌then◌else◌}, specs.Prelude.{decimal, option_map, option_and_then, All}, specs.Int.Bits.bit_xor, proofs.lemmas.List.map-id, proofs.lemmas.List.Sums.fold-append, proofs.lemmas.List.Elements.{All-head, All-tail}, proofs.lemmas.Bool.{eq-eqb, and_from}}
use Rattle.definitions.specs.{Cards.{Card, CardRead, IsCard, card_of}, DeckInput.{Deck, is_deck_name}}
use Rattle.cards.specs.declared.edits.Edit.{Edit, TheVariants.{Insert, Replace, Remove}}
use Rattle.session_commands.specs.declared.commands.Command.TheVariants as command
use Rattle.session_commands.{specs.declared.refusals.Refusal.Refusal, specs.Words.{first_word, first_number, behind_word, greatest_number}, specs.Edits.is_end, specs.declared.words.Seen.TheVariants.{Exactly, Since}, specs.Lines.{behind_a_blank, line_of_edit, line_in_batch, IsLawfulEdit}, proofs.ReadBack.{word-decimal, word-name, first-word, behind-word, first-number}, proofs.LineLaws.{line-back, batch_line-back}}
use Rattle.desk_core.specs.declared.calls.{Change.TheVariants.{AddDeck, PutDeck, DropDeck, EditDeck, Undo}, Edits.TheVariants.{One, Batch}}
use Rattle.journal.{specs.declared.records.Entry.Entry, specs.declared.records.Record.Record, specs.declared.beginning.Begun.Begun, specs.declared.beginning.Open.Open, specs.declared.steps.Step.TheVariants.{Ends, Wrong}, specs.CheckSums.{first_sum, sum_after, sum_over, check_sum}, specs.Records.{ended, text_of_lines, line_of_entry, lines_behind, first_line, lines_of_record, sum_line}, specs.Begun.{given, begun_by, begun_of, name_of, open_with, opened}, specs.Steps.{deck_with_card, deck_with, edits_with, entry_with, inner_step, has_all, sum_in, end_step, first_step, line_step}, specs.Lawful.{IsLawfulEntry, IsLawful}, proofs.LineChains.{IsLine, IsChain}, proofs.LineSizes.{first-line, card-line, edit-line}, proofs.PlainTexts.moment-word}
use Rattle.journal.specs.declared.records.Entry.TheVariants as entry
use Rattle.moments.specs.Moments.{moment_of}

-- what the first line of a record shows
abbrev pub bare : Entry → Begun
bare entry.Begun = record { entry = entry.Begun; lines = 0 }
bare (entry.Made (AddDeck deck)) = record { entry = entry.Made (AddDeck (record { name = deck.name; cards = [] })); lines = 0 }
bare (entry.Made (PutDeck deck seen)) = record { entry = entry.Made (PutDeck (record { name = deck.name; cards = [] }) seen); lines = length deck.cards }
bare (entry.Made (DropDeck name seen)) = record { entry = entry.Made (DropDeck name seen); lines = 0 }
bare (entry.Made (EditDeck name seen (One edit))) = record { entry = entry.Made (EditDeck name seen (One edit)); lines = 0 }
bare (entry.Made (EditDeck name seen (Batch edits))) = record { entry = entry.Made (EditDeck name seen (Batch [])); lines = length edits }
bare (entry.Made (Undo name version)) = record { entry = entry.Made (Undo name version); lines = 0 }

bare-edit : (name : List ℕ) (seen : ℕ) (edit : Edit) → is_deck_name name ≡ true → seen ≤ greatest_number → IsLawfulEdit edit →
    begun_of (line_of_edit name (Exactly seen) edit) ≡ Some (bare (entry.Made (EditDeck name (Exactly seen) (One edit))))
bare-edit name seen (Insert at card) is within lawful = ap begun_by (line-back (command.Edit name (Exactly seen) (Insert at card)) (is, within, lawful))
bare-edit name seen (Replace at card) is within lawful = ap begun_by (line-back (command.Edit name (Exactly seen) (Replace at card)) (is, within, lawful))
bare-edit name seen (Remove at) is within lawful = ap begun_by (line-back (command.Edit name (Exactly seen) (Remove at)) (is, within, lawful))

-- what a record shows reads back from its first line
bare-back : (entry : Entry) → IsLawfulEntry entry → begun_of (line_of_entry entry) ≡ Some (bare entry)
bare-back entry.Begun lawful = refl
bare-back (entry.Made (AddDeck deck)) lawful = ap begun_by (line-back (command.Add deck.name) lawful.0)
bare-back (entry.Made (PutDeck deck seen)) lawful =
    ap begun_by (line-back (command.Put (record { name = Ok deck.name; version = seen; count = length deck.cards })) (lawful.0.0, lawful.1, lawful.2))
bare-back (entry.Made (DropDeck name seen)) lawful = ap begun_by (line-back (command.Drop name seen) lawful)
bare-back (entry.Made (EditDeck name (Exactly seen) (One edit))) lawful = bare-edit name seen edit lawful.0 lawful.1 lawful.2
bare-back (entry.Made (EditDeck name (Exactly seen) (Batch edits))) lawful =
    ap begun_by (line-back (command.Batch (record { name = Ok name; seen = Exactly seen; count = length edits })) (lawful.0, lawful.1, lawful.2.0))
bare-back (entry.Made (EditDeck name (Since seen) edits)) lawful = absurd lawful
bare-back (entry.Made (Undo name version)) lawful = absurd lawful

parts-given : (line : List ℕ) (first : Option ℕ) (second : Option (List ℕ)) (third : Option (List ℕ)) (fourth : Option Begun) (version : ℕ) (moment : List ℕ) (by : List ℕ) (begun : Begun) →
    first ≡ Some version → second ≡ Some moment → third ≡ Some by → fourth ≡ Some begun →
    given first (λ v. given second (λ m. given third (λ s. option_map (open_with line v m s) fourth))) ≡ Some (open_with line version moment by begun)
parts-given line first second third fourth version moment by begun a b c d =
    ap (λ (o : Option ℕ). given {A = ℕ} {B = Open} o (λ v. given second (λ m. given third (λ s. option_map (open_with line v m s) fourth)))) a
    ∙ ap (λ (o : Option (List ℕ)). given {A = List ℕ} {B = Open} o (λ m. given third (λ s. option_map (open_with line version m s) fourth))) b
    ∙ ap (λ (o : Option (List ℕ)). given {A = List ℕ} {B = Open} o (λ s. option_map (open_with line version moment s) fourth)) c
    ∙ ap (λ (o : Option Begun). option_map (open_with line version moment by) o) d

-- the first line of a record opens it
opened-back : (r : Record) → IsLawful r → opened (first_line r) ≡ Some (open_with (first_line r) r.version r.moment r.by (bare r.entry))
opened-back r lawful =
    let fourth = 32 ∷ line_of_entry r.entry in
    let third = 32 ∷ (r.by ++ fourth) in
    let second = 32 ∷ (r.moment ++ third) in
    let first = 32 ∷ (decimal r.version ++ second) in
    let one : behind_word first ≡ second = behind-word (decimal r.version) second (word-decimal r.version lawful.version) refl in
    let two : behind_word second ≡ third = behind-word r.moment third (moment-word r.moment lawful.moment) refl in
    let three : behind_word third ≡ fourth = behind-word r.by fourth (word-name r.by lawful.by) refl in
    parts-given (first_line r) (first_number first) (option_and_then moment_of (first_word (behind_word first))) (option_and_then name_of (first_word (behind_word (behind_word first))))
    (begun_of (drop 1 (behind_word (behind_word (behind_word first))))) r.version r.moment r.by (bare r.entry)
    (first-number r.version second lawful.version refl)
    (ap (λ (l : List ℕ). option_and_then moment_of (first_word l)) one
    ∙ ap (λ (o : Option (List ℕ)). option_and_then moment_of o) (first-word r.moment third (moment-word r.moment lawful.moment) refl)
    ∙ ap (λ (t : Bool). if t then Some r.moment else None) lawful.moment)
    (ap (λ (l : List ℕ). option_and_then name_of (first_word (behind_word l))) one
    ∙ ap (λ (l : List ℕ). option_and_then name_of (first_word l)) two
    ∙ ap (λ (o : Option (List ℕ)). option_and_then name_of o) (first-word r.by fourth (word-name r.by lawful.by) refl)
    ∙ ap (λ (t : Bool). if t then Some r.by else None) lawful.by)
    (ap (λ (l : List ℕ). begun_of (drop 1 (behind_word (behind_word l)))) one
    ∙ ap (λ (l : List ℕ). begun_of (drop 1 (behind_word l))) two
    ∙ ap (λ (l : List ℕ). begun_of (drop 1 l)) three
    ∙ bare-back r.entry lawful.entry)

-- an open record of which so much was read
abbrev pub open_at : Record → ℕ → Entry → ℕ → Open
open_at r lines told sum = record { so_far = record r { entry = told }; lines = lines; sum = sum }

-- lines that each take one thing more into what the record shows
inner-chain : {X : Type 0} (lawful : X → Type 0) (line : X → List ℕ) (form : List X → Entry) →
    ((done : List X) (x : X) → lawful x → entry_with (form done) (line x) ≡ Some (form (done ++ x ∷ []))) →
    ((x : X) → lawful x → IsLine (behind_a_blank (line x))) →
    (r : Record) (edits : ℕ) (done left : List X) (sum : ℕ) → All lawful left →
    IsChain (Some (open_at r edits (form done) sum)) (map behind_a_blank (map line left))
    (open_at r edits (form (done ++ left)) (sum_over sum (text_of_lines (map behind_a_blank (map line left)))))
inner-chain {X} lawful line form takes fits r edits done [] sum all =
    ap (λ (l : List X). Some (open_at r edits (form l) sum)) (sym (append-nil done))
inner-chain {X} lawful line form takes fits r edits done (x ∷ left) sum all =
    let is = All-head lawful x left all in
    let text = behind_a_blank (line x) in
    let behind = text_of_lines (map behind_a_blank (map line left)) in
    let next = open_at r edits (form (done ++ x ∷ [])) (sum_over sum (ended text)) in
    let chain = inner-chain lawful line form takes fits r edits (done ++ x ∷ []) left (sum_over sum (ended text)) (All-tail lawful x left all) in
    let sums : sum_over (sum_over sum (ended text)) behind ≡ sum_over sum (ended text ++ behind) = sym (fold-append sum_after sum (ended text) behind) in
    let P : Open → Type 0 = λ (o : Open). IsChain (Some next) (map behind_a_blank (map line left)) o in (
      fits x is,
      (
        next,
        (
          ap (λ (o : Option Entry). inner_step (open_at r edits (form done) sum) text o) (takes done x is),
          subst P (ap (λ (n : ℕ). open_at r edits (form ((done ++ x ∷ []) ++ left)) n) sums ∙ ap (λ (l : List X). open_at r edits (form l) (sum_over sum (ended text ++ behind))) (append_assoc done (x ∷ []) left)) chain,
        ),
      ),
    )

-- cards of a deck
cards-chain : (form : Deck → Entry) → ((deck : Deck) (text : List ℕ) → entry_with (form deck) text ≡ option_map form (deck_with deck text)) →
    (r : Record) (count : ℕ) (deck : Deck) (sum : ℕ) → All (λ (card : Card). card_of card ≡ IsCard card) deck.cards →
    IsChain (Some (open_at r count (form (record { name = deck.name; cards = [] })) sum)) (map behind_a_blank deck.cards)
    (open_at r count (form deck) (sum_over sum (text_of_lines (map behind_a_blank deck.cards))))
cards-chain form with r count deck sum all =
    let P : List (List ℕ) → Type 0 = λ (ls : List (List ℕ)). IsChain (Some (open_at r count (form (record { name = deck.name; cards = [] })) sum)) (map behind_a_blank ls)
    (open_at r count (form deck) (sum_over sum (text_of_lines (map behind_a_blank ls)))) in
    subst P (map-id deck.cards)
    (inner-chain (λ (card : Card). card_of card ≡ IsCard card) (λ (card : Card). card) (λ (cards : List Card). form (record { name = deck.name; cards = cards }))
    (λ done card is. with (record { name = deck.name; cards = done }) card ∙ ap (λ (read : CardRead). option_map form (deck_with_card (record { name = deck.name; cards = done }) read)) is)
    card-line r count [] deck.cards sum all)

-- the lines behind the first
behind-chain : (r : Record) (told : Entry) (sum : ℕ) → IsLawfulEntry told →
    IsChain (Some (open_at r (bare told).lines (bare told).entry sum)) (map behind_a_blank (lines_behind told))
    (open_at r (bare told).lines told (sum_over sum (text_of_lines (map behind_a_blank (lines_behind told)))))
behind-chain r entry.Begun sum lawful = refl
behind-chain r (entry.Made (AddDeck deck)) sum lawful = cards-chain (λ (d : Deck). entry.Made (AddDeck d)) added-with r 0 deck sum lawful.1
  where
    added-with : (deck : Deck) (text : List ℕ) → entry_with (entry.Made (AddDeck deck)) text ≡ option_map (λ (d : Deck). entry.Made (AddDeck d)) (deck_with deck text)
    added-with deck text = by (deck_with deck text)
      where
        by : (o : Option Deck) → option_map entry.Made (option_map AddDeck o) ≡ option_map (λ (d : Deck). entry.Made (AddDeck d)) o
        by None = refl
        by (Some d) = refl
behind-chain r (entry.Made (PutDeck deck seen)) sum lawful = cards-chain (λ (d : Deck). entry.Made (PutDeck d seen)) put-with r (length deck.cards) deck sum lawful.0.1
  where
    put-with : (deck : Deck) (text : List ℕ) → entry_with (entry.Made (PutDeck deck seen)) text ≡ option_map (λ (d : Deck). entry.Made (PutDeck d seen)) (deck_with deck text)
    put-with deck text = by (deck_with deck text)
      where
        by : (o : Option Deck) → option_map entry.Made (option_map (λ (with : Deck). PutDeck with seen) o) ≡ option_map (λ (d : Deck). entry.Made (PutDeck d seen)) o
        by None = refl
        by (Some d) = refl
behind-chain r (entry.Made (DropDeck name seen)) sum lawful = refl
behind-chain r (entry.Made (EditDeck name (Exactly seen) (One edit))) sum lawful = refl
behind-chain r (entry.Made (EditDeck name (Exactly seen) (Batch edits))) sum lawful =
    inner-chain IsLawfulEdit line_in_batch (λ (done : List Edit). entry.Made (EditDeck name (Exactly seen) (Batch done)))
    (λ done edit is. ap (λ (read : Result Edit Refusal). option_map entry.Made (option_map (EditDeck name (Exactly seen)) (option_map Batch (edits_with done read)))) (batch_line-back edit is))
    edit-line r (length edits) [] edits sum lawful.2.1
behind-chain r (entry.Made (EditDeck name (Since seen) edits)) sum lawful = absurd lawful
behind-chain r (entry.Made (Undo name version)) sum lawful = absurd lawful

-- the open record behind its last line before the check sum
abbrev pub open_whole : Record → Open
open_whole r = open_at r (bare r.entry).lines r.entry (check_sum (text_of_lines (lines_of_record r)))

-- the lines of a record up to its check sum
pub record-chain : (r : Record) → IsLawful r → IsChain None (lines_of_record r) (open_whole r)
record-chain r lawful =
    let line = first_line r in
    let behind = text_of_lines (map behind_a_blank (lines_behind r.entry)) in
    let next = open_with line r.version r.moment r.by (bare r.entry) in
    let sums : sum_over (sum_over first_sum (ended line)) behind ≡ check_sum (ended line ++ behind) = sym (fold-append sum_after first_sum (ended line) behind) in
    let P : ℕ → Type 0 = λ n. IsChain (Some next) (map behind_a_blank (lines_behind r.entry)) (open_at r (bare r.entry).lines r.entry n) in (
      first-line r lawful,
      (next, (ap first_step (opened-back r lawful), subst P sums (behind-chain r r.entry (sum_over first_sum (ended line)) lawful.entry))),
    )

-- a check sum has 32 bits
below-32 : (n : ℕ) → n % 4294967296 < 4294967296
below-32 n = omega arith

sum-below : (sum : ℕ) (bytes : List ℕ) → sum < 4294967296 → sum_over sum bytes < 4294967296
sum-below sum [] below = below
sum-below sum (b ∷ bs) below = sum-below (sum_after sum b) bs (below-32 (bit_xor sum b * 16777619))

pub sum-told : (bytes : List ℕ) → check_sum bytes ≤ greatest_number
sum-told bytes = let below = sum-below first_sum bytes (omega arith) in omega (arith, below)

-- a check sum reads back
sum-back : (n : ℕ) → n ≤ greatest_number → sum_in (sum_line n) ≡ Some n
sum-back n within =
    let rest = 32 ∷ (decimal n ++ []) in
    ap (λ (l : List ℕ). if is_end l then first_number rest else None) (behind-word (decimal n) [] (word-decimal n within) refl)
    ∙ first-number n [] within refl

all-there : (told : Entry) → has_all told (bare told).lines ≡ true
all-there entry.Begun = refl
all-there (entry.Made (AddDeck deck)) = refl
all-there (entry.Made (PutDeck deck seen)) = eq-eqb (length deck.cards) (length deck.cards) refl
all-there (entry.Made (DropDeck name seen)) = refl
all-there (entry.Made (EditDeck name seen (One edit))) = refl
all-there (entry.Made (EditDeck name seen (Batch edits))) = eq-eqb (length edits) (length edits) refl
all-there (entry.Made (Undo name version)) = refl

-- the line of its check sum ends a record
pub record-ends : (r : Record) → line_step (Some (open_whole r)) (sum_line (open_whole r).sum) ≡ Ends r
record-ends r =
    let sum = (open_whole r).sum in
    ap (end_step (open_whole r)) (sum-back sum (sum-told (text_of_lines (lines_of_record r))))
    ∙ ap (λ (t : Bool). if t then Ends r else Wrong) (and_from (sum == sum) (has_all r.entry (bare r.entry).lines) (eq-eqb sum sum refl) (all-there r.entry))
