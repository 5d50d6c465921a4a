-- The lines of a record have no line feed, and at most 256 bytes.
use Rattle.std.{proofs.Common.{ℕ, ◌≡◌, ◌+◌, ◌≤◌, List, [], ◌++◌, true, length, refl, arith, length-append, codes}, specs.Prelude.{decimal, nat_le}, proofs.lemmas.Bool.{and_parts, leb-true}}
use Rattle.definitions.specs.{Cards.{Card, IsCard, card_of}, DeckInput.is_deck_name}
use Rattle.cards.specs.declared.edits.Edit.{Edit, TheVariants.{Insert, Replace, Remove}}
use Rattle.session_commands.specs.{Words.greatest_number, Commands.{is_batch_size, is_put_size}, declared.words.Seen.TheVariants.{Exactly, Since}, Lines.{behind_a_blank, name_and_number, line_of_edit, line_in_batch, IsLawfulEdit}}
use Rattle.desk_core.specs.declared.calls.{Change.Change, Change.TheVariants.{AddDeck, PutDeck, DropDeck, EditDeck, Undo}, Edits.TheVariants.{One, Batch}}
use Rattle.journal.{specs.declared.records.Entry.Entry, specs.declared.records.Entry.TheVariants.{Begun, Made}, specs.declared.records.Record.Record, specs.Records.{line_of_change, line_of_entry, first_line, sum_line}, specs.Lawful.{IsLawfulChange, IsLawfulEntry, IsLawful}, proofs.LineChains.IsLine, proofs.PlainTexts.{ArePlain, plain-append, plain-unbroken, decimal-plain, decimal-short, name-plain, name-short, moment-plain, moment-short, card-text}}

-- a text without line feeds, of at most so many bytes
pub record Fits (most : ℕ) (text : List ℕ) : Type 0 where
  pub plain : ArePlain text
  pub short : length text ≤ most

pub line-fits : (text : List ℕ) → Fits 256 text → IsLine text
line-fits text fits = record { unbroken = plain-unbroken text fits.plain; short = fits.short }

fits-append : (m n : ℕ) (a b : List ℕ) → Fits m a → Fits n b → Fits (m + n) (a ++ b)
fits-append m n a b first second = record {
  plain = plain-append a b first.plain second.plain;
  short = let x : length a ≤ m = first.short in let y : length b ≤ n = second.short in omega (arith, x, y, length-append a b);
}

fits-more : (m n : ℕ) (a : List ℕ) → m ≤ n → Fits m a → Fits n a
fits-more m n a within fits = record { plain = fits.plain; short = let x : length a ≤ m = fits.short in omega (arith, x, within) }

fits-behind : (n : ℕ) (a : List ℕ) → Fits n a → Fits (1 + n) (behind_a_blank a)
fits-behind n a fits = fits-append 1 n (codes " ") a (record { plain = refl; short = omega arith }) fits

fits-nothing : Fits 0 []
fits-nothing = record { plain = refl; short = omega arith }

fits-number : (n : ℕ) → n ≤ greatest_number → Fits 19 (decimal n)
fits-number n within = record { plain = decimal-plain n within; short = decimal-short n within }

-- a number alone
fits-last : (n : ℕ) → n ≤ greatest_number → Fits 20 (behind_a_blank (decimal n ++ []))
fits-last n within = fits-behind 19 (decimal n ++ []) (fits-append 19 0 (decimal n) [] (fits-number n within) fits-nothing)

fits-name : (name : List ℕ) → is_deck_name name ≡ true → Fits 7 name
fits-name name is = record { plain = name-plain name is; short = name-short name is }

fits-card : (card : Card) → card_of card ≡ IsCard card → Fits 80 card
fits-card card is = let text = card-text card is in record { plain = text.plain; short = text.short }

-- a name alone
fits-only_name : (name : List ℕ) → is_deck_name name ≡ true → Fits 8 (behind_a_blank (name ++ []))
fits-only_name name is = fits-behind 7 (name ++ []) (fits-append 7 0 name [] (fits-name name is) fits-nothing)

-- a place and a card
fits-placed : (at : ℕ) (card : Card) → at ≤ greatest_number → card_of card ≡ IsCard card → Fits 101 (behind_a_blank (decimal at ++ behind_a_blank card))
fits-placed at card within is = fits-behind 100 (decimal at ++ behind_a_blank card) (fits-append 19 81 (decimal at) (behind_a_blank card) (fits-number at within) (fits-behind 80 card (fits-card card is)))

-- a name and a number in front of more
fits-target : (n : ℕ) (name : List ℕ) (seen : ℕ) (rest : List ℕ) → is_deck_name name ≡ true → seen ≤ greatest_number → Fits n rest → Fits (28 + n) (name_and_number name seen rest)
fits-target n name seen rest is within fits =
    fits-more (1 + (7 + (1 + (19 + n)))) (28 + n) (name_and_number name seen rest) (omega arith)
    (fits-behind (7 + (1 + (19 + n))) (name ++ behind_a_blank (decimal seen ++ rest))
    (fits-append 7 (1 + (19 + n)) name (behind_a_blank (decimal seen ++ rest)) (fits-name name is)
    (fits-behind (19 + n) (decimal seen ++ rest) (fits-append 19 n (decimal seen) rest (fits-number seen within) fits))))

-- a word in front of a text
fits-word : (n : ℕ) (word text : List ℕ) → Fits 6 word → Fits n text → Fits (6 + n) (word ++ text)
fits-word n word text first second = fits-append 6 n word text first second

-- an edit as a line of a batch
edit-fits : (edit : Edit) → IsLawfulEdit edit → Fits 107 (line_in_batch edit)
edit-fits (Insert at card) lawful = fits-word 101 (codes "INS") (behind_a_blank (decimal at ++ behind_a_blank card)) (record { plain = refl; short = omega arith }) (fits-placed at card lawful.0 lawful.1)
edit-fits (Replace at card) lawful = fits-word 101 (codes "REP") (behind_a_blank (decimal at ++ behind_a_blank card)) (record { plain = refl; short = omega arith }) (fits-placed at card lawful.0 lawful.1)
edit-fits (Remove at) lawful = fits-more 26 107 (line_in_batch (Remove at)) (omega arith) (fits-word 20 (codes "DEL") (behind_a_blank (decimal at ++ [])) (record { plain = refl; short = omega arith }) (fits-last at lawful))

-- an edit of a deck
edit_of-fits : (name : List ℕ) (seen : ℕ) (edit : Edit) → is_deck_name name ≡ true → seen ≤ greatest_number → IsLawfulEdit edit → Fits 135 (line_of_edit name (Exactly seen) edit)
edit_of-fits name seen (Insert at card) is within lawful =
    let rest = behind_a_blank (decimal at ++ behind_a_blank card) in
    fits-word 129 (codes "INS") (name_and_number name seen rest) (record { plain = refl; short = omega arith }) (fits-target 101 name seen rest is within (fits-placed at card lawful.0 lawful.1))
edit_of-fits name seen (Replace at card) is within lawful =
    let rest = behind_a_blank (decimal at ++ behind_a_blank card) in
    fits-word 129 (codes "REP") (name_and_number name seen rest) (record { plain = refl; short = omega arith }) (fits-target 101 name seen rest is within (fits-placed at card lawful.0 lawful.1))
edit_of-fits name seen (Remove at) is within lawful =
    let rest = behind_a_blank (decimal at ++ []) in
    fits-more 54 135 (line_of_edit name (Exactly seen) (Remove at)) (omega arith)
    (fits-word 48 (codes "DEL") (name_and_number name seen rest) (record { plain = refl; short = omega arith }) (fits-target 20 name seen rest is within (fits-last at lawful)))

-- a count of a batch
size-told : (count : ℕ) → is_batch_size count ≡ true → count ≤ greatest_number
size-told count size = let few : count ≤ 100 = leb-true count 100 (and_parts (nat_le 1 count) (nat_le count 100) size).1 in omega (arith, few)

-- a count of a put
cards-told : (count : ℕ) → is_put_size count ≡ true → count ≤ greatest_number
cards-told count size = let few : count ≤ 20000 = leb-true count 20000 size in omega (arith, few)

change-fits : (change : Change) → IsLawfulChange change → Fits 135 (line_of_change change)
change-fits (AddDeck deck) lawful = fits-more 14 135 (line_of_change (AddDeck deck)) (omega arith) (fits-word 8 (codes "ADD") (behind_a_blank (deck.name ++ [])) (record { plain = refl; short = omega arith }) (fits-only_name deck.name lawful.0))
change-fits (PutDeck deck seen) lawful =
    let rest = behind_a_blank (decimal (length deck.cards) ++ []) in
    fits-more 54 135 (line_of_change (PutDeck deck seen)) (omega arith)
    (fits-word 48 (codes "PUT") (name_and_number deck.name seen rest) (record { plain = refl; short = omega arith }) (fits-target 20 deck.name seen rest lawful.0.0 lawful.1 (fits-last (length deck.cards) (cards-told (length deck.cards) lawful.2))))
change-fits (DropDeck name seen) lawful = fits-more 34 135 (line_of_change (DropDeck name seen)) (omega arith) (fits-word 28 (codes "DROP") (name_and_number name seen []) (record { plain = refl; short = omega arith }) (fits-target 0 name seen [] lawful.0 lawful.1 fits-nothing))
change-fits (EditDeck name (Exactly seen) (One edit)) lawful = edit_of-fits name seen edit lawful.0 lawful.1 lawful.2
change-fits (EditDeck name (Exactly seen) (Batch edits)) lawful =
    let rest = behind_a_blank (decimal (length edits) ++ []) in
    fits-more 54 135 (line_of_change (EditDeck name (Exactly seen) (Batch edits))) (omega arith)
    (fits-word 48 (codes "BATCH") (name_and_number name seen rest) (record { plain = refl; short = omega arith }) (fits-target 20 name seen rest lawful.0 lawful.1 (fits-last (length edits) (size-told (length edits) lawful.2.0))))
change-fits (EditDeck name (Since seen) edits) lawful = absurd lawful
change-fits (Undo name version) lawful = absurd lawful

entry-fits : (entry : Entry) → IsLawfulEntry entry → Fits 135 (line_of_entry entry)
entry-fits Begun lawful = record { plain = refl; short = omega arith }
entry-fits (Made change) lawful = change-fits change lawful

-- the first line of a record
pub first-line : (r : Record) → IsLawful r → IsLine (first_line r)
first-line r lawful =
    let told = behind_a_blank (line_of_entry r.entry) in
    let third = behind_a_blank (r.by ++ told) in
    let second = behind_a_blank (r.moment ++ third) in
    let first = behind_a_blank (decimal r.version ++ second) in
    let moment : Fits 20 r.moment = record { plain = moment-plain r.moment lawful.moment; short = moment-short r.moment lawful.moment } in
    line-fits (first_line r) (fits-more 191 256 (first_line r) (omega arith)
    (fits-word 185 (codes "RECORD") first (record { plain = refl; short = omega arith })
    (fits-behind 184 (decimal r.version ++ second) (fits-append 19 165 (decimal r.version) second (fits-number r.version lawful.version)
    (fits-behind 164 (r.moment ++ third) (fits-append 20 144 r.moment third moment
    (fits-behind 143 (r.by ++ told) (fits-append 7 136 r.by told (fits-name r.by lawful.by)
    (fits-behind 135 (line_of_entry r.entry) (entry-fits r.entry lawful.entry))))))))))

-- the line of a card, of an edit, and of a check sum
pub card-line : (card : Card) → card_of card ≡ IsCard card → IsLine (behind_a_blank card)
card-line card is = line-fits (behind_a_blank card) (fits-more 81 256 (behind_a_blank card) (omega arith) (fits-behind 80 card (fits-card card is)))

pub edit-line : (edit : Edit) → IsLawfulEdit edit → IsLine (behind_a_blank (line_in_batch edit))
edit-line edit lawful = line-fits (behind_a_blank (line_in_batch edit)) (fits-more 108 256 (behind_a_blank (line_in_batch edit)) (omega arith) (fits-behind 107 (line_in_batch edit) (edit-fits edit lawful)))

pub sum-line : (n : ℕ) → n ≤ greatest_number → IsLine (sum_line n)
sum-line n within = line-fits (sum_line n) (fits-more 26 256 (sum_line n) (omega arith) (fits-word 20 (codes "SUM") (behind_a_blank (decimal n ++ [])) (record { plain = refl; short = omega arith }) (fits-last n within)))
