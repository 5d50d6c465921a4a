-- Words: what the items of a block leave in each word (COMPASS 60492600, ORG; that the latest run counts alone is ours).
use Rattle.std.specs.{Prelude.{ℕ, zero, suc, ◌+◌, ◌-◌, ◌*◌, ◌/◌, ◌%◌, ◌^◌, ◌==◌, List, [], ◌∷◌, ◌++◌, Bool, true, false, nat_lt, filter, flat_map, map, if◌then◌else◌}, List.{list_any, range_with_len, sum_by}}
use Rattle.definitions.specs.{Characters.same_text, Forms.Form, Operations.is_instruction, Kinds.{units, unit_bits}, Settled.Settled, StatementItems.{Item, Content, Known, Linked}, declared.deck_kind.DeckKind.DeckKind, declared.deck_kind.DeckKind.TheVariants.Periph}

-- how the link makes bits of a form in a field
abbrev pub Linking : Type 0
Linking = ℕ → Form → ℕ

-- bits that are known, or those that the link makes
abbrev pub content_bits : Linking → ℕ → Content → ℕ
content_bits linking width (Known bits) = bits
content_bits linking width (Linked form) = linking width form

-- how many bits the fields have together
abbrev pub width_of : List Item → ℕ
width_of [] = 0
width_of (item ∷ fields) = item.width + width_of fields

-- fields one behind the other, as one number
abbrev pub joined : Linking → List Item → ℕ
joined linking [] = 0
joined linking (item ∷ fields) = content_bits linking item.width item.content * 2 ^ width_of fields + joined linking fields

-- a number cut into so many pieces of so many bits, the first piece in front
abbrev pub cut : ℕ → ℕ → ℕ → List ℕ
cut width zero number = []
cut width (suc count) number = cut width count (number / 2 ^ width) ++ number % 2 ^ width ∷ []

-- a parcel of a central word, or a peripheral word: its place in the block, its bits, and whether they are an instruction's
pub record Parcel : Type 0 where
  pub place : ℕ
  pub bits : ℕ
  pub is_instruction : Bool

-- bits as parcels one behind the other, from a place on
abbrev pub parcels_from : Bool → ℕ → List ℕ → List Parcel
parcels_from instruction place [] = []
parcels_from instruction place (bits ∷ others) = record { place = place; bits = bits; is_instruction = instruction } ∷ parcels_from instruction (place + 1) others

-- a statement with its fields
pub record Coded : Type 0 where
  pub settled : Settled
  pub fields : List Item

-- a statement's fields fill the parcels from its place to its end; one without fields leaves them as they are
abbrev pub parcels_of : DeckKind → Linking → Coded → List Parcel
parcels_of kind linking coded = elim coded.fields [
  | [] ↦ []
  | bits ∷ others ↦ parcels_from (is_instruction coded.settled.read.operation) coded.settled.place
      (cut (unit_bits kind) (coded.settled.end - coded.settled.place) (joined linking coded.fields))
]

-- a statement's parcels join the latest run; an ORG begins another
abbrev pub onto_runs : Bool → List Parcel → List (List Parcel) → List (List Parcel)
onto_runs true parcels runs = [] ∷ runs
onto_runs false parcels [] = parcels ∷ []
onto_runs false parcels (run ∷ runs) = (run ++ parcels) ∷ runs

-- the runs of a block, latest first
abbrev pub runs_of : DeckKind → Linking → List ℕ → List Coded → List (List Parcel)
runs_of kind linking block [] = [] ∷ []
runs_of kind linking block (coded ∷ earlier) =
    let runs = runs_of kind linking block earlier in
    elim (same_text coded.settled.block block) [
      | true ↦ onto_runs coded.settled.begins_run (parcels_of kind linking coded) runs
      | false ↦ runs
    ]

-- the parcels of a run that lie in a word
abbrev pub in_word : DeckKind → ℕ → List Parcel → List Parcel
in_word kind word run = filter (λ (parcel : Parcel). parcel.place / units kind == word) run

-- what the latest run with an item in the word has there
abbrev pub latest_in_word : DeckKind → ℕ → List (List Parcel) → List Parcel
latest_in_word kind word [] = []
latest_in_word kind word (run ∷ runs) =
    elim (in_word kind word run) [ [] ↦ latest_in_word kind word runs | parcel ∷ others ↦ parcel ∷ others ]

-- the pass instruction
abbrev pub pass : ℕ
pass = 0o46000

-- what fills a parcel that no item covers: the pass instruction where the word has an instruction, else zeros
abbrev pub filling_of : DeckKind → List Parcel → ℕ
filling_of Periph parcels = 0
filling_of kind parcels = if list_any (λ (parcel : Parcel). parcel.is_instruction) parcels then pass else 0

-- the bits at a place of a word: an item's, or else the filling
abbrev pub bits_at : DeckKind → ℕ → ℕ → List Parcel → ℕ
bits_at kind filling place [] = filling
bits_at kind filling place (parcel ∷ parcels) = if parcel.place % units kind == place then parcel.bits else bits_at kind filling place parcels

-- how many bits of a word lie behind a place of it
abbrev pub bits_behind : DeckKind → ℕ → ℕ
bits_behind kind place = unit_bits kind * (units kind - 1 - place)

-- what a place adds to a word: the bits there times 2 to the bits behind it
abbrev pub part_at : DeckKind → List Parcel → ℕ → ℕ
part_at kind parcels place = bits_at kind (filling_of kind parcels) place parcels * 2 ^ bits_behind kind place

-- a word: the sum of what its places add, from the first on
abbrev pub word_of_parcels : DeckKind → List Parcel → ℕ
word_of_parcels kind parcels = sum_by (part_at kind parcels) (range_with_len 0 (units kind))

-- a number in its place among increasing ones, once
abbrev pub with_number : ℕ → List ℕ → List ℕ
with_number n [] = n ∷ []
with_number n (m ∷ ms) = if n == m then m ∷ ms else if nat_lt n m then n ∷ m ∷ ms else m ∷ with_number n ms

-- numbers in increasing order, each once
abbrev pub rising : List ℕ → List ℕ
rising [] = []
rising (n ∷ ns) = with_number n (rising ns)

-- the words in which the runs of a block have parcels
abbrev pub words_in : DeckKind → List (List Parcel) → List ℕ
words_in kind runs = rising (map (λ (parcel : Parcel). parcel.place / units kind) (flat_map (λ (run : List Parcel). run) runs))

-- a stored word with its offset in the block
pub record StoredWord : Type 0 where
  pub offset : ℕ
  pub value : ℕ

-- each of these words with what the latest run has there
abbrev pub stored : DeckKind → List (List Parcel) → List ℕ → List StoredWord
stored kind runs words = map (λ word. record { offset = word; value = word_of_parcels kind (latest_in_word kind word runs) }) words

-- the stored words of a block by increasing offset, from the deck's statements newest first
abbrev pub stored_words : DeckKind → Linking → List ℕ → List Coded → List StoredWord
stored_words kind linking block coded =
    let runs = runs_of kind linking block coded in stored kind runs (words_in kind runs)
