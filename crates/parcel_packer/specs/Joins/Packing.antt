-- What is put into a block, run by run: fields one behind the other, bit by bit, cut into parcels
-- (COMPASS 60492600, ORG and data generation). A peripheral word is one parcel of 12 bits.
use Rattle.std.specs.Prelude.{ℕ, zero, suc, ◌≡◌, ◌+◌, ◌*◌, ◌/◌, ◌%◌, ◌^◌, ◌<◌, ◌≤◌, ◌==◌, List, [], ◌∷◌, ◌++◌, Bool, if◌then◌else◌}
use Rattle.definitions.specs.{Kinds.{units, unit_bits, most_words}, StatementItems.Item, Words.{Linking, Parcel, content_bits}, declared.deck_kind.DeckKind.DeckKind}

-- a run: its whole parcels, and the parcel behind them with its first bits as one number
pub record OpenRun : Type 0 where
  pub parcels : List Parcel
  pub place : ℕ
  pub filled : ℕ
  pub bits : ℕ

-- a block: the latest run, and the parcels of the earlier ones, latest first
pub record Packed : Type 0 where
  pub kind : DeckKind
  pub run : OpenRun
  pub earlier : List (List Parcel)

-- a run in which nothing lies
abbrev pub empty_run : OpenRun
empty_run = record { parcels = []; place = 0; filled = 0; bits = 0 }

-- a parcel
abbrev pub parcel_at : Bool → ℕ → ℕ → Parcel
parcel_at instruction place bits = record { place = place; bits = bits; is_instruction = instruction }

-- one bit more, in a parcel of so many bits; the last bit makes the parcel whole
abbrev pub put_bit : ℕ → Bool → ℕ → OpenRun → OpenRun
put_bit size instruction bit run =
    if run.filled + 1 == size
    then record { parcels = run.parcels ++ parcel_at instruction run.place (2 * run.bits + bit) ∷ []; place = run.place + 1; filled = 0; bits = 0 }
    else record run { filled = run.filled + 1; bits = 2 * run.bits + bit }

-- the bits of a number, so many, first bit first: all but the last, and then that
abbrev pub put_bits : ℕ → Bool → ℕ → ℕ → OpenRun → OpenRun
put_bits size instruction zero number run = run
put_bits size instruction (suc width) number run = put_bit size instruction (number % 2) (put_bits size instruction width (number / 2) run)

-- the next bit is put at this place, counted in bits of the block; within a parcel it has its place already
abbrev pub moved : ℕ → ℕ → OpenRun → OpenRun
moved size at_bit run = if run.filled == 0 then record run { place = at_bit / size; filled = 0 } else run

-- the place behind the last bit of a run, in bits of the block
abbrev pub end_bit : ℕ → OpenRun → ℕ
end_bit size run = size * run.place + run.filled

-- a field may begin where the last one ended, and at each parcel behind that
abbrev pub MayBegin : ℕ → OpenRun → ℕ → Type 0
MayBegin size run at_bit = (end_bit size run ≤ at_bit) × (run.filled ≡ 0 → at_bit % size ≡ 0) × (0 < run.filled → at_bit ≡ end_bit size run)

-- how many bits a block has at most
abbrev pub most_bits : DeckKind → ℕ
most_bits kind = unit_bits kind * (units kind * most_words kind)

-- the runs of a block as lists of parcels, latest first
abbrev pub runs_in : Packed → List (List Parcel)
runs_in packed = packed.run.parcels ∷ packed.earlier

-- the items of a statement put one behind the other
abbrev pub put_items : ℕ → Bool → Linking → List Item → OpenRun → OpenRun
put_items size instruction linking [] run = run
put_items size instruction linking (item ∷ items) run =
    put_items size instruction linking items (put_bits size instruction item.width (content_bits linking item.width item.content) run)

-- the bits of each item fit its width
abbrev pub DoItemsFit : Linking → List Item → Type 0
DoItemsFit linking [] = Unit {0}
DoItemsFit linking (item ∷ items) = (content_bits linking item.width item.content < 2 ^ item.width) × DoItemsFit linking items
