-- How the code keeps a run: parcels one behind the other as one span, their bits as one number (ours).
use Rattle.std.specs.{Prelude.{ℕ, ◌≡◌, ◌+◌, ◌*◌, ◌^◌, ◌<◌, ◌≤◌, List, [], ◌∷◌, ◌++◌, Bool, nat_lt, Vec}, List.list_any}
use Rattle.definitions.specs.{Kinds.unit_bits, Words.{Parcel, cut, parcels_from}, declared.deck_kind.DeckKind.DeckKind}
use Rattle.parcel_packer.specs.{Joins.Packing.{OpenRun, put_bits}, declared.fields.Field.Field, declared.spans.Span.Span, declared.spans.OpenParcel.OpenParcel}

-- the parcels of a span, each of so many bits
abbrev pub span_parcels : ℕ → Span → List Parcel
span_parcels size span = parcels_from span.is_instruction span.place (cut size span.count span.bits)

-- the parcels of spans one behind the other
abbrev pub parcels_in : ℕ → List Span → List Parcel
parcels_in size [] = []
parcels_in size (span ∷ spans) = span_parcels size span ++ parcels_in size spans

-- whether a span has a parcel
abbrev pub has_parcel : Span → Bool
has_parcel span = nat_lt 0 span.count

-- whether a run has one
abbrev pub lies_in : {Z : Type 0} → Vec Span Z → Bool
lies_in run = list_any has_parcel run.items

-- a run as the code keeps it
abbrev pub run_of : ℕ → List Span → OpenParcel → OpenRun
run_of size spans next = record { parcels = parcels_in size spans; place = next.place; filled = next.filled; bits = next.bits }

-- the places of parcels
abbrev pub places : List Parcel → List ℕ
places [] = []
places (parcel ∷ parcels) = parcel.place ∷ places parcels

-- numbers rise from one to another: each is above the one before it
abbrev pub RiseWithin : ℕ → List ℕ → ℕ → Type 0
RiseWithin low [] high = low ≤ high
RiseWithin low (n ∷ ns) high = (low ≤ n) × RiseWithin (n + 1) ns high

-- the parcels of each run, in the order of the runs
abbrev pub parcels_in_runs : {Z : Type 0} → ℕ → List (Vec Span Z) → List (List Parcel)
parcels_in_runs size [] = []
parcels_in_runs size (run ∷ runs) = parcels_in size run.items ∷ parcels_in_runs size runs

-- the parcels of each run rise
abbrev pub DoRunsRise : List (List Parcel) → Type 0
DoRunsRise [] = Unit {0}
DoRunsRise (run ∷ runs) = RiseWithin 0 (places run) 524288 × DoRunsRise runs

-- an open parcel has room for a bit, and its bits are as many as it says
pub record IsOpen (size : ℕ) (next : OpenParcel) : Type 0 where
  pub has_room : next.filled < size
  pub bits_fit : next.bits < 2 ^ next.filled

-- a field has at most 60 bits, and they fit its width
pub record IsField (field : Field) : Type 0 where
  pub short : field.width ≤ 60
  pub bits_fit : field.bits < 2 ^ field.width

-- what putting a field came to: all its bits are in the run
pub record IsPut (size : ℕ) (old : List Span) (next : OpenParcel) (field : Field) (new : List Span) (after : OpenParcel) : Type 0 where
  pub run : run_of size new after ≡ put_bits size field.is_instruction field.width field.bits (run_of size old next)
  pub is_open : IsOpen size after
  pub end : size * after.place + after.filled ≡ size * next.place + next.filled + field.width

-- how a block is kept: its runs rise, and the open parcel is behind the latest of them
pub record IsKept (kind : DeckKind) (spans : List Span) (next : OpenParcel) (earlier : List (List Parcel)) : Type 0 where
  pub is_open : IsOpen (unit_bits kind) next
  pub rise : RiseWithin 0 (places (parcels_in (unit_bits kind) spans)) next.place
  pub within : next.place ≤ 524288
  pub runs_rise : DoRunsRise earlier
