-- The LINK A lines of fields as they are kept are those of the statements.
use Rattle.std.{proofs.Common.{◌≡◌, ℕ, ◌+◌, ◌*◌, ◌<◌, List, [], ◌∷◌, ◌++◌, Option, Some, None, length, take, drop, get_or, refl, subst, ap, ap₂, ◌∙◌}, specs.Prelude.{flat_map, slice_get}, proofs.lemmas.List.drop_more}
use Rattle.definitions.specs.{Kinds.{unit_bits, word_bits}, Lengths.BlockRow, Layout.{Layout, Based, block_base}, LinkLines.{address_lines, unfit_words, unfit_addresses}, Words.Coded, declared.deck_kind.DeckKind.DeckKind}
use Rattle.deck_objects.specs.declared.lines.FieldLists.{FieldLists}
use Rattle.deck_objects.specs.{Joins.CodedLines.{IsNamed, IsCoded, AreCoded}, Joins.LineItems.{kept_from, kept_items}, declared.lines.Line.Line, declared.lines.LineFields.LineFields}
use Rattle.deck_objects.proofs.WordFields.{unfit-known_words}
use Rattle.deck_objects.specs.declared.lines.LineFields.TheVariants as variant
use Rattle.deck_objects.specs.declared.lines.CodedLine as lines
use Rattle.deck_linker.specs.Joins.UnfitLines.{unfit_in, unfit_of, unfit_lines, IsKept, AllAreKept}

-- fields that are not listed fit
none-unfit : (layout : Layout) (based : Based) (lists : FieldLists) (place end from : ℕ) (fields : LineFields) → ((first count : ℕ) → fields ≡ variant.Listed first count → ⊥) →
    unfit_words layout based from (kept_from based.object.kind lists place end fields) ≡ []
none-unfit layout based lists place end from variant.Absent h = refl
none-unfit layout based lists place end from (variant.Known bits) h = refl
none-unfit layout based lists place end from (variant.Words first count) h = unfit-known_words layout based (word_bits based.object.kind) from (take count (drop first lists.words.items))
none-unfit layout based lists place end from (variant.Listed first count) h = absurd (h first count refl)
none-unfit layout based lists place end from variant.Zeros h = refl

pub unlisted : (layout : Layout) (based : Based) (lists : FieldLists) (line : lines.CodedLine) (row : Option BlockRow) → ((first count : ℕ) → line.fields ≡ variant.Listed first count → ⊥) →
    unfit_in layout based lists line row ≡ []
unlisted layout based lists line None h = refl
unlisted layout based lists line (Some row) h =
    ap (address_lines based.object.name (block_base layout.commons based row.name)) (none-unfit layout based lists line.place line.end (line.place * unit_bits based.object.kind) line.fields h)

in_block : (layout : Layout) (based : Based) (lists : FieldLists) (line : lines.CodedLine) (coded : Coded) (row : Option BlockRow) → IsNamed row coded.settled.block →
    line.place ≡ coded.settled.place → ((from : ℕ) → unfit_words layout based from (kept_items based.object.kind lists line) ≡ unfit_words layout based from coded.fields) →
    unfit_in layout based lists line row ≡ unfit_addresses layout based coded
in_block layout based lists line coded None h place unfit = absurd h
in_block layout based lists line coded (Some row) h place unfit =
    ap₂ (λ (name : List ℕ) (words : List ℕ). address_lines based.object.name (block_base layout.commons based name) words) h
    (unfit (line.place * unit_bits based.object.kind) ∙ ap (λ (n : ℕ). unfit_words layout based (n * unit_bits based.object.kind) coded.fields) place)

-- the lines of a statement
of_statement : (layout : Layout) (based : Based) (rows : List BlockRow) (lists : FieldLists) (line : lines.CodedLine) (coded : Coded) → IsCoded based.object.kind rows lists line coded →
    unfit_of layout based rows lists (Some line) ≡ unfit_addresses layout based coded
of_statement layout based rows lists line coded h = in_block layout based lists line coded (slice_get rows line.block) h.block h.place (h.fields.unfit layout based)

-- what a statement of the listing is, and those behind it
abbrev pub IsGoingOn : DeckKind → List BlockRow → FieldLists → List Line → Option lines.CodedLine → List Coded → Type 0
IsGoingOn kind rows lists behind stored all = elim stored [
  | None ↦ AreCoded kind rows lists behind all
  | Some coded_line ↦ elim all [ [] ↦ ⊥ | coded ∷ others ↦ IsCoded kind rows lists coded_line coded × AreCoded kind rows lists behind others ]
]

-- the lines of all statements
pub unfit-lines : (layout : Layout) (based : Based) (rows : List BlockRow) (lists : FieldLists) (statements : List Line) (all : List Coded) → AreCoded based.object.kind rows lists statements all →
    unfit_lines layout based rows lists statements ≡ flat_map (unfit_addresses layout based) all
unfit-lines layout based rows lists [] [] h = refl
unfit-lines layout based rows lists [] (coded ∷ others) h = absurd h
unfit-lines layout based rows lists (line ∷ behind) all h = step line.coded all (λ others k. unfit-lines layout based rows lists behind others k) h
  where
    step : (stored : Option lines.CodedLine) (all : List Coded) →
        ((others : List Coded) → AreCoded based.object.kind rows lists behind others → unfit_lines layout based rows lists behind ≡ flat_map (unfit_addresses layout based) others) →
        IsGoingOn based.object.kind rows lists behind stored all → unfit_of layout based rows lists stored ++ unfit_lines layout based rows lists behind ≡ flat_map (unfit_addresses layout based) all
    step None all again h = again all h
    step (Some stored) [] again h = absurd h
    step (Some stored) (coded ∷ others) again h = ap₂ (λ (a b : List (List ℕ)). a ++ b) (of_statement layout based rows lists stored coded h.0) (again others h.1)

-- the fields of all statements are kept as they are to be
pub all-kept : (kind : DeckKind) (rows : List BlockRow) (lists : FieldLists) (statements : List Line) (all : List Coded) → AreCoded kind rows lists statements all → AllAreKept kind lists statements
all-kept kind rows lists [] all h = tt
all-kept kind rows lists (line ∷ behind) all h = step line.coded all (λ others k. all-kept kind rows lists behind others k) h
  where
    step : (stored : Option lines.CodedLine) (all : List Coded) → ((others : List Coded) → AreCoded kind rows lists behind others → AllAreKept kind lists behind) →
        IsGoingOn kind rows lists behind stored all → IsKept kind lists stored × AllAreKept kind lists behind
    step None all again h = (tt, again all h)
    step (Some stored) [] again h = absurd h
    step (Some stored) (coded ∷ others) again h = (h.0.kept, again others h.1)

-- and those of the statements behind one
pub kept-step : (kind : DeckKind) (lists : FieldLists) (statements : List Line) (i : ℕ) (line : Line) → i < length statements → AllAreKept kind lists (drop i statements) → AllAreKept kind lists (drop (i + 1) statements)
kept-step kind lists statements i line inside h =
    let all : AllAreKept kind lists (get_or statements i line ∷ drop (i + 1) statements) = subst (AllAreKept kind lists) (drop_more statements i line inside) h in
    all.1
