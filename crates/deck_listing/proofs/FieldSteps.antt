-- The fields that a list makes, one after the other.
use Rattle.std.{proofs.Common.{◌≡◌, ℕ, zero, suc, ◌+◌, ◌^◌, ◌<◌, ◌≤◌, lit<, List, [], ◌∷◌, ◌++◌, Bool, length, map, take, get_or, sym, ap, ◌∙◌, subst, arith}, proofs.lemmas.List.{map-append, take_more}}
use Rattle.definitions.specs.{StatementItems.Item, Words.{Linking, width_of}, Laws.Filling.HasRoom, declared.deck_kind.DeckKind.DeckKind, declared.deck_kind.DeckKind.TheVariants.{Rel, Abs, Periph}}
use Rattle.statement_coder.proofs.JoinLaws.{width-append}
use Rattle.parcel_packer.specs.Joins.Packing.{OpenRun, most_bits}
use Rattle.deck_objects.specs.Joins.LineItems.{AreShort}
use Rattle.deck_listing.{specs.Joins.Putting.ArePut, proofs.PutSteps.put_more}

fields_more : {A : Type 0} (field : A → Item) (list : List A) (i : ℕ) (x : A) → i < length list → x ≡ get_or list i x → map field (take (i + 1) list) ≡ map field (take i list) ++ field x ∷ []
fields_more field list i x h e =
    ap (map field) (take_more list i x h) ∙ map-append field (take i list) (get_or list i x ∷ []) ∙ ap (λ y. map field (take i list) ++ field y ∷ []) (sym e)

pub field_short : {A : Type 0} (field : A → Item) (list : List A) (i : ℕ) (x : A) → AreShort (map field list) → i < length list → x ≡ get_or list i x →
    ((field x).width ≤ 60) × HasRoom (field x).width (field x).content
field_short field [] i x short h e = absurd (omega arith)
field_short {A} field (y ∷ list) zero x short h e =
    let Short : A → Type 0 = λ z. ((field z).width ≤ 60) × HasRoom (field z).width (field z).content in
    subst Short (sym e) (short.0, short.1.0)
field_short field (y ∷ list) (suc i) x short h e = field_short field list i x short.1.1 (omega arith) e

-- the fields so far and one more are within all of them
pub fields_within : {A : Type 0} (field : A → Item) (list : List A) (i : ℕ) (x : A) → i < length list → x ≡ get_or list i x →
    width_of (map field (take i list)) + (field x).width ≤ width_of (map field list)
fields_within field [] i x h e = absurd (omega arith)
fields_within field (y ∷ list) zero x h e = let same : (field x).width ≡ (field y).width = ap (λ z. (field z).width) e in omega arith
fields_within field (y ∷ list) (suc i) x h e = let rest = fields_within field list i x (omega arith) e in omega arith

pub width_more : {A : Type 0} (field : A → Item) (list : List A) (i : ℕ) (x : A) → i < length list → x ≡ get_or list i x →
    width_of (map field (take (i + 1) list)) ≡ width_of (map field (take i list)) + (field x).width
width_more field list i x h e =
    ap width_of (fields_more field list i x h e) ∙ width-append (map field (take i list)) (field x ∷ []) ∙ ap (λ n. width_of (map field (take i list)) + n) (omega arith)

-- those so far lie in a run, and then one more does
pub put_next : {A : Type 0} (field : A → Item) (list : List A) (i : ℕ) (x : A) → i < length list → x ≡ get_or list i x →
    (size : ℕ) (instruction : Bool) (linking : Linking) (old run new : OpenRun) (from end : ℕ) → end ≡ from + width_of (map field (take i list)) →
    ArePut size instruction linking old from (map field (take i list)) run → ArePut size instruction linking run end (field x ∷ []) new →
    ArePut size instruction linking old from (map field (take (i + 1) list)) new
put_next field list i x h e size instruction linking old run new from end reached put last =
    let Put : List Item → Type 0 = λ items. ArePut size instruction linking old from items new in
    subst Put (sym (fields_more field list i x h e)) (put_more size instruction linking old run new from end (map field (take i list)) (field x) reached put last)

-- a block has not so many bits
pub most_small : (kind : DeckKind) → most_bits kind < 2 ^ 32
most_small Rel = lit< tt
most_small Abs = lit< tt
most_small Periph = lit< tt
