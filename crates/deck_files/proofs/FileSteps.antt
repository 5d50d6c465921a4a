-- Things under names: a map of names shows as the list of names and things.
use Rattle.std.{proofs.Common.{ℕ, ◌≡◌, List, [], ◌∷◌, Bool, true, false, cond, ◌&&◌, Option, Some, eqb, refl, sym, ap, ◌∙◌, map, is_some, true≢false}, specs.Option.option_map, specs.Map.{lookup, set_value}}
use Rattle.indexmap.specs.IndexMap.{insert_entry}
use lib.Pointwise.{pointwise}
use Rattle.definitions.specs.Characters.{same_text}
use Rattle.deck_files.specs.Files.{Named, named, with_named}

-- two texts are compared character by character
pub same_text-pointwise : (a b : List ℕ) → pointwise eqb a b ≡ same_text a b
same_text-pointwise [] [] = refl
same_text-pointwise [] (d ∷ b) = refl
same_text-pointwise (c ∷ a) [] = refl
same_text-pointwise (c ∷ a) (d ∷ b) = ap (λ (t : Bool). eqb c d && t) (same_text-pointwise a b)

-- the names with what stands under them, out of the entries of a map
abbrev pub files_shown : {K X Y : Type 0} → (K → List ℕ) → (X → Y) → List (K × X) → Named Y
files_shown text shown entries = map (λ e. (text e.0, shown e.1)) entries

pick_shown : {X Y : Type 0} (shown : X → Y) (t : Bool) (x : X) (others : Option X) → option_map shown (cond t (Some x) others) ≡ cond t (Some (shown x)) (option_map shown others)
pick_shown shown true x others = refl
pick_shown shown false x others = refl

-- a look-up by a text
pub lookup-shown : {K X Y : Type 0} (text : K → List ℕ) (shown : X → Y) (name : List ℕ) (entries : List (K × X)) →
    option_map shown (lookup (λ k. pointwise eqb name (text k)) entries) ≡ named name (files_shown text shown entries)
lookup-shown text shown name [] = refl
lookup-shown {Y = Y} text shown name (e ∷ es) =
    pick_shown shown (pointwise eqb name (text e.0)) e.1 (lookup (λ k. pointwise eqb name (text k)) es)
    ∙ ap (λ (t : Bool). cond t (Some (shown e.1)) (option_map shown (lookup (λ k. pointwise eqb name (text k)) es))) (same_text-pointwise name (text e.0))
    ∙ ap (λ (o : Option Y). cond (same_text name (text e.0)) (Some (shown e.1)) o) (lookup-shown text shown name es)

put_shown : {K X Y : Type 0} (text : K → List ℕ) (shown : X → Y) (t : Bool) (first second : List (K × X)) →
    files_shown text shown (cond t first second) ≡ cond t (files_shown text shown first) (files_shown text shown second)
put_shown text shown true first second = refl
put_shown text shown false first second = refl

-- an entry put in under a text
pub insert-shown : {K X Y : Type 0} (text : K → List ℕ) (shown : X → Y) (entries : List (K × X)) (key : K) (value : X) →
    files_shown text shown (insert_entry (λ a b. pointwise eqb (text a) (text b)) entries key value) ≡ with_named (text key) (shown value) (files_shown text shown entries)
insert-shown text shown [] key value = refl
insert-shown {Y = Y} text shown (e ∷ es) key value =
    let tail = insert_entry (λ a b. pointwise eqb (text a) (text b)) es key value in
    put_shown text shown (pointwise eqb (text key) (text e.0)) ((e.0, value) ∷ es) (e ∷ tail)
    ∙ ap (λ (t : Bool). cond t (files_shown text shown ((e.0, value) ∷ es)) (files_shown text shown (e ∷ tail))) (same_text-pointwise (text key) (text e.0))
    ∙ ap (λ (l : Named Y). cond (same_text (text key) (text e.0)) (files_shown text shown ((e.0, value) ∷ es)) ((text e.0, shown e.1) ∷ l)) (insert-shown text shown es key value)

choose_later : {Y : Type 0} (t : Bool) (first second third : Named Y) → (t ≡ false → second ≡ third) → cond t first second ≡ cond t first third
choose_later true first second third same = refl
choose_later false first second third same = same refl

-- another value for a key that is there
pub set-shown : {K X Y : Type 0} (text : K → List ℕ) (shown : X → Y) (name : List ℕ) (entries : List (K × X)) (value : X) → is_some (lookup (λ k. pointwise eqb name (text k)) entries) ≡ true →
    files_shown text shown (set_value (λ k. pointwise eqb name (text k)) entries value) ≡ with_named name (shown value) (files_shown text shown entries)
set-shown text shown name [] value there = absurd (true≢false (sym there))
set-shown {K = K} {Y = Y} text shown name (e ∷ es) value there =
    let test : K → Bool = λ k. pointwise eqb name (text k) in
    let tail = set_value test es value in
    let front = files_shown text shown ((e.0, value) ∷ es) in
    put_shown text shown (test e.0) ((e.0, value) ∷ es) (e ∷ tail)
    ∙ ap (λ (t : Bool). cond t front (files_shown text shown (e ∷ tail))) (same_text-pointwise name (text e.0))
    ∙ choose_later (same_text name (text e.0)) front (files_shown text shown (e ∷ tail)) ((text e.0, shown e.1) ∷ with_named name (shown value) (files_shown text shown es))
    (λ other. ap (λ (l : Named Y). (text e.0, shown e.1) ∷ l)
    (set-shown text shown name es value (sym (ap (λ (t : Bool). is_some (cond t (Some e.1) (lookup test es))) (same_text-pointwise name (text e.0) ∙ other)) ∙ there)))
