-- The words of one run, gathered parcel by parcel.
use Rattle.std.{proofs.Common.{◌≡◌, ◌≢◌, ℕ, ◌+◌, ◌*◌, ◌/◌, ◌%◌, ◌^◌, ◌<◌, Bool, true, false, ◌||◌, nat_eq, List, [], ◌∷◌, ◌++◌, Option, Some, None, get_or, refl, sym, ap, subst, ◌∙◌, arith, ◌⊎◌, inl, inr, append-nil}, specs.Prelude.{if◌then◌else◌, unwrap_or}, specs.List.list_any, proofs.lemmas.Bool.cases_order, proofs.lemmas.Bool.Decides.eqb_tells, proofs.lemmas.List.Elements.filter-append, proofs.lemmas.List.Folds.list_any-append, specs.Option.option_or}
use Rattle.definitions.{specs.Kinds.units, specs.Words.{Parcel, bits_at, in_word, filling_of, word_of_parcels}, specs.declared.deck_kind.DeckKind.DeckKind, specs.declared.deck_kind.DeckKind.TheVariants.{Rel, Abs, Periph}, proofs.TestLaws.option_or-none}
use Rattle.parcel_packer.proofs.RiseLaws.{none-option_or}
use Rattle.parcel_packer.{specs.Joins.Packing.parcel_at, specs.Joins.Filling.{DoSpansRise, IsFilled, IsGathered, IsOpenWord, found, is_none_there, value_in, value_of_parcels, word_made}, specs.declared.word_spans.WordSpan.WordSpan, specs.declared.gathering.OpenWord.OpenWord, proofs.RiseLaws.{spans-wider, spans-push, found-append, found-above, found-here, found-before, found-past}}

-- a parcel behind others is seen where they do not cover its place
bits_at-push : (kind : DeckKind) (filling place : ℕ) (parcels : List Parcel) (parcel : Parcel) →
    bits_at kind filling place (parcels ++ parcel ∷ []) ≡ bits_at kind (if nat_eq (parcel.place % units kind) place then parcel.bits else filling) place parcels
bits_at-push kind filling place [] parcel = refl
bits_at-push kind filling place (first ∷ parcels) parcel =
    ap (λ rest. if nat_eq (first.place % units kind) place then first.bits else rest) (bits_at-push kind filling place parcels parcel)

any-push : (parcels : List Parcel) (parcel : Parcel) →
    list_any (λ (p : Parcel). p.is_instruction) (parcels ++ parcel ∷ []) ≡ (list_any (λ (p : Parcel). p.is_instruction) parcels || parcel.is_instruction)
any-push parcels parcel = list_any-append (λ (p : Parcel). p.is_instruction) parcels (parcel ∷ []) ∙ ap (λ b. list_any (λ (p : Parcel). p.is_instruction) parcels || b) (or_false parcel.is_instruction)
  where
    or_false : (b : Bool) → (b || false) ≡ b
    or_false true = refl
    or_false false = refl

some_there : (parcels : List Parcel) (parcel : Parcel) → is_none_there (parcels ++ parcel ∷ []) ≡ false
some_there [] parcel = refl
some_there (first ∷ parcels) parcel = refl

pub no_parcels : (parcels : List Parcel) → is_none_there parcels ≡ true → parcels ≡ []
no_parcels [] e = refl
no_parcels (parcel ∷ parcels) e = cc

-- a cell that a parcel came to: it keeps what it has
kept_cell : (cell : Option ℕ) (bits filling : ℕ) → unwrap_or cell bits ≡ unwrap_or (Some (unwrap_or cell bits)) filling
kept_cell None bits filling = refl
kept_cell (Some n) bits filling = refl

-- one parcel more in the word
pub parcel_added : (kind : DeckKind) (old new : OpenWord) (parcels : List Parcel) (place at_place bits : ℕ) (instruction : Bool) → place < 4 → at_place % units kind ≡ place →
    get_or new.parcels place None ≡ Some (unwrap_or (get_or old.parcels place None) bits) →
    ((k : ℕ) → k ≢ place → get_or new.parcels k None ≡ get_or old.parcels k None) →
    new.has_instruction ≡ (old.has_instruction || instruction) → new.is_empty ≡ false →
    IsOpenWord kind old parcels → IsOpenWord kind new (parcels ++ parcel_at instruction at_place bits ∷ [])
parcel_added kind old new parcels place at_place bits instruction low at here others any none h = record {
  bits = λ filling k below. bits_at-push kind filling k parcels (parcel_at instruction at_place bits) ∙ cell filling k below;
  instruction = any-push parcels (parcel_at instruction at_place bits) ∙ ap (λ b. b || instruction) h.instruction ∙ sym any;
  empty = none ∙ sym (some_there parcels (parcel_at instruction at_place bits));
}
  where
    cell : (filling k : ℕ) → k < 4 → bits_at kind (if nat_eq (at_place % units kind) k then bits else filling) k parcels ≡ unwrap_or (get_or new.parcels k None) filling
    cell filling k below = elim (eqb_tells (at_place % units kind) k) [
      | inl e ↦ rw e.0 (let same : place ≡ k = sym at ∙ e.1 in
          h.bits bits k below ∙ rw (← same) (kept_cell (get_or old.parcels place None) bits filling ∙ ap (λ c. unwrap_or c filling) (sym here)))
      | inr e ↦ rw e.0 (h.bits filling k below ∙ ap (λ c. unwrap_or c filling) (sym (others k (λ same. e.1 (at ∙ sym same)))))
    ]

pub in_word-push : (kind : DeckKind) (word : ℕ) (parcels : List Parcel) (parcel : Parcel) →
    in_word kind word (parcels ++ parcel ∷ []) ≡ in_word kind word parcels ++ (if nat_eq (parcel.place / units kind) word then parcel ∷ [] else [])
in_word-push kind word parcels parcel = filter-append (λ (p : Parcel). nat_eq (p.place / units kind) word) parcels (parcel ∷ [])

in_word-here : (kind : DeckKind) (word : ℕ) (parcels : List Parcel) (parcel : Parcel) → parcel.place / units kind ≡ word →
    in_word kind word (parcels ++ parcel ∷ []) ≡ in_word kind word parcels ++ parcel ∷ []
in_word-here kind word parcels parcel e = elim (eqb_tells (parcel.place / units kind) word) [
  | inl h ↦ in_word-push kind word parcels parcel ∙ ap (λ b. in_word kind word parcels ++ (if b then parcel ∷ [] else [])) h.0
  | inr h ↦ absurd (h.1 e)
]

in_word-other : (kind : DeckKind) (word : ℕ) (parcels : List Parcel) (parcel : Parcel) → parcel.place / units kind ≢ word →
    in_word kind word (parcels ++ parcel ∷ []) ≡ in_word kind word parcels
in_word-other kind word parcels parcel other = elim (eqb_tells (parcel.place / units kind) word) [
  | inl h ↦ absurd (other h.1)
  | inr h ↦ in_word-push kind word parcels parcel ∙ ap (λ b. in_word kind word parcels ++ (if b then parcel ∷ [] else [])) h.0 ∙ append-nil (in_word kind word parcels)
]

-- one parcel more in the open word
pub gathered_more : (kind : DeckKind) (parcels : List Parcel) (words : List WordSpan) (old new : OpenWord) (parcel : Parcel) →
    old.word ≡ parcel.place / units kind → new.word ≡ old.word →
    ((held : List Parcel) → IsOpenWord kind old held → IsOpenWord kind new (held ++ parcel ∷ [])) →
    IsGathered kind parcels words old → IsGathered kind (parcels ++ parcel ∷ []) words new
gathered_more kind parcels words old new parcel at same added h = record {
  small = rw same h.small;
  rise = rw same h.rise;
  has = λ offset below. let under : offset < old.word = rw same at below in
      h.has offset under ∙ ap (λ ps. value_of_parcels kind ps) (sym (in_word-other kind offset parcels parcel (λ e. absurd (omega arith))));
  holds = let Holds : List Parcel → Type 0 = λ ps. IsOpenWord kind new ps in
      subst Holds (sym (ap (λ w. in_word kind w (parcels ++ parcel ∷ [])) same ∙ in_word-here kind old.word parcels parcel (sym at))) (added (in_word kind old.word parcels) h.holds);
  behind = λ offset above. let over : old.word < offset = rw same at above in
      in_word-other kind offset parcels parcel (λ e. absurd (omega arith)) ∙ h.behind offset over;
}

-- the word that was made is found at its offset alone
made-here : (kind : DeckKind) (word : ℕ) (parcels : List Parcel) → found word (word_made kind word parcels) ≡ value_of_parcels kind parcels
made-here kind word [] = refl
made-here kind word (parcel ∷ parcels) = found-here word (record { offset = word; count = 1; value = word_of_parcels kind (parcel ∷ parcels) }) [] (omega arith) (omega arith)

made-other : (kind : DeckKind) (word offset : ℕ) (parcels : List Parcel) → (offset < word) ⊎ (word < offset) → found offset (word_made kind word parcels) ≡ None
made-other kind word offset [] other = refl
made-other kind word offset (parcel ∷ parcels) (inl before) = found-before offset (record { offset = word; count = 1; value = word_of_parcels kind (parcel ∷ parcels) }) [] (omega arith)
made-other kind word offset (parcel ∷ parcels) (inr behind) = found-past offset (record { offset = word; count = 1; value = word_of_parcels kind (parcel ∷ parcels) }) [] (omega arith)

made_rise : (kind : DeckKind) (word high : ℕ) (spans : List WordSpan) (parcels : List Parcel) → DoSpansRise 0 spans word → word < high →
    DoSpansRise 0 (spans ++ word_made kind word parcels) high
made_rise kind word high spans [] h k = rw append-nil (spans-wider 0 spans word high h (omega arith))
made_rise kind word high spans (parcel ∷ parcels) h k = spans-push 0 spans (record { offset = word; count = 1; value = word_of_parcels kind (parcel ∷ parcels) }) high h (omega arith) (omega arith)

-- once the open word is made, all words are there
pub ended_rise : (kind : DeckKind) (parcels : List Parcel) (old new : List WordSpan) (next : OpenWord) (high : ℕ) → IsGathered kind parcels old next →
    new ≡ old ++ word_made kind next.word (in_word kind next.word parcels) → next.word < high → DoSpansRise 0 new high
ended_rise kind parcels old new next high h e k = rw e (made_rise kind next.word high old (in_word kind next.word parcels) h.rise k)

pub ended_has : (kind : DeckKind) (parcels : List Parcel) (old new : List WordSpan) (next : OpenWord) (offset : ℕ) → IsGathered kind parcels old next →
    new ≡ old ++ word_made kind next.word (in_word kind next.word parcels) → found offset new ≡ value_in kind parcels offset
ended_has kind parcels old new next offset h e =
    rw e (found-append offset old (word_made kind next.word held) ∙ by_order (cases_order offset next.word))
  where
    held : List Parcel
    held = in_word kind next.word parcels

    by_order : ((offset ≡ next.word) ⊎ ((offset < next.word) ⊎ (next.word < offset))) → option_or (found offset old) (found offset (word_made kind next.word held)) ≡ value_in kind parcels offset
    by_order (inr (inl below)) = option_or-none _ _ (made-other kind next.word offset held (inl below)) ∙ h.has offset below
    by_order (inl same) = none-option_or _ _ (found-above offset 0 old next.word h.rise (omega arith)) ∙ rw same (made-here kind next.word held)
    by_order (inr (inr above)) =
        none-option_or _ _ (found-above offset 0 old next.word h.rise (omega arith)) ∙ made-other kind next.word offset held (inr above)
        ∙ ap (λ ps. value_of_parcels kind ps) (sym (h.behind offset above))

-- going on to a later word
pub gathered_on : (kind : DeckKind) (parcels : List Parcel) (old new : List WordSpan) (next later : OpenWord) → IsGathered kind parcels old next →
    new ≡ old ++ word_made kind next.word (in_word kind next.word parcels) → next.word < later.word → later.word < 2 ^ 20 → IsOpenWord kind later [] → IsGathered kind parcels new later
gathered_on kind parcels old new next later h e before small none = record {
  small = small;
  rise = ended_rise kind parcels old new next later.word h e before;
  has = λ offset below. ended_has kind parcels old new next offset h e;
  holds = rw (h.behind later.word before) none;
  behind = λ offset above. h.behind offset (omega arith);
}

pub gathered_all : (kind : DeckKind) (parcels : List Parcel) (old new : List WordSpan) (next : OpenWord) → IsGathered kind parcels old next →
    new ≡ old ++ word_made kind next.word (in_word kind next.word parcels) → IsFilled (value_in kind parcels) new
gathered_all kind parcels old new next h e = record {
  rise = ended_rise kind parcels old new next (2 ^ 20) h e h.small;
  has = λ offset. ended_has kind parcels old new next offset h e;
}

-- before any parcel nothing is gathered
pub gathered_none : (kind : DeckKind) (next : OpenWord) → next.word ≡ 0 → IsOpenWord kind next [] → IsGathered kind [] [] next
gathered_none kind next first h = record { small = omega arith; rise = omega arith; has = λ offset below. refl; holds = h; behind = λ offset above. refl }

-- a central word is its four parcels one behind the other
pub word_four : (kind : DeckKind) (parcels : List Parcel) (a b c d : ℕ) → units kind ≢ 1 → bits_at kind (filling_of kind parcels) 0 parcels ≡ a → bits_at kind (filling_of kind parcels) 1 parcels ≡ b →
    bits_at kind (filling_of kind parcels) 2 parcels ≡ c → bits_at kind (filling_of kind parcels) 3 parcels ≡ d → word_of_parcels kind parcels ≡ ((a * 32768 + b) * 32768 + c) * 32768 + d
word_four Rel parcels a b c d four p q r s = omega (arith, p, q, r, s)
word_four Abs parcels a b c d four p q r s = omega (arith, p, q, r, s)
word_four Periph parcels a b c d four p q r s = absurd (four refl)

pub word_central : (kind : DeckKind) (next : OpenWord) (parcels : List Parcel) (filling : ℕ) → units kind ≢ 1 → IsOpenWord kind next parcels → filling ≡ filling_of kind parcels →
    ((unwrap_or (get_or next.parcels 0 None) filling * 32768 + unwrap_or (get_or next.parcels 1 None) filling) * 32768 + unwrap_or (get_or next.parcels 2 None) filling) * 32768 + unwrap_or (get_or next.parcels 3 None) filling
    ≡ word_of_parcels kind parcels
word_central kind next parcels filling four h e = sym (word_four kind parcels _ _ _ _ four (at 0 (omega arith)) (at 1 (omega arith)) (at 2 (omega arith)) (at 3 (omega arith)))
  where
    at : (k : ℕ) → k < 4 → bits_at kind (filling_of kind parcels) k parcels ≡ unwrap_or (get_or next.parcels k None) filling
    at k below = rw e (h.bits (filling_of kind parcels) k below)
