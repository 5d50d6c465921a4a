-- The decks of a file added one by one.
use Rattle.std.{proofs.Common.{ℕ, suc, ◌≡◌, ◌+◌, ◌-◌, ◌<◌, List, [], ◌∷◌, ◌++◌, arith, drop, get_or, length, length-append, take, reverse, ◌⊎◌, ⊎_elim, inl, inr, Ok, Err, refl, sym, subst, ap, ◌∙◌}, specs.Prelude.Result, proofs.lemmas.List.{drop_more, length-drop, take_all, take_more}}
use Rattle.definitions.specs.{Cards.Card, DeckInput.{Deck, Decks}}
use Rattle.deck_cuts.{specs.Cuts.{input_of_cards, newest_first, TellsFaultOf}, specs.declared.cut_fault.CutFault.CutFault, proofs.DeckLaws.in_input_order-newest_first}
use Rattle.deck_cuts.specs.declared.cut_fault.CutFault.TheVariants as cutting
use Rattle.session_line.specs.{DeskRelations.DeskRelations, declared.told_decks.ToldDeck.ToldDeck, declared.answers.Answer.Answer, Answers.uncalled, DeckCuts.{decks_in, decks_or_reason}, Reasons.cut_reason, LoadingAll.{AddsAll, AddsCut, AddsDeck, AddsDecks, AddsFile, cut, no_deck, next_deck, uncut}}
use Rattle.session_line.specs.declared.answers.Told.TheVariants as told
use Rattle.session_commands.specs.declared.refusals.Refusal.{Refusal, TheVariants.OutOfMemory}

-- a deck that is left
left-some : (decks : List Deck) (n : ℕ) (deck : Deck) (behind : List Deck) → drop n decks ≡ deck ∷ behind → n < length decks
left-some decks n deck behind is = let all : length decks - n ≡ suc (length behind) = sym (length-drop n decks) ∙ ap length is in omega (arith, all)

head-is : (x y : Deck) (xs ys : List Deck) → x ∷ xs ≡ y ∷ ys → x ≡ y
head-is x y xs ys same = cc

tail-is : (x y : Deck) (xs ys : List Deck) → x ∷ xs ≡ y ∷ ys → xs ≡ ys
tail-is x y xs ys same = cc

take-left : (decks : List Deck) (n : ℕ) (deck : Deck) (behind : List Deck) → drop n decks ≡ deck ∷ behind → take (n + 1) decks ≡ take n decks ++ deck ∷ []
take-left decks n deck behind is =
    let within = left-some decks n deck behind is in
    take_more decks n deck within
    ∙ ap (λ (d : Deck). take n decks ++ d ∷ []) (head-is (get_or decks n deck) deck (drop (n + 1) decks) behind (sym (drop_more decks n deck within) ∙ is))

drop-left : (decks : List Deck) (n : ℕ) (deck : Deck) (behind : List Deck) → drop n decks ≡ deck ∷ behind → behind ≡ drop (n + 1) decks
drop-left decks n deck behind is =
    sym (tail-is (get_or decks n deck) deck (drop (n + 1) decks) behind (sym (drop_more decks n deck (left-some decks n deck behind is)) ∙ is))

longer : (lines after : List ToldDeck) (line : ToldDeck) → after ≡ lines ++ line ∷ [] → length after ≡ length lines + 1
longer lines after line put = ap length put ∙ length-append lines (line ∷ [])

-- those behind it
pub behind-left : (decks : List Deck) (lines after : List ToldDeck) (line : ToldDeck) (deck : Deck) (behind : List Deck) → deck ∷ behind ≡ drop (length lines) decks → after ≡ lines ++ line ∷ [] → behind ≡ drop (length after) decks
behind-left decks lines after line deck behind is put =
    drop-left decks (length lines) deck behind (sym is) ∙ ap (λ (n : ℕ). drop n decks) (sym (longer lines after line put))

-- none is left
pub none-left : (decks : List Deck) (lines : List ToldDeck) → [] ≡ drop (length lines) decks → take (length lines) decks ≡ decks
none-left decks lines is = let all : length decks - length lines ≡ 0 = sym (length-drop (length lines) decks) ∙ ap length (sym is) in take_all (length lines) decks (omega (arith, all))

-- the cut of a file's cards, as the code has it
pub decks-cut : (cards : List Card) (decks : List Deck) → input_of_cards (reverse cards) ≡ Decks (newest_first decks) → decks_in cards ≡ Ok decks
decks-cut cards decks is = ap decks_or_reason is ∙ ap Ok (in_input_order-newest_first decks)

-- or why there is none
pub reason-cut : (cards : List Card) (fault : CutFault) → TellsFaultOf (input_of_cards (reverse cards)) fault → (decks_in cards ≡ Err (cut_reason fault)) ⊎ (cut_reason fault ≡ OutOfMemory)
reason-cut cards cutting.OutOfMemory told = inr refl
reason-cut cards cutting.DeckFull told = inl (ap decks_or_reason told)
reason-cut cards cutting.NameTaken told = inl (ap decks_or_reason told)
reason-cut cards cutting.TooManyDecks told = inl (ap decks_or_reason told)
reason-cut cards (cutting.BadName number) told = inl (ap decks_or_reason told)

module _ {C : Type 0} (calls : DeskRelations C) where
  -- none was added
  pub adds-none : (first : C) (decks : List Deck) (lines : List ToldDeck) → lines ≡ [] → AddsDecks calls first (take (length lines) decks) lines first
  adds-none first decks lines none = subst (λ (l : List ToldDeck). AddsDecks calls first (take (length l) decks) l first) (sym none) no_deck

  -- one more was
  pub adds-more : (first desk next : C) (decks : List Deck) (lines after : List ToldDeck) (deck : Deck) (behind : List Deck) (line : ToldDeck) → AddsDecks calls first (take (length lines) decks) lines desk → AddsDeck calls deck desk next line →
      deck ∷ behind ≡ drop (length lines) decks → after ≡ lines ++ line ∷ [] → AddsDecks calls first (take (length after) decks) after next
  adds-more first desk next decks lines after deck behind line sofar one is put =
      subst (λ (d : List Deck). AddsDecks calls first d after next) (sym (ap (λ (n : ℕ). take n decks) (longer lines after line put) ∙ take-left decks (length lines) deck behind (sym is)))
      (subst (λ (l : List ToldDeck). AddsDecks calls first (take (length lines) decks ++ deck ∷ []) l next) (sym put) (next_deck (take (length lines) decks) lines desk next deck line sofar one))

  -- the decks of a file were added
  pub file-cut : (cards : List Card) (decks : List Deck) (desk next : C) (answer : Answer) → decks_in cards ≡ Ok decks → AddsAll calls decks desk next answer → AddsFile calls cards desk next answer
  file-cut cards decks desk next answer is adds = cut (subst (λ (result : Result (List Deck) Refusal). AddsCut calls result desk next answer) (sym is) adds)

  -- or it has none, or there was no memory for them
  pub file-refused : (cards : List Card) (refusal : Refusal) (desk : C) (answer : Answer) → (decks_in cards ≡ Err refusal) ⊎ (refusal ≡ OutOfMemory) → answer ≡ uncalled (told.Refused refusal) → AddsFile calls cards desk desk answer
  file-refused cards refusal desk answer why is =
      ⊎_elim (λ (none : decks_in cards ≡ Err refusal). cut (subst (λ (result : Result (List Deck) Refusal). AddsCut calls result desk desk answer) (sym none) (refl, is)))
      (λ (lacking : refusal ≡ OutOfMemory). uncut refl (is ∙ ap (λ r. uncalled (told.Refused r)) lacking)) why
