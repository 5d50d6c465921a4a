-- What goes out of a queue goes out in the order of versions.
use Rattle.std.{proofs.Common.{ℕ, ◌≡◌, ◌+◌, ◌==◌, cond, List, [], ◌∷◌, ◌++◌, length, Contains, Option, Some, None, refl, sym, ap, ap₂, subst, ◌∙◌, arith, inl, inr, append_assoc, append-nil, eqb-true, eq-eqb, length-append}, proofs.lemmas.Bool.cases_Bool, proofs.lemmas.List.Elements.{Contains-push, Contains-push_cases, Contains-append_left, Contains-append_right, Contains-append_cases}, specs.Option.option_or}
use Rattle.journal.specs.{declared.queue.Unwritten.Unwritten, Records.text_with_version, Queues.{GoOut, start, more, draft_of, draft_queued, unwritten, Waits, AllWait, texts_from, InOrder}}

-- the record that is found waits
here-or-later : (place : Option Unwritten) (places : List (Option Unwritten)) (version : ℕ) (draft : List ℕ) → option_or (draft_of version place) (draft_queued version places) ≡ Some draft →
    (draft_queued version places ≡ Some draft → Waits places version draft) → Waits (place ∷ places) version draft
here-or-later None places version draft queued later = Contains-append_right (None ∷ []) places (Some (unwritten version draft)) (later queued)
here-or-later (Some waits) places version draft queued later = elim (cases_Bool (waits.version == version)) [
  | inl same ↦ (
      let e : option_or (cond (waits.version == version) (Some waits.draft) None) (draft_queued version places) ≡ Some waits.draft = ap (λ b. option_or (cond b (Some waits.draft) None) (draft_queued version places)) same in
      let drafts : waits.draft ≡ draft = cc in
      let one : waits ≡ unwritten version draft = ap₂ (λ (v : ℕ) (d : List ℕ). unwritten v d) (eqb-true waits.version version same) drafts in
      subst (λ (u : Unwritten). Waits (Some u ∷ places) version draft) (sym one) (Contains-append_left (Some (unwritten version draft) ∷ []) places (Some (unwritten version draft)) (Contains-push [] (Some (unwritten version draft)))))
  | inr other ↦ (
      let e : option_or (cond (waits.version == version) (Some waits.draft) None) (draft_queued version places) ≡ draft_queued version places = ap (λ b. option_or (cond b (Some waits.draft) None) (draft_queued version places)) other in
      Contains-append_right (Some waits ∷ []) places (Some (unwritten version draft)) (later (sym e ∙ queued)))
]

queued-waits : (places : List (Option Unwritten)) (version : ℕ) (draft : List ℕ) → draft_queued version places ≡ Some draft → Waits places version draft
queued-waits [] version draft queued = cc
queued-waits (place ∷ places) version draft queued = here-or-later place places version draft queued (queued-waits places version draft)

-- neither is there
neither : (a b : Option (List ℕ)) → option_or a b ≡ None → (a ≡ None) × (b ≡ None)
neither None b none = (refl, none)
neither (Some draft) b none = cc

not-here : (place : Option Unwritten) (version : ℕ) (draft : List ℕ) → draft_of version place ≡ None → place ≡ Some (unwritten version draft) → ⊥
not-here place version draft none same =
    let there : draft_of version (Some (unwritten version draft)) ≡ Some draft = ap (λ b. cond b (Some draft) None) (eq-eqb version version refl) in
    let told : draft_of version (Some (unwritten version draft)) ≡ None = ap (draft_of version) (sym same) ∙ none in
    cc

nothing-there : (wanted : Option Unwritten) → Contains [] wanted → ⊥
nothing-there wanted is = let within = is.1 in omega arith

-- where none is found none waits
none-waits : (places : List (Option Unwritten)) (version : ℕ) → draft_queued version places ≡ None → (draft : List ℕ) → Waits places version draft → ⊥
none-waits [] version none draft waits = nothing-there (Some (unwritten version draft)) waits
none-waits (place ∷ places) version none draft waits =
    let both = neither (draft_of version place) (draft_queued version places) none in
    elim (Contains-append_cases (place ∷ []) places (Some (unwritten version draft)) waits) [
      | inl here ↦ elim (Contains-push_cases [] place (Some (unwritten version draft)) here) [
        | inl nowhere ↦ nothing-there (Some (unwritten version draft)) nowhere
        | inr same ↦ not-here place version draft both.0 same
      ]
      | inr later ↦ none-waits places version both.1 draft later
    ]

-- one that waits behind those that do
wait-more : (places : List (Option Unwritten)) (version : ℕ) (drafts : List (List ℕ)) (draft : List ℕ) → AllWait places version drafts → Waits places (version + length drafts) draft → AllWait places version (drafts ++ draft ∷ [])
wait-more places version [] draft all waits = let same : version + 0 ≡ version = omega arith in (subst (λ (n : ℕ). Waits places n draft) same waits, tt)
wait-more places version (first ∷ drafts) draft all waits =
    let same : version + length (first ∷ drafts) ≡ version + 1 + length drafts = omega arith in
    (all.0, wait-more places (version + 1) drafts draft all.1 (subst (λ (n : ℕ). Waits places n draft) same waits))

texts-more : (version : ℕ) (drafts : List (List ℕ)) (draft : List ℕ) → texts_from version (drafts ++ draft ∷ []) ≡ texts_from version drafts ++ text_with_version (version + length drafts) draft
texts-more version [] draft =
    let same : version ≡ version + 0 = omega arith in
    append-nil (text_with_version version draft) ∙ ap (λ (n : ℕ). text_with_version n draft) same
texts-more version (first ∷ drafts) draft =
    let same : version + 1 + length drafts ≡ version + length (first ∷ drafts) = omega arith in
    ap (λ (t : List ℕ). text_with_version version first ++ t) (texts-more (version + 1) drafts draft ∙ ap (λ (n : ℕ). texts_from (version + 1) drafts ++ text_with_version n draft) same)
    ∙ sym (append_assoc (text_with_version version first) (texts_from (version + 1) drafts) (text_with_version (version + length (first ∷ drafts)) draft))

-- what went out so far
pub record SoFar (places : List (Option Unwritten)) (first : ℕ) (drafts : List (List ℕ)) (text : List ℕ) (next : ℕ) : Type 0 where
  pub text_is : text ≡ texts_from first drafts
  pub all_wait : AllWait places first drafts
  pub next_is : next ≡ first + length drafts

pub so-far : (places : List (Option Unwritten)) (first : ℕ) (drafts : List (List ℕ)) (text : List ℕ) (next : ℕ) → GoOut places first drafts text next → SoFar places first drafts text next
so-far places first drafts text next start = record { text_is = refl; all_wait = tt; next_is = omega arith }
so-far places first drafts text next (more fewer before version draft out queued) =
    let b = so-far places first fewer before version out in
    let at_version : version ≡ first + length fewer = b.next_is in
    let longer : length (fewer ++ draft ∷ []) ≡ length fewer + 1 = length-append fewer (draft ∷ []) in
    record {
      text_is = ap (λ (t : List ℕ). t ++ text_with_version version draft) b.text_is ∙ (ap (λ (n : ℕ). texts_from first fewer ++ text_with_version n draft) at_version ∙ sym (texts-more first fewer draft));
      all_wait = wait-more places first fewer draft b.all_wait (subst (λ (n : ℕ). Waits places n draft) at_version (queued-waits places version draft queued));
      next_is = omega arith;
    }

-- all that goes out
pub in-order : (places : List (Option Unwritten)) (first : ℕ) (drafts : List (List ℕ)) (text : List ℕ) (next : ℕ) → GoOut places first drafts text next → draft_queued next places ≡ None → InOrder places first drafts text next
in-order places first drafts text next out none =
    let b = so-far places first drafts text next out in
    record { text_is = b.text_is; all_wait = b.all_wait; next_is = b.next_is; none_waits = none-waits places next none }
