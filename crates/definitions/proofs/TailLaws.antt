-- Where two decks agree at one place of a common tail, they agree at each later one.
use Rattle.std.{proofs.Common.{◌≡◌, ℕ, List, [], ◌∷◌, ◌++◌, refl, sym, ap, ap₂, ◌∙◌}, specs.Prelude.map, specs.Option.option_or}
use Rattle.definitions.{specs.Statements.Statement, specs.Settled.{Settled, defined_in, defined}, specs.Settling.{View, settle, settled_from, settled_all}, specs.Laws.States.{state_after, seen_from, effect_of, advanced}, specs.Laws.Agreement.{early_symbols, Agree, unnumbered_statement, unnumbered, settled_tail, HaveSameCards, AgreeOnTail}, specs.declared.deck_kind.DeckKind.DeckKind, proofs.StateSteps.{AreInUse, seen_of-state, state_after-step}, proofs.ViewLaws.settled_from-agree, proofs.TestLaws.option_or-assoc}

-- the first definition among statements, or among those before them
defined-append : (name : List ℕ) (behind earlier : List Settled) → defined name (behind ++ earlier) ≡ option_or (defined name behind) (defined name earlier)
defined-append name [] earlier = refl
defined-append name (settled ∷ behind) earlier =
    ap (option_or (defined_in name settled.definitions)) (defined-append name behind earlier)
    ∙ sym (option_or-assoc (defined_in name settled.definitions) (defined name behind) (defined name earlier))

-- the numbers of cards define nothing
defined-unnumbered : (name : List ℕ) (settled : List Settled) → defined name (map unnumbered settled) ≡ defined name settled
defined-unnumbered name [] = refl
defined-unnumbered name (latest ∷ earlier) = ap (option_or (defined_in name latest.definitions)) (defined-unnumbered name earlier)

-- the same statements behind lists that agree on a name agree on it
defined-agree : (name : List ℕ) (behind other earlier before : List Settled) → map unnumbered behind ≡ map unnumbered other → defined name earlier ≡ defined name before →
    defined name (behind ++ earlier) ≡ defined name (other ++ before)
defined-agree name behind other earlier before same e =
    defined-append name behind earlier
    ∙ ap₂ option_or (sym (defined-unnumbered name behind) ∙ ap (defined name) same ∙ defined-unnumbered name other) e
    ∙ sym (defined-append name other before)

pub views-agree : (names : List (List ℕ)) (behind other earlier before : List Settled) → map unnumbered behind ≡ map unnumbered other →
    Agree (λ name. defined name earlier) (λ name. defined name before) names →
    Agree (λ name. defined name (behind ++ earlier)) (λ name. defined name (other ++ before)) names
views-agree [] behind other earlier before same h = tt
views-agree (name ∷ names) behind other earlier before same h = (defined-agree name behind other earlier before same h.0, views-agree names behind other earlier before same h.1)

-- the statements of a tail stand in the blocks in use
settled_tail-in_use : (kind : DeckKind) (earlier : List Settled) (tail : List Statement) → AreInUse earlier → AreInUse (settled_tail kind earlier tail ++ earlier)
settled_tail-in_use kind earlier [] h = h
settled_tail-in_use kind earlier (statement ∷ tail) h = (refl, settled_tail-in_use kind earlier tail h)

-- a statement of the same cards, behind equal states and under views that agree on what matters early, is the same but for its number
settle-agree : (kind : DeckKind) (earlier before : List Settled) (statement other : Statement) → state_after earlier ≡ state_after before → statement.cards ≡ other.cards →
    Agree (λ name. defined name earlier) (λ name. defined name before) (early_symbols (settle kind earlier statement).read) →
    unnumbered (settle kind earlier statement) ≡ unnumbered (settle kind before other)
settle-agree kind earlier before statement other states cards h =
    let plain = unnumbered_statement statement in
    let first : View = λ name. defined name earlier in
    let second : View = λ name. defined name before in
    ap (λ seen. settled_from kind seen plain) (seen_of-state earlier)
    ∙ settled_from-agree kind (state_after earlier) first second plain h
    ∙ ap₂ (λ state c. settled_from kind (seen_from state second) (record { before = 0; cards = c })) states cards
    ∙ ap (λ seen. settled_from kind seen (unnumbered_statement other)) (sym (seen_of-state before))

-- the same tail behind lists of equal states: the same statements but for their numbers, and equal states again
pub tails-agree : (kind : DeckKind) (earlier before : List Settled) (tail other : List Statement) → AreInUse earlier → AreInUse before →
    state_after earlier ≡ state_after before → HaveSameCards tail other → AgreeOnTail kind earlier before tail →
    (map unnumbered (settled_tail kind earlier tail) ≡ map unnumbered (settled_tail kind before other))
    × (state_after (settled_tail kind earlier tail ++ earlier) ≡ state_after (settled_tail kind before other ++ before))
tails-agree kind earlier before [] [] u w states same h = (refl, states)
tails-agree kind earlier before [] (second ∷ other) u w states same h = absurd same
tails-agree kind earlier before (statement ∷ tail) [] u w states same h = absurd same
tails-agree kind earlier before (statement ∷ tail) (second ∷ other) u w states same h =
    let behind = settled_tail kind earlier tail in
    let behind' = settled_tail kind before other in
    let rest = tails-agree kind earlier before tail other u w states same.1 h.1 in
    let here = settle kind (behind ++ earlier) statement in
    let here' = settle kind (behind' ++ before) second in
    let alike : unnumbered here ≡ unnumbered here' =
    settle-agree kind (behind ++ earlier) (behind' ++ before) statement second rest.1 same.0 (views-agree (early_symbols here.read) behind behind' earlier before rest.0 h.0) in (
      ap₂ (λ settled list. settled ∷ list) alike rest.0,
      state_after-step kind here (behind ++ earlier) (settled_tail-in_use kind earlier (statement ∷ tail) u)
          ∙ ap₂ (λ (settled : Settled) state. advanced (effect_of kind settled) state) alike rest.1
          ∙ sym (state_after-step kind here' (behind' ++ before) (settled_tail-in_use kind before (second ∷ other) w)),
    )

-- the statements of a deck are those of its tail behind those of its front
pub settled_all-append : (kind : DeckKind) (tail front : List Statement) → settled_all kind (tail ++ front) ≡ settled_tail kind (settled_all kind front) tail ++ settled_all kind front
settled_all-append kind [] front = refl
settled_all-append kind (statement ∷ tail) front = ap (λ earlier. settle kind earlier statement ∷ earlier) (settled_all-append kind tail front)
