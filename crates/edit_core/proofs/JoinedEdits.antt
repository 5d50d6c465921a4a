-- What is due for edits that are made at once is at most the sum of what is due for each, and what stands between them.
use Rattle.std.proofs.{Common.{◌≡◌, ◌+◌, ◌-◌, ◌≤◌, inl, inr, ℕ, List, ◌++◌, min, length, refl, sym, ap, ◌∙◌, subst, arith, length-append}, lemmas.Bool.cases_lt}
use Rattle.definitions.{specs.Statements.{Statement, cards_in}, specs.DeckKinds.kind_of_statements, specs.Laws.Edits.{Edited, IsUntouched, DoAgree}, specs.Laws.Rebound.{rebound_front, rebound_tail, context_from}, specs.Settling.settled_all, specs.Laws.Agreement.settled_tail, specs.declared.deck_kind.DeckKind.DeckKind, proofs.EditLaws.cards_in-append, proofs.StateSteps.settled_all-in_use, proofs.TailLaws.tails-agree}
use Rattle.edit_core.{specs.Sums.{Ends, AtEnd, Agreeing, in_front, rebound_behind, apart}, proofs.JoinLaws.{HaveCards, fronts-apart, same-count, agree-joined, lasts-in-new, lasts-in-old, shorter-of}, proofs.NeutralJoins.{same-kind, neutral-within, neutral-unbound}, proofs.ReboundJoins.{rebounds, rebounds-counted, rebounds-both, rebounds-alike, front-rebounds, tail-rebounds}}
use Rattle.deck_assembler.proofs.NeutralLaws.{AreNeutral, front-neutral}

-- two decks, so many cards of which stand before those that edits are of, and so many behind them
abbrev pub decks_of : List Statement → List Statement → ℕ → ℕ → ℕ → ℕ → Edited
decks_of old new old_count new_count before behind =
    record { old = old; new = new; before = before; old_behind = old_count - behind; new_behind = new_count - behind }

-- how many statements of the old deck stand in front of where what is due ends
abbrev old_front_of : (decks : Edited) → Ends decks → ℕ
old_front_of decks AtEnd = length decks.old
old_front_of decks (Agreeing split agree) = length split.old_front

-- where what is due for both ends
record JoinedEnds (first second both : Edited) (one : Ends first) (two : Ends second) : Type 0 where
  ends : Ends both
  reach : in_front both ends ≡ in_front second two + (in_front first one - old_front_of second two)
  rebound : rebound_behind both ends ≤ rebound_behind first one + rebound_behind second two

-- a place where both decks agree
joined-place : (old mid new : List Statement) (old_count count new_count before behind other_before other_behind : ℕ) → behind ≤ old_count → behind ≤ count → other_behind ≤ count → other_behind ≤ new_count →
    (old_front old_tail front tail new_front new_tail : List Statement) →
    DoAgree (decks_of old mid old_count count before behind) (record { old_front = old_front; old_tail = old_tail; new_front = front; new_tail = tail }) →
    DoAgree (decks_of mid new count new_count other_before other_behind) (record { old_front = front; old_tail = tail; new_front = new_front; new_tail = new_tail }) →
    DoAgree (decks_of old new old_count new_count (min before other_before) (min behind other_behind)) (record { old_front = old_front; old_tail = old_tail; new_front = new_front; new_tail = new_tail })
joined-place old mid new old_count count new_count before behind other_before other_behind few few_mid other few_new old_front old_tail front tail new_front new_tail one two =
    let first_old = one.tail.old_reaches in
    let first_new = one.tail.new_reaches in
    let first_same = one.tail.same_place in
    let second_old = two.tail.old_reaches in
    let second_new = two.tail.new_reaches in
    let second_same = two.tail.same_place in
    agree-joined (decks_of old mid old_count count before behind) (decks_of mid new count new_count other_before other_behind) (decks_of old new old_count new_count (min before other_before) (min behind other_behind))
    old_front old_tail front tail new_front new_tail (record { of_old = refl; between = refl; of_new = refl }) one two
    (omega (arith, few, few_mid, other, few_new, first_old, first_new, first_same, second_old, second_new, second_same))
    (omega (arith, few, few_mid, other, few_new, first_old, first_new, first_same, second_old, second_new, second_same))
    (omega (arith, few, few_mid, other, few_new, first_old, first_new, first_same, second_old, second_new, second_same))

-- how many statements of a tail are bound otherwise in two decks
abbrev bound_in : List Statement → List Statement → DeckKind → List Statement → List Statement → ℕ
bound_in old new kind front tail = rebounds (context_from old) (context_from new) (settled_tail kind (settled_all kind front) tail)

counted : (decks : Edited) (front tail : List Statement) → rebound_tail decks front tail ≡ bound_in decks.old decks.new (kind_of_statements decks.new) front tail
counted decks front tail =
    sym (rebounds-counted (context_from decks.old) (context_from decks.new) (settled_tail (kind_of_statements decks.new) (settled_all (kind_of_statements decks.new) front) tail))

-- no more statements behind it are bound otherwise than behind each
joined-rebounds : (old mid new : List Statement) (old_count count new_count before behind other_before other_behind : ℕ) (front tail new_front new_tail : List Statement) →
    DoAgree (decks_of mid new count new_count other_before other_behind) (record { old_front = front; old_tail = tail; new_front = new_front; new_tail = new_tail }) →
    rebound_tail (decks_of old new old_count new_count (min before other_before) (min behind other_behind)) new_front new_tail ≤
    rebound_tail (decks_of old mid old_count count before behind) front tail + rebound_tail (decks_of mid new count new_count other_before other_behind) new_front new_tail
joined-rebounds old mid new old_count count new_count before behind other_before other_behind front tail new_front new_tail two =
    let kind = kind_of_statements new in
    let both = rebounds-both (context_from old) (context_from mid) (context_from new) (settled_tail kind (settled_all kind new_front) new_tail) in
    let alike = rebounds-alike (context_from old) (context_from mid) (settled_tail kind (settled_all kind front) tail) (settled_tail kind (settled_all kind new_front) new_tail)
    (tails-agree kind (settled_all kind front) (settled_all kind new_front) tail new_tail (settled_all-in_use kind front) (settled_all-in_use kind new_front) two.states two.tail.same_cards two.early).0 in
    let moved = ap (λ (k : DeckKind). bound_in old mid k front tail) two.kinds in
    let whole = counted (decks_of old new old_count new_count (min before other_before) (min behind other_behind)) new_front new_tail in
    let first = counted (decks_of old mid old_count count before behind) front tail in
    let second = counted (decks_of mid new count new_count other_before other_behind) new_front new_tail in
    omega (arith, both, alike, moved, whole, first, second)

-- behind a longer front no more are
fewer-bound : (decks : Edited) (tail front other_tail other : List Statement) → tail ++ front ≡ other_tail ++ other → length other ≤ length front → rebound_tail decks front tail ≤ rebound_tail decks other other_tail
fewer-bound decks tail front other_tail other e longer =
    let bound = tail-rebounds (kind_of_statements decks.new) (context_from decks.old) (context_from decks.new) tail front other_tail other e longer in
    let first = counted decks front tail in
    let second = counted decks other other_tail in
    omega (arith, bound, first, second)

-- where what is due for each of two edits ends, that for both does
join-ends : (old mid new : List Statement) (old_count count new_count before behind other_before other_behind : ℕ) → behind ≤ old_count → behind ≤ count → other_behind ≤ count → other_behind ≤ new_count →
    (one : Ends (decks_of old mid old_count count before behind)) (two : Ends (decks_of mid new count new_count other_before other_behind)) →
    JoinedEnds (decks_of old mid old_count count before behind) (decks_of mid new count new_count other_before other_behind) (decks_of old new old_count new_count (min before other_before) (min behind other_behind)) one two
join-ends old mid new old_count count new_count before behind other_before other_behind few few_mid other few_new AtEnd AtEnd =
    record { ends = AtEnd; reach = omega arith; rebound = omega arith }
join-ends old mid new old_count count new_count before behind other_before other_behind few few_mid other few_new AtEnd (Agreeing split agree) =
    let of_old = ap length agree.tail.of_old in
    let of_new = ap length agree.tail.of_new in
    let old_parts = length-append split.old_tail split.old_front in
    let new_parts = length-append split.new_tail split.new_front in
    let same = same-count split.old_tail split.new_tail agree.tail.same_cards in
    record { ends = AtEnd; reach = omega (arith, of_old, of_new, old_parts, new_parts, same); rebound = omega arith }
join-ends old mid new old_count count new_count before behind other_before other_behind few few_mid other few_new (Agreeing split agree) AtEnd =
    let of_new = ap length agree.tail.of_new in
    let parts = length-append split.new_tail split.new_front in
    record { ends = AtEnd; reach = omega (arith, of_new, parts); rebound = omega arith }
join-ends old mid new old_count count new_count before behind other_before other_behind few few_mid other few_new (Agreeing one agree) (Agreeing two agrees) = elim (cases_lt (length two.old_front) (length one.new_front)) [
  | inl less ↦
      let more = lasts-in-old second two one.new_tail one.new_front agrees agree.tail.of_new (omega (arith, less)) in
      let longer = more.longer in
      let rebound = joined-rebounds old mid new old_count count new_count before behind other_before other_behind one.new_front one.new_tail more.new_front more.new_tail more.agree in
      let fewer = fewer-bound second more.new_tail more.new_front two.new_tail two.new_front (sym more.agree.tail.of_new ∙ agrees.tail.of_new) (omega (arith, longer, less)) in
      record {
        ends = Agreeing (record { old_front = one.old_front; old_tail = one.old_tail; new_front = more.new_front; new_tail = more.new_tail })
            (joined-place old mid new old_count count new_count before behind other_before other_behind few few_mid other few_new one.old_front one.old_tail one.new_front one.new_tail more.new_front more.new_tail agree more.agree);
        reach = omega (arith, longer, less);
        rebound = omega (arith, rebound, fewer);
      }
  | inr enough ↦
      let more = lasts-in-new first one two.old_tail two.old_front agree agrees.tail.of_old enough in
      let rebound = joined-rebounds old mid new old_count count new_count before behind other_before other_behind two.old_front two.old_tail two.new_front two.new_tail agrees in
      let fewer = fewer-bound first two.old_tail two.old_front one.new_tail one.new_front (sym agrees.tail.of_old ∙ agree.tail.of_new) enough in
      record {
        ends = Agreeing (record { old_front = more.old_front; old_tail = more.old_tail; new_front = two.new_front; new_tail = two.new_tail })
            (joined-place old mid new old_count count new_count before behind other_before other_behind few few_mid other few_new more.old_front more.old_tail two.old_front two.old_tail two.new_front two.new_tail more.agree agrees);
        reach = omega (arith, enough);
        rebound = omega (arith, rebound, fewer);
      }
]
  where
    first : Edited
    first = decks_of old mid old_count count before behind

    second : Edited
    second = decks_of mid new count new_count other_before other_behind

-- what is due for some edits made at once: a front and an end, known by those of each of them
pub record IsDueAtOnce (old new : List Statement) (old_count new_count before behind fronts ends_at between others : ℕ) : Type 0 where
  pub few_old : before + behind ≤ old_count
  pub few_new : before + behind ≤ new_count
  pub front : List Statement
  pub untouched : IsUntouched (decks_of old new old_count new_count before behind) front
  pub ends : Ends (decks_of old new old_count new_count before behind)
  pub within : in_front (decks_of old new old_count new_count before behind) ends + fronts ≤ length front + ends_at + between
  pub ordered : fronts ≤ ends_at
  pub rebound : rebound_front (decks_of old new old_count new_count before behind) front + rebound_behind (decks_of old new old_count new_count before behind) ends ≤ others

-- a front has no more statements than stand in front of where what is due ends, but for those of the cards between
front-within : (decks : Edited) (front : List Statement) (count : ℕ) (ends : Ends decks) → HaveCards decks.new → (behind : List Statement) × (decks.new ≡ behind ++ front) → length (cards_in front) ≤ count →
    length front ≤ in_front decks ends + (count - decks.new_behind)
front-within decks front count AtEnd have is few =
    let whole = ap length is.1 in
    let parts = length-append is.0 front in
    omega (arith, whole, parts)
front-within decks front count (Agreeing split agree) have is few =
    let apart = fronts-apart decks.new is.0 front split.new_tail split.new_front have is.1 agree.tail.of_new in
    let reaches = agree.tail.new_reaches in
    omega (arith, apart, reaches, few)

front-within-old : (decks : Edited) (front : List Statement) (count : ℕ) (ends : Ends decks) → HaveCards decks.old → (behind : List Statement) × (decks.old ≡ behind ++ front) → length (cards_in front) ≤ count →
    length front ≤ old_front_of decks ends + (count - decks.old_behind)
front-within-old decks front count AtEnd have is few =
    let whole = ap length is.1 in
    let parts = length-append is.0 front in
    omega (arith, whole, parts)
front-within-old decks front count (Agreeing split agree) have is few =
    let apart = fronts-apart decks.old is.0 front split.old_tail split.old_front have is.1 agree.tail.of_old in
    let reaches = agree.tail.old_reaches in
    omega (arith, apart, reaches, few)

-- where no card stands between
pub front-ordered : (decks : Edited) (front : List Statement) (count : ℕ) (ends : Ends decks) → HaveCards decks.new → (behind : List Statement) × (decks.new ≡ behind ++ front) → length (cards_in front) ≤ count →
    count ≤ decks.new_behind → length front ≤ in_front decks ends
front-ordered decks front count ends have is few reaches = let within = front-within decks front count ends have is few in omega (arith, within, reaches)

-- the statements of a front that are bound otherwise
bound-front : (decks : Edited) (front : List Statement) → rebound_front decks front ≡ rebounds (context_from decks.old) (context_from decks.new) (settled_all (kind_of_statements decks.new) front)
bound-front decks front = sym (rebounds-counted (context_from decks.old) (context_from decks.new) (settled_all (kind_of_statements decks.new) front))

fewer-in-front : (kind : DeckKind) (old new front shorter : List Statement) → (behind : List Statement) × (front ≡ behind ++ shorter) →
    rebounds (context_from old) (context_from new) (settled_all kind shorter) ≤ rebounds (context_from old) (context_from new) (settled_all kind front)
fewer-in-front kind old new front shorter is =
    let whole = ap (λ (l : List Statement). rebounds (context_from old) (context_from new) (settled_all kind l)) is.1 in
    let parts = front-rebounds kind (context_from old) (context_from new) is.0 shorter in
    omega (arith, whole, parts)

-- nor are more of them in a deck of another kind: there the front of both decks is made of neutral statements, none of which is bound
fewer-behind : (old mid new front other shorter : List Statement) → (behind : List Statement) × (mid ≡ behind ++ other) → (behind : List Statement) × (new ≡ behind ++ other) →
    (behind : List Statement) × (front ≡ behind ++ shorter) → (behind : List Statement) × (other ≡ behind ++ shorter) →
    rebounds (context_from old) (context_from mid) (settled_all (kind_of_statements new) shorter) ≤ rebounds (context_from old) (context_from mid) (settled_all (kind_of_statements mid) front)
fewer-behind old mid new front other shorter of_mid of_new in_front in_other = elim (same-kind (kind_of_statements mid) (kind_of_statements new)) [
  | inl same ↦
      let fewer = fewer-in-front (kind_of_statements mid) old mid front shorter in_front in
      let moved = ap (λ (k : DeckKind). rebounds (context_from old) (context_from mid) (settled_all k shorter)) same in
      omega (arith, fewer, moved)
  | inr others ↦
      let are = neutral-within in_other.0 shorter (subst AreNeutral in_other.1 (front-neutral other of_mid.0 of_new.0 mid new of_mid.1 of_new.1 others)) in
      let none = neutral-unbound (kind_of_statements new) (context_from old) (context_from mid) shorter are in
      omega (arith, none)
]

-- some edits, and others behind them
pub join : (old mid new : List Statement) (old_count count new_count before behind fronts ends_at between others other_before other_behind other_fronts other_ends other_between other_others : ℕ) →
    HaveCards mid → IsDueAtOnce old mid old_count count before behind fronts ends_at between others → IsDueAtOnce mid new count new_count other_before other_behind other_fronts other_ends other_between other_others →
    IsDueAtOnce old new old_count new_count (min before other_before) (min behind other_behind) (fronts + other_fronts) (ends_at + other_ends)
    (between + other_between + apart count before behind other_before other_behind) (others + other_others)
join old mid new old_count count new_count before behind fronts ends_at between others other_before other_behind other_fronts other_ends other_between other_others have one two =
    let few_old = one.few_old in
    let few_mid = one.few_new in
    let few = two.few_old in
    let few_new = two.few_new in
    let ends = join-ends old mid new old_count count new_count before behind other_before other_behind (omega (arith, few_old)) (omega (arith, few_mid)) (omega (arith, few)) (omega (arith, few_new)) one.ends two.ends in
    let found = shorter-of old mid new one.front two.front one.untouched.of_old one.untouched.of_new two.untouched.of_old two.untouched.of_new in
    let in_one = ap (λ (l : List Statement). length (cards_in l)) found.in_front.1 in
    let one_parts = cards_in-append found.in_front.0 found.shorter in
    let in_two = ap (λ (l : List Statement). length (cards_in l)) found.in_other.1 in
    let two_parts = cards_in-append found.in_other.0 found.shorter in
    let one_cards = one.untouched.unchanged in
    let two_cards = two.untouched.unchanged in
    let least = found.least in
    let reach = ends.reach in
    let one_within = one.within in
    let two_within = two.within in
    let one_ordered = one.ordered in
    let two_ordered = two.ordered in
    let behind_one = front-within first two.front other_before one.ends have two.untouched.of_old two_cards in
    let before_two = front-within-old second one.front before two.ends have one.untouched.of_new one_cards in
    let own = front-within-old second two.front other_before two.ends have two.untouched.of_old two_cards in
    let kind = kind_of_statements new in
    let both = rebounds-both (context_from old) (context_from mid) (context_from new) (settled_all kind found.shorter) in
    let fewer = fewer-behind old mid new one.front two.front found.shorter two.untouched.of_old two.untouched.of_new found.in_front found.in_other in
    let other_fewer = fewer-in-front kind mid new two.front found.shorter found.in_other in
    let whole_front = bound-front (decks_of old new old_count new_count (min before other_before) (min behind other_behind)) found.shorter in
    let first_front = bound-front first one.front in
    let second_front = bound-front second two.front in
    let tails = ends.rebound in
    let one_rebound = one.rebound in
    let two_rebound = two.rebound in
    record {
      few_old = omega (arith, few_old);
      few_new = omega (arith, few_new);
      front = found.shorter;
      untouched = record { of_old = found.of_first; of_new = found.of_third; unchanged = omega (arith, in_one, one_parts, in_two, two_parts, one_cards, two_cards) };
      ends = ends.ends;
      within = omega (arith, reach, one_within, two_within, one_ordered, two_ordered, behind_one, before_two, own, least, few);
      ordered = omega (arith, one_ordered, two_ordered);
      rebound = omega (arith, both, fewer, other_fewer, whole_front, first_front, second_front, tails, one_rebound, two_rebound);
    }
  where
    first : Edited
    first = decks_of old mid old_count count before behind

    second : Edited
    second = decks_of mid new count new_count other_before other_behind
