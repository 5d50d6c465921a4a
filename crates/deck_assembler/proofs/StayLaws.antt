-- What an edited deck has of the one before, one statement after the other.
use Rattle.std.proofs.Common.{◌≡◌, ◌∙◌, ℕ, ◌+◌, ◌-◌, ◌≤◌, inl, inr, List, [], ◌∷◌, ◌++◌, length, refl, ap, sym, subst, arith, append_assoc}
use Rattle.definitions.specs.{Statements.Statement, declared.deck_kind.DeckKind.DeckKind}
use Rattle.deck_assembler.specs.Stays.{AreAsBeforeBut, IsAsBefore, IsCountedOrStays, RisesAnew}

-- the same statement behind the same ones
pub same-stays : (kind : DeckKind) (old behind earlier : List Statement) (statement : Statement) → behind ++ statement ∷ earlier ≡ old → IsAsBefore kind old earlier statement
same-stays kind old behind earlier statement all = record { before = earlier; other = statement; behind = behind; of_old = all; alike = refl }

-- a deck that begins as another has statements of that
pub stands-within : (kind : DeckKind) (old of behind earlier : List Statement) (statement : Statement) → old ≡ behind ++ of → IsAsBefore kind of earlier statement → IsAsBefore kind old earlier statement
stands-within kind old of behind earlier statement all is = record {
  before = is.before;
  other = is.other;
  behind = behind ++ is.behind;
  of_old = append_assoc behind is.behind (is.other ∷ is.before) ∙ ap (λ l. behind ++ l) is.of_old ∙ sym all;
  alike = is.alike;
}

pub within-all : (kind : DeckKind) (old of behind statements : List Statement) (count : ℕ) → old ≡ behind ++ of → AreAsBeforeBut kind of count statements → AreAsBeforeBut kind old count statements
within-all kind old of behind [] count all are = tt
within-all kind old of behind (statement ∷ earlier) count all (inl both) = inl (stands-within kind old of behind earlier statement all both.0, within-all kind old of behind earlier count all both.1)
within-all kind old of behind (statement ∷ earlier) count all (inr fewer) = inr (fewer.0, (fewer.1.0, within-all kind old of behind earlier fewer.0 all fewer.1.1))

-- all statements of a deck itself
pub own-stay : (kind : DeckKind) (old behind statements : List Statement) (count : ℕ) → behind ++ statements ≡ old → AreAsBeforeBut kind old count statements
own-stay kind old behind [] count all = tt
own-stay kind old behind (statement ∷ earlier) count all =
    inl (same-stays kind old behind earlier statement all, own-stay kind old (behind ++ statement ∷ []) earlier count (append_assoc behind (statement ∷ []) earlier ∙ all))

-- one statement more
pub stay-more : (kind : DeckKind) (old earlier : List Statement) (statement : Statement) (count so_far now : ℕ) → count ≤ so_far → so_far ≤ count + length earlier → RisesAnew kind old earlier count so_far →
    IsCountedOrStays kind old earlier statement so_far now → RisesAnew kind old (statement ∷ earlier) count now
stay-more kind old earlier statement count so_far now rises few are (inl one) = λ room. inr (so_far - count, (omega (arith, room, rises, few, one), are (omega (arith, room))))
stay-more kind old earlier statement count so_far now rises few are (inr kept) = λ room.
    inl (kept.1, subst (λ n. AreAsBeforeBut kind old (n - count) earlier) (sym kept.0) (are (omega (arith, room))))
