-- A walk over the statements of a deck: how it begins, one step of it, and its end.
use Rattle.std.proofs.{Common.{◌≡◌, ◌∙◌, ℕ, ◌+◌, true, List, [], ◌∷◌, ◌++◌, map, drop, reverse, refl, ap, sym, subst, append-nil, append_assoc}, lemmas.List.{drop-drop, map-append, reverse-append}}
use Rattle.definitions.specs.{Cards.Card, Lengths.block_rows, Objects.{Shown, shown_of, only_listed}, Settling.{settle, settled_all}, Statements.Statement}
use Rattle.deck_assembler.{specs.Joins.SizedDecks.{AreSizedFrom, AreListedFrom, IsListedStatement}, specs.declared.sized_statement.SizedStatement.SizedStatement, specs.Joins.Walks.{Whole, IsWhole, has_row, all_settled, context_in, AreLined, AreLinedAs, AreNoted}, specs.Joins.DeckWalks.{IsWalked, IsListing}, specs.declared.deck_lines.DeckLines.DeckLines, specs.declared.deck_walk.Making.Making, proofs.UsedLaws.block-there}

-- what a step makes of a statement
pub record IsStep (whole : Whole) (sized : SizedStatement) (old new : Making) (earlier : List Statement) (given : Statement) : Type 0 where
  pub lined : AreLined whole (given ∷ earlier) new.lines
  pub noted : AreNoted whole (given ∷ earlier) new.names
  pub stood : new.lines.stood ≡ old.lines.stood + sized.cards

-- the block of the next statement is among those of the deck
pub there : (whole : Whole) (earlier coming : List Statement) (given : Statement) → IsWhole whole → reverse (given ∷ coming) ++ earlier ≡ whole.known →
    has_row (settle whole.deck.kind (settled_all whole.deck.kind earlier) given).block whole.rows ≡ true
there whole earlier coming given is all =
    let kind = whole.deck.kind in
    let same : reverse coming ++ (given ∷ earlier) ≡ whole.known =
    sym (append_assoc (reverse coming) (given ∷ []) earlier) ∙ ap (λ l. l ++ earlier) (sym (reverse-append (given ∷ []) coming)) ∙ all in
    subst (λ rows. has_row (settle kind (settled_all kind earlier) given).block rows ≡ true) (sym is.rows)
    (subst (λ known. has_row (settle kind (settled_all kind earlier) given).block (block_rows kind (settled_all kind known)) ≡ true) same
    (subst (λ known. has_row (settle kind (settled_all kind earlier) given).block (block_rows kind (settled_all kind known)) ≡ true) (append_assoc (reverse coming) (given ∷ []) earlier)
    (block-there kind (reverse coming ++ given ∷ []) earlier given)))

-- behind END
pub walk-noted : (whole : Whole) (made : Making) → IsWalked whole [] made → AreNoted whole whole.known made.names
walk-noted whole made walked = step walked.coming walked.all walked.sized
  where
    step : (coming : List Statement) → reverse coming ++ walked.earlier ≡ whole.known →
        AreSizedFrom whole.deck.kind walked.earlier made.lines.stood (drop made.lines.stood whole.cards) [] coming whole.deck.behind (reverse whole.others) → AreNoted whole whole.known made.names
    step [] all h = subst (λ (l : List Statement). AreNoted whole l made.names) all walked.noted
    step (given ∷ coming) all h = absurd h

pub walk-listing : (whole : Whole) (made : Making) → IsWalked whole [] made → IsListing whole whole.deck.behind made.lines
walk-listing whole made walked = step walked.coming walked.all walked.sized
  where
    step : (coming : List Statement) → reverse coming ++ walked.earlier ≡ whole.known →
        AreSizedFrom whole.deck.kind walked.earlier made.lines.stood (drop made.lines.stood whole.cards) [] coming whole.deck.behind (reverse whole.others) → IsListing whole whole.deck.behind made.lines
    step [] all h = record {
      passed = [];
      coming = reverse whole.others;
      all = refl;
      listed = h;
      lined = subst (λ (shown : List Shown). AreLinedAs whole shown made.lines) (sym (append-nil (reverse (map (shown_of (context_in whole)) (all_settled whole)))))
          (subst (λ (l : List Statement). AreLined whole l made.lines) all walked.lined);
    }
    step (given ∷ coming) all h = absurd h

-- one statement more of those behind it
pub listing-step : (whole : Whole) (left : List ℕ) (count : ℕ) (old new : DeckLines) → IsListing whole (count ∷ left) old →
    ((shown : List Shown) (given : Statement) → IsListedStatement old.stood (drop old.stood whole.cards) count given → AreLinedAs whole shown old → AreLinedAs whole (shown ++ only_listed given ∷ []) new) →
    ((given : Statement) → IsListedStatement old.stood (drop old.stood whole.cards) count given → new.stood ≡ old.stood + count) → IsListing whole left new
listing-step whole left count old new listing next stood = step listing.coming listing.all listing.listed
  where
    front : List Shown
    front = reverse (map (shown_of (context_in whole)) (all_settled whole))

    step : (coming : List Statement) → listing.passed ++ coming ≡ reverse whole.others → AreListedFrom old.stood (drop old.stood whole.cards) (count ∷ left) coming → IsListing whole left new
    step [] all h = absurd h
    step (given ∷ coming) all h = record {
      passed = listing.passed ++ given ∷ [];
      coming = coming;
      all = append_assoc listing.passed (given ∷ []) coming ∙ all;
      listed = subst (λ n. AreListedFrom n (drop n whole.cards) left coming) (sym (stood given h.0))
          (subst (λ (ahead : List Card). AreListedFrom (old.stood + count) ahead left coming) (drop-drop count old.stood whole.cards) h.1);
      lined = subst (λ (shown : List Shown). AreLinedAs whole shown new)
          (append_assoc front (map only_listed listing.passed) (only_listed given ∷ []) ∙ ap (λ l. front ++ l) (sym (map-append only_listed listing.passed (given ∷ []))))
          (next (front ++ map only_listed listing.passed) given h.0 listing.lined);
    }
