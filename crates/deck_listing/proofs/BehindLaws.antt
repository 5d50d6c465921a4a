-- The decks that begin behind END by the lines of an object are those by its statements.
use Rattle.std.{proofs.Common.{◌≡◌, ℕ, ◌+◌, Bool, true, false, List, [], ◌∷◌, length, drop, reverse, refl, ap, ap₂, ◌∙◌, arith, ◌++◌, append-nil}, specs.Prelude.{◌&&◌, Option, None, Some, filter, is_none, if◌then◌else◌, map}, proofs.lemmas.List.Elements.filter-append}
use Rattle.definitions.specs.{Cards.Card, DeckInput.Deck, DeckKinds.{behind_end, kind_of_statements, up_to_end}, Lengths.BlockRow, Objects.{Shown, context_of, object_of, only_listed, shown_of}, Settled.Settled, Settling.settled_all, StatementItems.Context, Statements.{Statement, statements_of}, Words.Coded, declared.deck_kind.DeckKind.DeckKind}
use Rattle.deck_objects.specs.declared.lines.FieldLists.{FieldLists}
use Rattle.deck_objects.specs.{Joins.CodedLines.{AreShown, IsStored}, Joins.PartsOf.ArePartsOf, declared.lines.CodedLine.CodedLine, declared.lines.Line.Line, declared.object.ObjectParts.ObjectParts}
use Rattle.deck_cuts.specs.Cuts.{begins_deck}
use Rattle.deck_listing.{specs.DecksBehind.{begins_with_deck, decks_behind, do_begin}, specs.Joins.LinesBehind.{begins_behind, begun_by, begun_in}, proofs.ListingLaws.{filter-reverse, one_more}}

-- a line stores nothing where its statement stands behind END
pub behind-same : (kind : DeckKind) (rows : List BlockRow) (lists : FieldLists) (line : Option CodedLine) (shown : Option Coded) → IsStored kind rows lists line shown → is_none line ≡ is_none shown
behind-same kind rows lists None None stored = refl
behind-same kind rows lists None (Some coded) stored = absurd stored
behind-same kind rows lists (Some line) None stored = absurd stored
behind-same kind rows lists (Some line) (Some coded) stored = refl

-- one more, or none
begun-length : (b : Bool) (x : Shown) (xs : List Shown) → (if b then 1 else 0) + length xs ≡ length (if b then x ∷ xs else xs)
begun-length true x xs = omega arith
begun-length false x xs = omega arith

begun-one : (cards : List Card) (behind : Bool) (x : Shown) (xs : List Shown) → begun_by cards behind + length xs ≡ length (if behind && do_begin cards then x ∷ xs else xs)
begun-one [] true x xs = omega arith
begun-one [] false x xs = omega arith
begun-one (card ∷ cards) behind x xs = begun-length (behind && begins_deck card) x xs

-- as many begin with lines as with the statements that they show
begun-same : (kind : DeckKind) (rows : List BlockRow) (lists : FieldLists) (stood : ℕ) (cards : List Card) (lines : List Line) (all : List Shown) →
    AreShown kind rows lists stood cards lines all → begun_in cards lines ≡ length (filter begins_behind all)
begun-same kind rows lists stood cards [] [] are = refl
begun-same kind rows lists stood cards [] (statement ∷ others) are = absurd are
begun-same kind rows lists stood cards (shown ∷ lines) [] are = absurd are
begun-same kind rows lists stood cards (shown ∷ lines) (statement ∷ others) are =
    ap₂ (λ (one rest : ℕ). one + rest)
    (ap₂ begun_by are.0.cards (behind-same kind rows lists shown.coded statement.coded are.0.stored))
    (begun-same kind rows lists (stood + shown.cards) (drop shown.cards cards) lines others are.1)
    ∙ begun-one statement.statement.cards (is_none statement.coded) statement (filter begins_behind others)

-- what is only listed begins as many as its statements
listed-count : (behind : List Statement) → length (filter begins_behind (map only_listed behind)) ≡ length (filter begins_with_deck behind)
listed-count [] = refl
listed-count (statement ∷ earlier) =
    one_more (do_begin statement.cards) (only_listed statement) (filter begins_behind (map only_listed earlier)) statement (filter begins_with_deck earlier) (listed-count earlier)

-- and what stands up to END none
coded-none : (context : Context) (settled : List Settled) → filter begins_behind (map (shown_of context) settled) ≡ []
coded-none context [] = refl
coded-none context (one ∷ earlier) = coded-none context earlier

shown-count : (deck : Deck) → length (filter begins_behind (object_of deck).shown) ≡ decks_behind deck
shown-count deck =
    let statements = statements_of (reverse deck.cards) in
    let behind = behind_end statements in
    let kind = kind_of_statements (up_to_end statements) in
    let settled = settled_all kind (up_to_end statements) in
    let context = context_of kind settled in
    ap length (filter-append begins_behind (map only_listed behind) (map (shown_of context) settled))
    ∙ ap (λ (l : List Shown). length (filter begins_behind (map only_listed behind) ++ l)) (coded-none context settled)
    ∙ ap length (append-nil (filter begins_behind (map only_listed behind)))
    ∙ listed-count behind

-- those of a deck
pub begun-all : (deck : Deck) (parts : ObjectParts) → ArePartsOf deck.cards parts (object_of deck) → begun_in deck.cards parts.lines.items ≡ decks_behind deck
begun-all deck parts are =
    begun-same parts.kind parts.bases parts.fields 0 deck.cards parts.lines.items (reverse (object_of deck).shown) are.shown
    ∙ filter-reverse begins_behind (object_of deck).shown ∙ shown-count deck
