-- The listing of an object shows its statements with their fields.
use Rattle.std.{proofs.Common.{◌≡◌, List, [], ◌∷◌, ◌++◌, refl, ap}, specs.Prelude.{map, filter_map, reverse}}
use Rattle.definitions.specs.{DeckInput.Deck, DeckKinds.{kind_of_statements, up_to_end, behind_end}, Statements.{Statement, statements_of}, Settled.Settled, Settling.settled_all, StatementItems.Context, Objects.{Shown, coded_of, shown_of, only_listed, context_of, object_of}}

-- the statements up to END are shown with their fields
settled-shown : (context : Context) (settled : List Settled) → filter_map (λ (shown : Shown). shown.coded) (map (shown_of context) settled) ≡ map (coded_of context) settled
settled-shown context [] = refl
settled-shown context (one ∷ earlier) = ap (λ coded. coded_of context one ∷ coded) (settled-shown context earlier)

-- those behind it without
all-shown : (context : Context) (behind : List Statement) (settled : List Settled) →
    filter_map (λ (shown : Shown). shown.coded) (map only_listed behind ++ map (shown_of context) settled) ≡ map (coded_of context) settled
all-shown context [] settled = settled-shown context settled
all-shown context (statement ∷ behind) settled = all-shown context behind settled

-- the listing of an object shows its statements
pub object-shown : (deck : Deck) → filter_map (λ (shown : Shown). shown.coded) (object_of deck).shown ≡ (object_of deck).coded
object-shown deck =
    let statements = statements_of (reverse deck.cards) in
    let kind = kind_of_statements (up_to_end statements) in
    let settled = settled_all kind (up_to_end statements) in
    all-shown (context_of kind settled) (behind_end statements) settled
