-- Statements stand behind one another in the runs of their blocks.
use Rattle.std.{proofs.Common.{ℕ, ◌≡◌, ◌*◌, ◌%◌, ◌<◌, ◌≤◌, Bool, true, false, ◌&&◌, List, [], ◌∷◌, refl, subst, arith}, specs.Prelude.{map, All, reverse, if◌then◌else◌}, specs.List.AllByRecursion, proofs.lemmas.List.Elements.All-from_recursion}
use Rattle.definitions.{specs.Characters.same_text, specs.DeckInput.Deck, specs.DeckKinds.{kind_of_statements, up_to_end}, specs.Statements.{Statement, statements_of}, specs.Kinds.{units, most_words}, specs.Operations.{Operation, has_place}, specs.Places.{Position, position_in}, specs.Settled.{Settled, ReadStatement, read_of}, specs.Settling.{Seen, seen_of, settle, settled_with, settled_all, Standing, standing_of}, specs.StatementItems.{Item, Context, items_of}, specs.Words.Coded, specs.Objects.{coded_of, context_of, object_of}, specs.declared.deck_kind.DeckKind.DeckKind, proofs.WordLaws.picked_cond, proofs.TextLaws.same_text-true, specs.Laws.Rising.{end_with, run_end, IsLaidOut, AreLaidOut}, proofs.FillLaws.{settle-fill, settle-fit, settle-long}, proofs.EndLaws.{place_of-behind, place_of-within, outcome-ending}, proofs.BareLaws.{has_fields, unplaced_bare, settle-bare}}
use Rattle.definitions.specs.Operations as op

-- a statement behind those that are settled stands at or behind the end of its block
pub settle-behind : (kind : DeckKind) (earlier : List Settled) (statement : Statement) → (let settled = settle kind earlier statement in (position_in settled.block earlier).end ≤ settled.place)
settle-behind kind earlier statement =
    let seen = seen_of earlier in
    let read = read_of kind seen.number_base statement in
    place_of-behind kind read.operation read.operand read.fields.location seen.position

-- how a statement ends: behind its place, or an ORG at a word, within the block
record EndsWell (kind : DeckKind) (settled : Settled) : Type 0 where
  ordered : settled.begins_run ≡ false → settled.place ≤ settled.end
  within : settled.place ≤ units kind * most_words kind → settled.end ≤ units kind * most_words kind
  is_origin : settled.begins_run ≡ true → settled.read.operation ≡ op.Org
  at_word : settled.begins_run ≡ true → settled.end % units kind ≡ 0
  in_block : settled.begins_run ≡ true → settled.end < units kind * most_words kind

with-ends : (kind : DeckKind) (seen : Seen) (read : ReadStatement) (standing : Standing) → EndsWell kind (settled_with kind seen read standing)
with-ends kind seen read standing =
    let ending = outcome-ending kind read.operation read.operand seen.block standing.place standing.value in
    record { ordered = ending.ordered; within = ending.within; is_origin = ending.is_origin; at_word = ending.at_word; in_block = ending.in_block }

settle-ends : (kind : DeckKind) (earlier : List Settled) (statement : Statement) → EndsWell kind (settle kind earlier statement)
settle-ends kind earlier statement =
    let seen = seen_of earlier in
    let read = read_of kind seen.number_base statement in
    with-ends kind seen read (standing_of kind seen read)

-- a statement that begins no run ends at or behind its place
pub settle-ordered : (kind : DeckKind) (earlier : List Settled) (statement : Statement) → (let settled = settle kind earlier statement in settled.begins_run ≡ false → settled.place ≤ settled.end)
settle-ordered kind earlier statement = let ends = settle-ends kind earlier statement in ends.ordered

-- an ORG has no fields
org_bare : (operation : Operation) → operation ≡ op.Org → has_fields operation ≡ false
org_bare operation e = rw e refl

-- one that begins a run is an ORG
pub settle-origin : (kind : DeckKind) (earlier : List Settled) (statement : Statement) (context : Context) →
    (let settled = settle kind earlier statement in settled.begins_run ≡ true →
    (settled.read.operation ≡ op.Org) × (settled.end % units kind ≡ 0) × (settled.end < units kind * most_words kind) × (items_of context settled settled.read.operation ≡ []))
settle-origin kind earlier statement context =
    let ends = settle-ends kind earlier statement in
    λ h. (ends.is_origin h, ends.at_word h, ends.in_block h, settle-bare kind earlier statement context (org_bare _ (ends.is_origin h)))

-- positions lie within their blocks
abbrev AreWithin : DeckKind → List Settled → Type 0
AreWithin kind earlier = (block : List ℕ) → (position_in block earlier).end ≤ units kind * most_words kind

settle-place : (kind : DeckKind) (earlier : List Settled) (statement : Statement) → AreWithin kind earlier → (let settled = settle kind earlier statement in settled.place ≤ units kind * most_words kind)
settle-place kind earlier statement within =
    let seen = seen_of earlier in
    let read = read_of kind seen.number_base statement in
    place_of-within kind read.operation read.operand read.fields.location seen.position (within seen.block)

settle-end : (kind : DeckKind) (earlier : List Settled) (statement : Statement) → AreWithin kind earlier → (let settled = settle kind earlier statement in settled.end ≤ units kind * most_words kind)
settle-end kind earlier statement within = let ends = settle-ends kind earlier statement in ends.within (settle-place kind earlier statement within)

position-within : (kind : DeckKind) (settled : Settled) (earlier : List Settled) → settled.end ≤ units kind * most_words kind → AreWithin kind earlier → AreWithin kind (settled ∷ earlier)
position-within kind settled earlier h within = λ block.
    picked_cond (λ (position : Position). position.end ≤ units kind * most_words kind) (settled.is_placed && same_text settled.block block) _ _ h (within block)

settled_all-within : (kind : DeckKind) (statements : List Statement) → AreWithin kind (settled_all kind statements)
settled_all-within kind [] = λ block. omega arith
settled_all-within kind (statement ∷ statements) =
    let within = settled_all-within kind statements in
    position-within kind (settle kind (settled_all kind statements) statement) (settled_all kind statements) (settle-end kind (settled_all kind statements) statement within) within

-- all places lie within their blocks
pub places-within : (kind : DeckKind) (statements : List Statement) → All (λ (settled : Settled). settled.place ≤ units kind * most_words kind) (settled_all kind statements)
places-within kind statements = All-from_recursion _ (settled_all kind statements) (each statements)
  where
    each : (statements : List Statement) → AllByRecursion (λ (settled : Settled). settled.place ≤ units kind * most_words kind) (settled_all kind statements)
    each [] = tt
    each (statement ∷ statements) = (settle-place kind (settled_all kind statements) statement (settled_all-within kind statements), each statements)

-- and so do all ends
pub ends-within : (kind : DeckKind) (statements : List Statement) → All (λ (settled : Settled). settled.end ≤ units kind * most_words kind) (settled_all kind statements)
ends-within kind statements = All-from_recursion _ (settled_all kind statements) (each statements)
  where
    each : (statements : List Statement) → AllByRecursion (λ (settled : Settled). settled.end ≤ units kind * most_words kind) (settled_all kind statements)
    each [] = tt
    each (statement ∷ statements) = (settle-end kind (settled_all kind statements) statement (settled_all-within kind statements), each statements)

-- a statement more: the run of its block comes no farther than the block's position
run-step : (coded : Coded) (before : ℕ) (position : Position) (same placed begins : Bool) (fields : List Item) → coded.settled.begins_run ≡ begins → coded.fields ≡ fields → before ≤ position.end →
    (same ≡ true → position.end ≤ coded.settled.place) → (begins ≡ false → coded.settled.place ≤ coded.settled.end) → (placed ≡ false → fields ≡ []) →
    end_with same coded before ≤ (let next : Position = if placed && same then record { end = coded.settled.end; asks = coded.settled.asks } else position in next.end)
run-step coded before position false true begins fields b f h behind ordered bare = h
run-step coded before position false false begins fields b f h behind ordered bare = h
run-step coded before position true placed true fields b f h behind ordered bare = rw b (omega arith)
run-step coded before position true true false [] b f h behind ordered bare = rw (b, f) (let low = behind refl in let up = ordered refl in omega arith)
run-step coded before position true true false (item ∷ items) b f h behind ordered bare = rw (b, f) (omega arith)
run-step coded before position true false false [] b f h behind ordered bare = rw (b, f) h
run-step coded before position true false false (item ∷ items) b f h behind ordered bare = let none = bare refl in cc

-- the run of a block comes no farther than the block's position
pub run_end-behind : (kind : DeckKind) (statements : List Statement) (context : Context) (block : List ℕ) →
    (let settled = settled_all kind statements in run_end block (map (coded_of context) settled) ≤ (position_in block settled).end)
run_end-behind kind [] context block = omega arith
run_end-behind kind (statement ∷ statements) context block =
    let earlier = settled_all kind statements in
    let settled = settle kind earlier statement in
    let before = run_end-behind kind statements context block in
    run-step (coded_of context settled) (run_end block (map (coded_of context) earlier)) (position_in block earlier) (same_text settled.block block) settled.is_placed settled.begins_run
    (items_of context settled settled.read.operation) refl refl before
    (λ e. subst (λ b. (position_in b earlier).end ≤ settled.place) (same_text-true settled.block block e) (settle-behind kind earlier statement))
    (settle-ordered kind earlier statement)
    (λ e. settle-bare kind earlier statement context (unplaced_bare settled.read.operation e))

-- how one statement more is laid out
settle-laid_out : (kind : DeckKind) (statements : List Statement) (statement : Statement) (context : Context) → context.kind ≡ kind →
    IsLaidOut kind (coded_of context (settle kind (settled_all kind statements) statement)) (map (coded_of context) (settled_all kind statements))
settle-laid_out kind statements statement context e =
    let earlier = settled_all kind statements in
    let settled = settle kind earlier statement in
    let within = settled_all-within kind statements in
    let low = settle-behind kind earlier statement in
    let run = run_end-behind kind statements context settled.block in
    let origin = settle-origin kind earlier statement context in
    record {
      behind = omega arith;
      ordered = settle-ordered kind earlier statement;
      place_within = settle-place kind earlier statement within;
      end_within = settle-end kind earlier statement within;
      at_word = λ h. (origin h).1;
      in_block = λ h. (origin h).2;
      bare = λ h. (origin h).3;
      filled = settle-fill kind earlier statement context e;
      fitting = settle-fit kind earlier statement context e;
      long = settle-long kind earlier statement context e;
    }

-- statements are laid out one behind the other
pub statements-laid_out : (kind : DeckKind) (statements : List Statement) (context : Context) → context.kind ≡ kind → AreLaidOut kind (map (coded_of context) (settled_all kind statements))
statements-laid_out kind [] context e = tt
statements-laid_out kind (statement ∷ statements) context e = (settle-laid_out kind statements statement context e, statements-laid_out kind statements context e)

-- and so are those of an object
pub object-laid_out : (deck : Deck) → AreLaidOut (object_of deck).kind (object_of deck).coded
object-laid_out deck =
    let statements = up_to_end (statements_of (reverse deck.cards)) in
    let kind = kind_of_statements statements in
    statements-laid_out kind statements (context_of kind (settled_all kind statements)) refl
