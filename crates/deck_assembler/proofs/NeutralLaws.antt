-- Neutral statements settle alike in every kind of deck but for their two counters, and decks of two kinds begin alike by neutral ones alone.
use Rattle.std.{proofs.Common.{◌≡◌, ◌∙◌, ℕ, codes, ◌⊎◌, inl, inr, Bool, true, false, ◌&&◌, List, [], ◌∷◌, ◌++◌, Option, Some, None, map, flat_map, refl, sym, ap, ap₂, subst, if◌then◌else◌, append_assoc}, specs.Prelude.{reverse, nat_le, ◌||◌}, specs.List.AllByRecursion, proofs.lemmas.Bool.true≢false, proofs.lemmas.List.{map-append, reverse-append}, specs.Option.option_or}
use Rattle.definitions.{specs.Blocks.{changes, open_names, block_in_use, blocks_used, nominal}, specs.Characters.same_text, specs.Counters.{counters_at, counting_in}, specs.DeckKinds.{is_end, has_end, kind_made, kind_of, kind_of_statements, number_base_after}, specs.Fields.{Fields, fields_of}, specs.Forms.Form, specs.Letters.{entry_letters, letters_of}, specs.Operands.{Operand, Unread, BadOperand, base_operand, operand_of}, specs.Operations.{Operation, is_neutral, operation_of, or_instruction, is_instruction_name, pseudo_among, pseudo_instructions}, specs.Places.{no_position, position_in}, specs.Settled.{Settled, NoChange, Unchanged, defined, defined_in}, specs.Settling.{Seen, View, seen_of, number_base_of, all_neutral, settle, settled_all, settled_from, settled_read}, specs.StatementItems.{Context, Item, items_of, operand_items}, specs.Statements.Statement, specs.declared.deck_kind.DeckKind.DeckKind, specs.declared.deck_kind.DeckKind.TheVariants.{Rel, Abs, Periph}, specs.declared.letter.Letter.Letter, specs.declared.number_base.NumberBase.NumberBase, proofs.TextLaws.same_text-true}
use Rattle.definitions.specs.Operations as op

-- whether a statement may stand in front of ABS and PERIPH
abbrev pub IsNeutral : Statement → Type 0
IsNeutral statement = is_neutral (pseudo_among (fields_of statement.cards).operation pseudo_instructions) ≡ true

abbrev pub AreNeutral : List Statement → Type 0
AreNeutral statements = AllByRecursion IsNeutral statements

-- both counters of a neutral statement, in front of which stand neutral ones alone
abbrev pub counter_of : DeckKind → Form
counter_of kind = (counters_at kind nominal 0 None).origin

-- a settled statement with other counters
abbrev pub counted : Form → Settled → Settled
counted form settled = record {
  read = settled.read;
  block = settled.block;
  change = settled.change;
  is_placed = settled.is_placed;
  place = settled.place;
  end = settled.end;
  asks = settled.asks;
  begins_run = settled.begins_run;
  setting = settled.setting;
  location = form;
  origin = form;
  definitions = settled.definitions;
  letters = settled.letters;
}

-- what a neutral statement sees
abbrev calm_seen : NumberBase → Bool → View → Seen
calm_seen base neutral symbol =
    record { block = nominal; blocks = nominal ∷ []; position = no_position; counting = None; number_base = base; neutral = neutral; symbol = symbol }

-- a statement with this operation and this operand, behind neutral ones
abbrev closed : DeckKind → NumberBase → Bool → Statement → Operation → Operand → Settled
closed kind base neutral statement operation operand =
    let fields = fields_of statement.cards in
    settled_read kind (calm_seen base neutral (λ name. None)) (record { statement = statement; fields = fields; operation = operation; operand = operand })

-- what a neutral statement is: it reads nothing, or is a faulty BASE
abbrev IsPlain : Operation → Operand → Type 0
IsPlain operation operand =
    ((operation ≡ op.EmptyField) × (operand ≡ Unread)) ⊎ (((operation ≡ op.Listed) × (operand ≡ Unread)) ⊎ ((operation ≡ op.Base) × ((operand ≡ Unread) ⊎ (operand ≡ BadOperand))))

-- it is so in each kind of deck
record Plain (statement : Statement) : Type 0 where
  operation : Operation
  operand : Operand
  is : IsPlain operation operand
  among : (kind : DeckKind) → operation_of kind (fields_of statement.cards).operation ≡ operation
  read : (kind : DeckKind) (base : NumberBase) → operand_of kind base operation (fields_of statement.cards).operation (fields_of statement.cards).variable ≡ operand

base-bare : (text : List ℕ) → (base_operand text ≡ Unread) ⊎ (base_operand text ≡ BadOperand)
base-bare text = by (same_text text (codes "O")) (same_text text (codes "D"))
  where
    by : (b c : Bool) → ((if b then Unread else if c then Unread else BadOperand) ≡ Unread) ⊎ ((if b then Unread else if c then Unread else BadOperand) ≡ BadOperand)
    by true c = inl refl
    by false true = inl refl
    by false false = inr refl

plain-of : (statement : Statement) → IsNeutral statement → Plain statement
plain-of statement is = by (pseudo_among name pseudo_instructions) refl is
  where
    name : List ℕ
    name = (fields_of statement.cards).operation

    text : List ℕ
    text = (fields_of statement.cards).variable

    by : (found : Option Operation) → pseudo_among name pseudo_instructions ≡ found → is_neutral found ≡ true → Plain statement
    by (Some op.EmptyField) e h = record { operation = op.EmptyField; operand = Unread; is = inl (refl, refl); among = λ kind. ap (or_instruction kind name) e; read = λ kind base. refl }
    by (Some op.Listed) e h = record { operation = op.Listed; operand = Unread; is = inr (inl (refl, refl)); among = λ kind. ap (or_instruction kind name) e; read = λ kind base. refl }
    by (Some op.Base) e h = record { operation = op.Base; operand = base_operand text; is = inr (inr (refl, base-bare text)); among = λ kind. ap (or_instruction kind name) e; read = λ kind base. refl }
    by found e h = absurd (true≢false (sym h))

-- settled alike in each kind but for the counters
abbrev IsAlikeIn : DeckKind → NumberBase → Bool → Statement → Operation → Operand → Type 0
IsAlikeIn kind base neutral statement operation operand = closed kind base neutral statement operation operand ≡ counted (counter_of kind) (closed Rel base neutral statement operation operand)

alike-empty : (kind : DeckKind) (base : NumberBase) (neutral : Bool) (statement : Statement) → IsAlikeIn kind base neutral statement op.EmptyField Unread
alike-empty Rel base neutral statement = refl
alike-empty Abs base neutral statement = refl
alike-empty Periph base neutral statement = refl

alike-listed : (kind : DeckKind) (base : NumberBase) (neutral : Bool) (statement : Statement) → IsAlikeIn kind base neutral statement op.Listed Unread
alike-listed Rel base neutral statement = refl
alike-listed Abs base neutral statement = refl
alike-listed Periph base neutral statement = refl

alike-base : (kind : DeckKind) (base : NumberBase) (neutral : Bool) (statement : Statement) → IsAlikeIn kind base neutral statement op.Base Unread
alike-base Rel base neutral statement = refl
alike-base Abs base neutral statement = refl
alike-base Periph base neutral statement = refl

alike-bad : (kind : DeckKind) (base : NumberBase) (neutral : Bool) (statement : Statement) → IsAlikeIn kind base neutral statement op.Base BadOperand
alike-bad Rel base neutral statement = refl
alike-bad Abs base neutral statement = refl
alike-bad Periph base neutral statement = refl

alike-in : (kind : DeckKind) (base : NumberBase) (neutral : Bool) (statement : Statement) (operation : Operation) (operand : Operand) → IsPlain operation operand → IsAlikeIn kind base neutral statement operation operand
alike-in kind base neutral statement operation operand is = elim is [
  | inl both ↦ moved op.EmptyField Unread both.0 both.1 (alike-empty kind base neutral statement)
  | inr (inl both) ↦ moved op.Listed Unread both.0 both.1 (alike-listed kind base neutral statement)
  | inr (inr (one, inl none)) ↦ moved op.Base Unread one none (alike-base kind base neutral statement)
  | inr (inr (one, inr bad)) ↦ moved op.Base BadOperand one bad (alike-bad kind base neutral statement)
]
  where
    moved : (o : Operation) (v : Operand) → operation ≡ o → operand ≡ v → IsAlikeIn kind base neutral statement o v → IsAlikeIn kind base neutral statement operation operand
    moved o v e f h = subst (λ (both : Operation × Operand). IsAlikeIn kind base neutral statement both.0 both.1) (λ i. (sym e i, sym f i)) h

-- a statement that leaves all as it is
record IsCalm (settled : Settled) : Type 0 where
  change : settled.change ≡ NoChange
  placed : settled.is_placed ≡ false
  setting : settled.setting ≡ Unchanged
  definitions : settled.definitions ≡ []

calm-plain : (base : NumberBase) (neutral : Bool) (statement : Statement) (operation : Operation) (operand : Operand) → IsPlain operation operand → IsCalm (closed Rel base neutral statement operation operand)
calm-plain base neutral statement operation operand is = elim is [
  | inl both ↦ moved op.EmptyField Unread both.0 both.1 (record { change = refl; placed = refl; setting = refl; definitions = refl })
  | inr (inl both) ↦ moved op.Listed Unread both.0 both.1 (record { change = refl; placed = refl; setting = refl; definitions = refl })
  | inr (inr (one, inl none)) ↦ moved op.Base Unread one none (record { change = refl; placed = refl; setting = refl; definitions = refl })
  | inr (inr (one, inr bad)) ↦ moved op.Base BadOperand one bad (record { change = refl; placed = refl; setting = refl; definitions = refl })
]
  where
    moved : (o : Operation) (v : Operand) → operation ≡ o → operand ≡ v → IsCalm (closed Rel base neutral statement o v) → IsCalm (closed Rel base neutral statement operation operand)
    moved o v e f h = subst (λ (both : Operation × Operand). IsCalm (closed Rel base neutral statement both.0 both.1)) (λ i. (sym e i, sym f i)) h

-- what stands behind neutral statements: the nominal block, where nothing is
record IsCalmBehind (earlier : List Settled) : Type 0 where
  names : open_names (changes earlier) ≡ []
  used : blocks_used (changes earlier) ≡ nominal ∷ []
  position : (block : List ℕ) → position_in block earlier ≡ no_position
  counting : (block : List ℕ) → counting_in block earlier ≡ None
  symbols : (name : List ℕ) → defined name earlier ≡ None

calm-step : (settled : Settled) (earlier : List Settled) → IsCalm settled → IsCalmBehind earlier → IsCalmBehind (settled ∷ earlier)
calm-step settled earlier calm behind = record {
  names = ap (λ change. open_names (change ∷ changes earlier)) calm.change ∙ behind.names;
  used = ap (λ change. blocks_used (change ∷ changes earlier)) calm.change ∙ behind.used;
  position = λ block. rw calm.placed (behind.position block);
  counting = λ block. rw calm.setting (behind.counting block);
  symbols = λ name. ap (λ definitions. option_or (defined_in name definitions) (defined name earlier)) calm.definitions ∙ behind.symbols name;
}

settle-closed : (kind : DeckKind) (earlier : List Settled) (statement : Statement) (plain : Plain statement) → IsCalmBehind earlier →
    settle kind earlier statement ≡ closed kind (number_base_of earlier) (all_neutral earlier) statement plain.operation plain.operand
settle-closed kind earlier statement plain behind =
    let base = number_base_of earlier in
    let block = block_in_use (open_names (changes earlier)) in
    let name = (fields_of statement.cards).operation in
    let text = (fields_of statement.cards).variable in
    let seen : seen_of earlier ≡ calm_seen base (all_neutral earlier) (λ name. None) = λ i. record {
      block = block_in_use (behind.names i);
      blocks = behind.used i;
      position = behind.position block i;
      counting = behind.counting block i;
      number_base = base;
      neutral = all_neutral earlier;
      symbol = λ name. behind.symbols name i;
    } in
    ap (λ s. settled_from kind s statement) seen
    ∙ ap₂ (closed kind base (all_neutral earlier) statement) (plain.among kind) (ap (λ o. operand_of kind base o name text) (plain.among kind) ∙ plain.read kind base)

-- in any kind a neutral statement is what it is in a REL deck but for its counters, and calm
settle-plain : (kind : DeckKind) (earlier : List Settled) (statement : Statement) (plain : Plain statement) → IsCalmBehind earlier →
    settle kind earlier statement ≡ counted (counter_of kind) (closed Rel (number_base_of earlier) (all_neutral earlier) statement plain.operation plain.operand)
settle-plain kind earlier statement plain behind =
    settle-closed kind earlier statement plain behind ∙ alike-in kind (number_base_of earlier) (all_neutral earlier) statement plain.operation plain.operand plain.is

settle-calm : (kind : DeckKind) (earlier : List Settled) (statement : Statement) (plain : Plain statement) → IsCalmBehind earlier → IsCalm (settle kind earlier statement)
settle-calm kind earlier statement plain behind =
    let calm = calm-plain (number_base_of earlier) (all_neutral earlier) statement plain.operation plain.operand plain.is in
    subst IsCalm (sym (settle-plain kind earlier statement plain behind)) (record { change = calm.change; placed = calm.placed; setting = calm.setting; definitions = calm.definitions })

calm-behind : (kind : DeckKind) (earlier : List Statement) → AreNeutral earlier → IsCalmBehind (settled_all kind earlier)
calm-behind kind [] are = record { names = refl; used = refl; position = λ block. refl; counting = λ block. refl; symbols = λ name. refl }
calm-behind kind (statement ∷ earlier) are =
    let behind = calm-behind kind earlier are.1 in
    calm-step (settle kind (settled_all kind earlier) statement) (settled_all kind earlier) (settle-calm kind (settled_all kind earlier) statement (plain-of statement are.0) behind) behind

-- no symbol is defined behind neutral statements
pub neutral-view : (kind : DeckKind) (earlier : List Statement) → AreNeutral earlier → Path View (λ name. defined name (settled_all kind earlier)) (λ name. None)
neutral-view kind earlier are = λ i. λ name. (calm-behind kind earlier are).symbols name i

fields-same : (kind : DeckKind) (earlier : List Statement) → map (λ (settled : Settled). settled.read.fields) (settled_all kind earlier) ≡ map (λ (statement : Statement). fields_of statement.cards) earlier
fields-same kind [] = refl
fields-same kind (statement ∷ earlier) = ap (λ l. fields_of statement.cards ∷ l) (fields-same kind earlier)

-- the number base behind statements is the same in all kinds
pub base-same : (first second : DeckKind) (earlier : List Statement) → number_base_of (settled_all first earlier) ≡ number_base_of (settled_all second earlier)
base-same first second earlier = ap number_base_after (fields-same first earlier ∙ sym (fields-same second earlier))

plain-neutral : (operation : Operation) (operand : Operand) → IsPlain operation operand → is_neutral (Some operation) ≡ true
plain-neutral operation operand is = elim is [
  | inl both ↦ ap (λ o. is_neutral (Some o)) both.0
  | inr (inl both) ↦ ap (λ o. is_neutral (Some o)) both.0
  | inr (inr both) ↦ ap (λ o. is_neutral (Some o)) both.0
]

neutral-same : (kind : DeckKind) (earlier : List Statement) → AreNeutral earlier → all_neutral (settled_all kind earlier) ≡ true
neutral-same kind [] are = refl
neutral-same kind (statement ∷ earlier) are =
    let plain = plain-of statement are.0 in
    let rest = neutral-same kind earlier are.1 in
    ap₂ (λ (b c : Bool). b && c) (ap (λ o. is_neutral (Some o)) (plain.among kind) ∙ plain-neutral plain.operation plain.operand plain.is) rest

-- neutral statements settle alike in two kinds but for their counters
pub neutral-settles : (first second : DeckKind) (earlier : List Statement) (statement : Statement) → AreNeutral earlier → IsNeutral statement →
    settle second (settled_all second earlier) statement ≡ counted (counter_of second) (settle first (settled_all first earlier) statement)
neutral-settles first second earlier statement are is =
    let plain = plain-of statement is in
    let one = settle-plain first (settled_all first earlier) statement plain (calm-behind first earlier are) in
    let two = settle-plain second (settled_all second earlier) statement plain (calm-behind second earlier are) in
    let same = neutral-same first earlier are ∙ sym (neutral-same second earlier are) in
    two
    ∙ ap₂ (λ base neutral. counted (counter_of second) (closed Rel base neutral statement plain.operation plain.operand)) (base-same second first earlier) (sym same)
    ∙ sym (ap (counted (counter_of second)) one)

-- they define nothing
pub neutral-nothing : (kind : DeckKind) (earlier : List Statement) (statement : Statement) → AreNeutral earlier → IsNeutral statement → (settle kind (settled_all kind earlier) statement).definitions ≡ []
neutral-nothing kind earlier statement are is = (settle-calm kind (settled_all kind earlier) statement (plain-of statement is) (calm-behind kind earlier are)).definitions

-- which operations are neutral
pub neutral-known : (kind : DeckKind) (statement : Statement) → IsNeutral statement → is_neutral (Some (operation_of kind (fields_of statement.cards).operation)) ≡ true
neutral-known kind statement is = let plain = plain-of statement is in ap (λ o. is_neutral (Some o)) (plain.among kind) ∙ plain-neutral plain.operation plain.operand plain.is

pub neutral-told : (kind : DeckKind) (statement : Statement) → is_neutral (Some (operation_of kind (fields_of statement.cards).operation)) ≡ true → IsNeutral statement
neutral-told kind statement = by (pseudo_among name pseudo_instructions)
  where
    name : List ℕ
    name = (fields_of statement.cards).operation

    refused : (b : Bool) → is_neutral (Some (if b then op.Instruction else op.Unknown)) ≡ true → false ≡ true
    refused true h = h
    refused false h = h

    by : (found : Option Operation) → is_neutral (Some (or_instruction kind name found)) ≡ true → is_neutral found ≡ true
    by None h = refused (is_instruction_name kind name) h
    by (Some operation) h = h

-- a neutral statement has the letters that it was settled with, and no fields
entries-none : (kind : DeckKind) (settled : List Settled) (operation : Operation) (operand : Operand) → IsPlain operation operand → entry_letters kind settled operation operand ≡ []
entries-none Periph settled operation operand is = refl
entries-none Rel settled operation operand is = elim is [
  | inl both ↦ ap₂ (entry_letters Rel settled) both.0 both.1
  | inr (inl both) ↦ ap₂ (entry_letters Rel settled) both.0 both.1
  | inr (inr both) ↦ ap (λ o. entry_letters Rel settled o operand) both.0
]
entries-none Abs settled operation operand is = elim is [
  | inl both ↦ ap₂ (entry_letters Abs settled) both.0 both.1
  | inr (inl both) ↦ ap₂ (entry_letters Abs settled) both.0 both.1
  | inr (inr both) ↦ ap (λ o. entry_letters Abs settled o operand) both.0
]

fields-none : (context : Context) (settled : Settled) (operation : Operation) (operand : Operand) → IsPlain operation operand → operand_items context settled operand ≡ []
fields-none context settled operation operand is = elim is [
  | inl both ↦ ap (operand_items context settled) both.1
  | inr (inl both) ↦ ap (operand_items context settled) both.1
  | inr (inr (one, inl none)) ↦ ap (operand_items context settled) none
  | inr (inr (one, inr bad)) ↦ ap (operand_items context settled) bad
]

same-either : (b : Bool) (items : List Item) → items ≡ [] → (if b then [] else items) ≡ []
same-either true items e = refl
same-either false items e = e

items-none : (context : Context) (settled : Settled) (operation : Operation) (operand : Operand) → IsPlain operation operand → settled.read.operand ≡ operand → items_of context settled operation ≡ []
items-none context settled operation operand is same =
    let none = ap (operand_items context settled) same ∙ fields-none context settled operation operand is in
    elim is [
      | inl both ↦ ap (items_of context settled) both.0 ∙ same-either (nat_le settled.end settled.place) (operand_items context settled settled.read.operand) none
      | inr (inl both) ↦ ap (items_of context settled) both.0 ∙ same-either (nat_le settled.end settled.place) (operand_items context settled settled.read.operand) none
      | inr (inr both) ↦ ap (items_of context settled) both.0 ∙ same-either (nat_le settled.end settled.place) (operand_items context settled settled.read.operand) none
    ]

pub neutral-letters : (kind : DeckKind) (earlier : List Settled) (statement : Statement) (context : Context) → IsNeutral statement → let settled = settle kind earlier statement in letters_of context settled ≡ settled.letters ++ []
neutral-letters kind earlier statement context is =
    let settled = settle kind earlier statement in
    let plain = plain-of statement is in
    let operation : settled.read.operation ≡ plain.operation = plain.among kind in
    let operand : settled.read.operand ≡ plain.operand =
    ap (λ o. operand_of kind (number_base_of earlier) o (fields_of statement.cards).operation (fields_of statement.cards).variable) operation ∙ plain.read kind (number_base_of earlier) in
    ap₂ (λ (own : List Letter) (items : List Item). settled.letters ++ (own ++ flat_map (λ (bits : Item). bits.letters) items))
    (ap₂ (entry_letters context.kind context.settled) operation operand ∙ entries-none context.kind context.settled plain.operation plain.operand plain.is)
    (ap (operand_items context settled) operand ∙ fields-none context settled plain.operation plain.operand plain.is)

pub neutral-items : (kind : DeckKind) (earlier : List Settled) (statement : Statement) (context : Context) → IsNeutral statement →
    let settled = settle kind earlier statement in items_of context settled settled.read.operation ≡ []
neutral-items kind earlier statement context is =
    let settled = settle kind earlier statement in
    let plain = plain-of statement is in
    let operation : settled.read.operation ≡ plain.operation = plain.among kind in
    let operand : settled.read.operand ≡ plain.operand =
    ap (λ o. operand_of kind (number_base_of earlier) o (fields_of statement.cards).operation (fields_of statement.cards).variable) operation ∙ plain.read kind (number_base_of earlier) in
    ap (items_of context settled) operation ∙ items-none context settled plain.operation plain.operand plain.is operand

-- the fields of statements in the order of the deck
abbrev fields_forward : List Statement → List Fields
fields_forward statements = map (λ (statement : Statement). fields_of statement.cards) (reverse statements)

forward-step : (statement : Statement) (front : List Statement) (behind : List Fields) → fields_forward (statement ∷ front) ++ behind ≡ fields_forward front ++ (fields_of statement.cards ∷ behind)
forward-step statement front behind =
    ap (λ (l : List Statement). map (λ (s : Statement). fields_of s.cards) l ++ behind) (reverse-append (statement ∷ []) front)
    ∙ ap (λ (l : List Fields). l ++ behind) (map-append (λ (s : Statement). fields_of s.cards) (reverse front) (statement ∷ []))
    ∙ append_assoc (fields_forward front) (fields_of statement.cards ∷ []) behind

-- neutral statements leave the kind to those behind them
kind-behind : (front : List Statement) (behind : List Fields) → AreNeutral front → kind_of (fields_forward front ++ behind) ≡ kind_of behind
kind-behind [] behind are = refl
kind-behind (statement ∷ front) behind are =
    ap kind_of (forward-step statement front behind) ∙ kind-behind front (fields_of statement.cards ∷ behind) are.1
    ∙ ap (λ (b : Bool). if b then kind_of behind else kind_made (pseudo_among (fields_of statement.cards).operation pseudo_instructions)) are.0

-- others decide it
kind-told : (front : List Statement) → AreNeutral front ⊎ ((behind other : List Fields) → kind_of (fields_forward front ++ behind) ≡ kind_of (fields_forward front ++ other))
kind-told [] = inl tt
kind-told (statement ∷ front) = by (kind-told front) (is_neutral made) refl
  where
    made : Option Operation
    made = pseudo_among (fields_of statement.cards).operation pseudo_instructions

    here : (behind : List Fields) → AreNeutral front → is_neutral made ≡ false → kind_of (fields_forward (statement ∷ front) ++ behind) ≡ kind_made made
    here behind are e =
        ap kind_of (forward-step statement front behind) ∙ kind-behind front (fields_of statement.cards ∷ behind) are ∙ ap (λ (b : Bool). if b then kind_of behind else kind_made made) e

    by : AreNeutral front ⊎ ((behind other : List Fields) → kind_of (fields_forward front ++ behind) ≡ kind_of (fields_forward front ++ other)) → (b : Bool) → is_neutral made ≡ b →
        AreNeutral (statement ∷ front) ⊎ ((behind other : List Fields) → kind_of (fields_forward (statement ∷ front) ++ behind) ≡ kind_of (fields_forward (statement ∷ front) ++ other))
    by (inr same) b e = inr (λ behind other.
        ap kind_of (forward-step statement front behind) ∙ same (fields_of statement.cards ∷ behind) (fields_of statement.cards ∷ other) ∙ sym (ap kind_of (forward-step statement front other)))
    by (inl are) true e = inl (e, are)
    by (inl are) false e = inr (λ behind other. here behind are e ∙ sym (here other are e))

-- decks of two kinds begin alike by neutral statements alone
pub front-neutral : (front old_behind new_behind old new : List Statement) → old ≡ old_behind ++ front → new ≡ new_behind ++ front → (kind_of_statements old ≡ kind_of_statements new → ⊥) → AreNeutral front
front-neutral front old_behind new_behind old new e f other = elim (kind-told front) [
  | inl are ↦ are
  | inr same ↦ absurd (other (forward old_behind old e ∙ same (fields_forward old_behind) (fields_forward new_behind) ∙ sym (forward new_behind new f)))
]
  where
    forward : (behind all : List Statement) → all ≡ behind ++ front → kind_of_statements all ≡ kind_of (fields_forward front ++ fields_forward behind)
    forward behind all e =
        ap kind_of_statements e
        ∙ ap (λ (l : List Statement). kind_of (map (λ (s : Statement). fields_of s.cards) l)) (reverse-append behind front)
        ∙ ap kind_of (map-append (λ (s : Statement). fields_of s.cards) (reverse front) (reverse behind))

-- END is not neutral
pub neutral-open : (front : List Statement) → AreNeutral front → has_end front ≡ false
neutral-open [] are = refl
neutral-open (statement ∷ front) are = ap₂ (λ (b c : Bool). b || c) (by (is_end (fields_of statement.cards)) refl) (neutral-open front are.1)
  where
    by : (b : Bool) → is_end (fields_of statement.cards) ≡ b → is_end (fields_of statement.cards) ≡ false
    by false e = e
    by true e =
        let name = same_text-true (fields_of statement.cards).operation (codes "END") e in
        absurd (true≢false (sym are.0 ∙ ap (λ (n : List ℕ). is_neutral (pseudo_among n pseudo_instructions)) name))
