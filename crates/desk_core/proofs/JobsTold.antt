-- What the history before a desk shows of its decks' records, newest first: the form that each step keeps.
use Rattle.std.{proofs.Common.{◌≡◌, ℕ, ◌<◌, ◌≤◌, ◌==◌, true, false, ◌||◌, List, [], ◌∷◌, Option, Some, None, is_some, sym, refl, ap, ◌∙◌, arith, ne_eqb, unwrap_or}, specs.Prelude.{⊤, if◌then◌else◌}, specs.Option.option_or, specs.List.AllByRecursion}
use Rattle.turn_office.specs.declared.history.Entry.{Entry}
use Rattle.desk_core.{specs.Joins.Language.same_text, specs.Joins.Edits.Edit, specs.Desks.{Desk, DeskDeck, Lease, new_desk_at}, specs.Joins.Calls.{AddDeck, PutDeck, Call, Make, Reply, Changed}, specs.Runs.History, specs.Jobs.{identity_in, identity_of, leased_in, deck_of_lease, effect_on, after_effect, since_job}, proofs.Same.{equal_texts, same_text-itself}}

-- the name that an entry gives to a deck of this identity, if it adds or puts it
abbrev pub name_in : ℕ → Call → Reply → Option (List ℕ)
name_in identity (Make by (AddDeck deck)) (Changed version) = if version == identity then Some deck.name else None
name_in identity (Make by (PutDeck deck seen)) (Changed version) = if version == identity then Some deck.name else None
name_in identity _ _ = None

-- the name of a deck, by its identity
abbrev pub name_of : ℕ → History → Option (List ℕ)
name_of identity [] = None
name_of identity (entry ∷ earlier) = option_or (name_in identity entry.call entry.reply) (name_of identity earlier)

-- the edits that a deck's record lacks, where the record is on the desk or out
abbrev pub since_of : DeskDeck → Option (List Edit)
since_of deck = if is_some deck.kept || is_some deck.lease then Some deck.waiting else None

-- a name and the identity that belongs to it
pub record IsMeant (history : History) (name : List ℕ) (identity : ℕ) : Type 0 where
  pub identity_is : identity_of name history ≡ Some identity
  pub name_is : name_of identity history ≡ Some name

-- a lease was given for what it is of, and is one of those given so far
abbrev pub IsLeaseTold : History → ℕ → Option ℕ → Option Lease → Type 0
IsLeaseTold history leases for None = ⊤
IsLeaseTold history leases for (Some lease) = (deck_of_lease lease.number history ≡ for) × (lease.number ≤ leases)

-- what is stated of a deck
pub record IsDeckTold (history : History) (version leases : ℕ) (deck : DeskDeck) : Type 0 where
  pub meant : IsMeant history deck.name deck.identity
  pub reached : deck.identity ≤ version
  pub since : since_job deck.identity history ≡ since_of deck
  pub leased : IsLeaseTold history leases (Some deck.identity) deck.lease

-- of a version that is not reached yet nothing is stated
abbrev pub IsUnreached : History → ℕ → Type 0
IsUnreached history version = (identity : ℕ) → version < identity → since_job identity history ≡ None

-- what is stated of a desk
pub record IsDeskTold (history : History) (desk : Desk) : Type 0 where
  pub decks : AllByRecursion (IsDeckTold history desk.version desk.leases) desk.decks
  pub link : IsLeaseTold history desk.leases None desk.link
  pub unreached : IsUnreached history desk.version

-- a new desk
pub desk_told_first : (begun : ℕ) → IsDeskTold [] (new_desk_at begun)
desk_told_first begun = record { decks = tt; link = tt; unreached = λ identity beyond. refl }

-- a call with its reply that adds no deck
pub record AddsNone (call : Call) (reply : Reply) : Type 0 where
  pub identities : (name : List ℕ) → identity_in name call reply ≡ None
  pub names : (identity : ℕ) → name_in identity call reply ≡ None

-- an entry that gives no lease that was given before
abbrev pub LeasesNone : Entry Call Reply → ℕ → Type 0
LeasesNone entry leases = (number : ℕ) → number ≤ leases → leased_in number entry.call entry.reply ≡ None

-- names and identities are as before where no deck is added
pub meant_still : (history : History) (entry : Entry Call Reply) (name : List ℕ) (identity : ℕ) → AddsNone entry.call entry.reply → IsMeant history name identity → IsMeant (entry ∷ history) name identity
meant_still history entry name identity none meant = record {
  identity_is = ap (λ (o : Option ℕ). option_or o (identity_of name history)) (none.identities name) ∙ meant.identity_is;
  name_is = ap (λ (o : Option (List ℕ)). option_or o (name_of identity history)) (none.names identity) ∙ meant.name_is;
}

-- a lease that was given before
pub lease_told_still : (history : History) (entry : Entry Call Reply) (leases more : ℕ) (for : Option ℕ) (lease : Option Lease) → LeasesNone entry leases → leases ≤ more →
    IsLeaseTold history leases for lease → IsLeaseTold (entry ∷ history) more for lease
lease_told_still history entry leases more for None none grown told = tt
lease_told_still history entry leases more for (Some lease) none grown told =
    let few = told.1 in
    (ap (λ (o : Option (Option ℕ)). unwrap_or o (deck_of_lease lease.number history)) (none lease.number few) ∙ told.0, omega arith)

-- the deck of a name has the identity that is meant
pub same_meant : (history : History) (name other : List ℕ) (identity another : ℕ) → IsMeant history name identity → IsMeant history other another → same_text name other ≡ true → identity ≡ another
same_meant history name other identity another a b same =
    let names : name ≡ other = equal_texts name other same in
    let e : Some identity ≡ Some another = sym a.identity_is ∙ (ap (λ (n : List ℕ). identity_of n history) names ∙ b.identity_is) in
    cc

-- a deck of another name has another identity
pub other_meant : (history : History) (name other : List ℕ) (identity another : ℕ) → IsMeant history name identity → IsMeant history other another → same_text name other ≡ false → (identity == another) ≡ false
other_meant history name other identity another a b differ = ne_eqb identity another (λ same.
    let e : Some name ≡ Some other = sym a.name_is ∙ (ap (λ (i : ℕ). name_of i history) same ∙ b.name_is) in
    let names : name ≡ other = cc in
    let itself = same_text-itself name in
    let told : same_text name name ≡ false = ap (λ (n : List ℕ). same_text name n) names ∙ differ in
    cc)

-- what is stated of a deck after one entry more, in the form that the step leaves
pub deck_told_next : (history : History) (entry : Entry Call Reply) (version after leases more : ℕ) (deck form : DeskDeck) → IsDeckTold history version leases deck →
    form.name ≡ deck.name → form.identity ≡ deck.identity → IsMeant (entry ∷ history) deck.name deck.identity → version ≤ after →
    after_effect (effect_on deck.identity history entry.call entry.reply) (since_of deck) ≡ since_of form →
    IsLeaseTold (entry ∷ history) more (Some deck.identity) form.lease → IsDeckTold (entry ∷ history) after more form
deck_told_next history entry version after leases more deck form told name identity meant grown since leased =
    let reached = told.reached in
    record {
      meant = rw (name, identity) meant;
      reached = omega arith;
      since = ap (λ (i : ℕ). since_job i (entry ∷ history)) identity ∙ (ap (λ (o : Option (List Edit)). after_effect (effect_on deck.identity history entry.call entry.reply) o) told.since ∙ since);
      leased = rw identity leased;
    }
