-- Which edits a deck job has to carry, known by the history before it (ours). Histories are read newest first here.
use Rattle.std.specs.{Prelude.{◌≡◌, ◌⊎◌, ⊤, ℕ, ◌==◌, List, [], ◌∷◌, ◌++◌, Option, Some, None, option_map, unwrap_or, if◌then◌else◌}, Option.option_or}
use Rattle.desk_core.specs.{Joins.Language.same_text, Joins.Edits.Edit, Joins.Calls.{Exactly, Since, AddDeck, PutDeck, EditDeck, Undo, Claim, DeliverDeck, GiveUp, Call, Make, Do, Reply, Changed, Carried, DeckJob, LinkJob, Cleared, Refused, Foreign, DeckWork, Start, FromRecord, FromCards}, Carrying.edits_of, Runs.History}

-- the identity that an entry gives to a deck of this name where it adds or puts one: the version that it makes
abbrev pub identity_in : List ℕ → Call → Reply → Option ℕ
identity_in name (Make by (AddDeck deck)) (Changed version) = if same_text name deck.name then Some version else None
identity_in name (Make by (PutDeck deck seen)) (Changed version) = if same_text name deck.name then Some version else None
identity_in name _ _ = None

-- the deck of a name, by its identity: the latest that was added or put under that name
abbrev pub identity_of : List ℕ → History → Option ℕ
identity_of name [] = None
identity_of name (entry ∷ earlier) = option_or (identity_in name entry.call entry.reply) (identity_of name earlier)

-- what an entry gave the lease of this number for, if it gave it: a deck, or none for a link
abbrev pub leased_in : ℕ → Call → Reply → Option (Option ℕ)
leased_in number (Do Claim) (DeckJob job) = if job.lease == number then Some (Some job.deck) else None
leased_in number (Do Claim) (LinkJob job) = if job.lease == number then Some None else None
leased_in number _ _ = None

-- the deck for which a lease was given, by its identity
abbrev pub deck_of_lease : ℕ → History → Option ℕ
deck_of_lease number [] = None
deck_of_lease number (entry ∷ earlier) = unwrap_or (leased_in number entry.call entry.reply) (deck_of_lease number earlier)

-- what an entry does to the record of a deck: a job hands it out with these edits, or the cards with none; it is lost; edits are accepted that it lacks; or nothing
pub data Effect : Type 0 where
  HandsOut : List Edit → Effect
  Loses : Effect
  Accepts : List Edit → Effect
  Leaves : Effect

-- the effect on a deck, where it is the one that is meant
abbrev pub effect_if : ℕ → Option ℕ → Effect → Effect
effect_if deck None effect = Leaves
effect_if deck (Some other) effect = if other == deck then effect else Leaves

-- the effect of a call with its reply on a deck: a foreign result loses the record, and so does giving up
abbrev pub effect_on : ℕ → History → Call → Reply → Effect
effect_on deck earlier (Make by (EditDeck name (Exactly seen) edits)) (Changed version) = effect_if deck (identity_of name earlier) (Accepts (edits_of edits))
effect_on deck earlier (Make by (EditDeck name (Since seen) edits)) (Carried version before made) = effect_if deck (identity_of name earlier) (Accepts made)
effect_on deck earlier (Make by (Undo name of_version)) (Carried version before edits) = effect_if deck (identity_of name earlier) (Accepts edits)
effect_on deck earlier (Do Claim) (DeckJob job) = effect_if deck (Some job.deck) (HandsOut job.edits)
effect_on deck earlier (Do (DeliverDeck done)) (Refused Foreign) = effect_if deck (deck_of_lease done.lease earlier) Loses
effect_on deck earlier (Do (GiveUp lease)) Cleared = effect_if deck (deck_of_lease lease earlier) Loses
effect_on deck earlier _ _ = Leaves

-- what is known of a deck's record, after one effect more
abbrev pub after_effect : Effect → Option (List Edit) → Option (List Edit)
after_effect (HandsOut edits) since = Some []
after_effect Loses since = None
after_effect (Accepts edits) since = option_map (λ (before : List Edit). before ++ edits) since
after_effect Leaves since = since

-- the edits of a deck that were accepted since its latest job, in order; none where it had no job yet, or its record was lost since
abbrev pub since_job : ℕ → History → Option (List Edit)
since_job deck [] = None
since_job deck (entry ∷ earlier) = after_effect (effect_on deck earlier entry.call entry.reply) (since_job deck earlier)

-- a job with the record has exactly the edits since the deck's latest job; one with cards has no edits, and is the deck's first or comes after a loss
abbrev pub IsDueFrom : Start → List Edit → Option (List Edit) → Type 0
IsDueFrom (FromRecord kept) edits since = since ≡ Some edits
IsDueFrom (FromCards cards) edits since = (since ≡ None) × (edits ≡ [])

-- a deck job is what the history before it makes due
abbrev pub IsDue : DeckWork → History → Type 0
IsDue job earlier = IsDueFrom job.start job.edits (since_job job.deck earlier)

-- the edits that an effect accepts
abbrev pub accepted_by : Effect → List Edit
accepted_by (Accepts edits) = edits
accepted_by _ = []

-- the edits that an effect hands out
abbrev pub handed_by : Effect → List Edit
handed_by (HandsOut edits) = edits
handed_by _ = []

-- all edits of a deck that were accepted, in order
abbrev pub accepted_edits : ℕ → History → List Edit
accepted_edits deck [] = []
accepted_edits deck (entry ∷ earlier) = accepted_edits deck earlier ++ accepted_by (effect_on deck earlier entry.call entry.reply)

-- all edits that a deck's jobs carried, one job after the other
abbrev pub handed_edits : ℕ → History → List Edit
handed_edits deck [] = []
handed_edits deck (entry ∷ earlier) = handed_edits deck earlier ++ handed_by (effect_on deck earlier entry.call entry.reply)

-- a part of a list: its elements in their order, some of them left out
abbrev pub IsPartOf : {A : Type 0} → List A → List A → Type 0
IsPartOf [] [] = ⊤
IsPartOf [] (x ∷ part) = ⊥
IsPartOf (y ∷ whole) [] = ⊤
IsPartOf (y ∷ whole) (x ∷ part) = ((y ≡ x) × IsPartOf whole part) ⊎ IsPartOf whole (x ∷ part)
